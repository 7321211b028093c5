use borrow.Author.Rules.{rules}
use Rattle.marks.specs.Marks.{bit}
use Rattle.marks.proofs.bit.Goals as goal

pub returns : goal.returns
unfolding bit
returns c = search rules

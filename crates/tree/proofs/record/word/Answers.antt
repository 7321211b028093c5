use native.Mathlib.Omega.{arith}
use Rattle.tree.proofs.RecordLaws.{word_bytes}
use Rattle.tree.proofs.record.word.Goals as goal

pub returns : goal.returns
returns c =
    let a = c.args in
    (omega (arith, word_bytes a.s.now a.o), omega arith)

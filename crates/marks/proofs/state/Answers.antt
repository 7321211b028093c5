use Rattle.std.proofs.Common.{arith}
use Rattle.marks.specs.Marks.{state_at, lower, upper}
use Rattle.marks.proofs.state.Goals as goal

pub returns-in-0 : goal.returns-in-0
unfolding state_at lower upper
returns-in-0 c = omega arith

pub returns-in-1 : goal.returns-in-1
unfolding state_at lower upper
returns-in-1 c = omega arith

pub returns-in-2 : goal.returns-in-2
unfolding state_at lower upper
returns-in-2 c = omega arith

pub returns-in_default : goal.returns-in_default
unfolding state_at lower upper
returns-in_default c = omega arith

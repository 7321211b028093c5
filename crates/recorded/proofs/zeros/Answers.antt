-- The length by a law: it is not counted out.
use Rattle.std.proofs.Common.{ℕ, sym}
use lib.ListN.{length-replicate}
use Rattle.recorded.proofs.zeros.Goals as goal

pub returns : goal.returns
returns c = sym (length-replicate {0} {A = ℕ} 1310720 0)

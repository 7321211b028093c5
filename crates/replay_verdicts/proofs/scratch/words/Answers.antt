-- The length by a law: it is not counted out.
use Rattle.std.proofs.Common.{ℕ, sym}
use lib.ListN.{length-replicate}
use Rattle.replay_verdicts.proofs.scratch.words.Goals as goal

pub returns : goal.returns
returns c = sym (length-replicate {0} {A = ℕ} 4096 0)

-- The length by a law: it is not counted out.
use Prim.Native.Nat.{ℕ}
use mathlib.Core.Path.{sym}
use lib.ListN.{length-replicate}
use Rattle.list.proofs.image_room.Goals as goal

pub returns : goal.returns
returns c = sym (length-replicate {0} {A = ℕ} 65537 0)

-- Laws of the tree's bytes and of the marker, by which opening's checks are made.
use Prim.Native.Nat.{ℕ, ◌+◌, ◌*◌, ◌/◌, ◌≤◌}
use mathlib.Core.Path.{◌≡◌, ap}
use mathlib.Core.Logic.{inl, inr}
use mathlib.Core.List.{List}
use native.Mathlib.Omega.{arith}
use lib.ListN.{length, length-take, length-drop}
use Rattle.std.specs.Prelude.{Some}
use Rattle.handle.specs.Handle.{data_start}
use Rattle.handle.proofs.HandleLaws.{Sized}
use Rattle.tree.specs.Marker.{marker_of}
use Rattle.tree.proofs.MarkerLaws.{marker_at}

-- the marker stands whole in the image
pub marker_inside : (s : List ℕ) {marker : ℕ} → marker_of s ≡ Some marker → marker + 14 ≤ length s
marker_inside s {marker} e = omega (arith, simp (length-take, length-drop) at (ap length (marker_at s marker e).0))

-- a node is a whole number of bytes
pub start_exact : {size : ℕ} (nodes : ℕ) → Sized size → nodes * (size / 4) + 16 ≡ data_start nodes size
start_exact nodes (inl e) = rw e (omega arith)
start_exact nodes (inr (inl e)) = rw e (omega arith)
start_exact nodes (inr (inr e)) = rw e (omega arith)

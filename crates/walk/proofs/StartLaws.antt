-- Laws of a walk's start.
use Prim.Native.Nat.{ℕ, ◌≤◌}
use mathlib.Core.Path.{◌≡◌, refl}
use mathlib.Core.Bool.{true}
use mathlib.Core.Logic.{◌⊎◌, inl, inr}
use native.Mathlib.Omega.{arith}
use Rattle.handle.specs.declared.Handle.{Handle}
use Rattle.handle.specs.Handle.{fits_of}
use Rattle.handle.proofs.HandleLaws.{fit, tree_whole}
use Rattle.tree.specs.Lookup.{Tree}
use Rattle.walk.specs.declared.Range.{Range}
use Rattle.walk.specs.declared.Range.TheVariants.{Ipv4, Ipv6}
use Rattle.walk.specs.Starts.{asked_of}

-- the tree of a handle that fits
pub tree_of : (h : Handle) (n : ℕ) → fits_of h n ≡ true → Tree n h.size h.nodes
tree_of h n e = let f = fit h n e in record { sized = f.sizes; inside = tree_whole f }

-- a width is 32 or 128
pub asked_wide : (r : Range) → ((asked_of r).width ≡ 32) ⊎ ((asked_of r).width ≡ 128)
asked_wide (Ipv4 a l) = inl refl
asked_wide (Ipv6 a l) = inr refl

pub wide_in : {width : ℕ} → (width ≡ 32) ⊎ (width ≡ 128) → width ≤ 128
wide_in (inl e) = omega arith
wide_in (inr e) = omega arith

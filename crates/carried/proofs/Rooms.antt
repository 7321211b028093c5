-- What holds of each waiting place of a walk, by its room.
use Prim.Native.Nat.{ℕ, ◌-◌, ◌<◌}
use mathlib.Core.Path.{◌≡◌, refl}
use mathlib.Core.Bool.{Bool, true, false}
use native.Mathlib.Omega.{arith}
use lib.ListN.{length, get_or, set}
use lib.Seq.{get_or-set_same, get_or-set_other}
use lib.Dec.{eqb}
use borrow.Author.Tests.{eqb-true, eqb-false}
use Rattle.place.specs.declared.Place.{Place}
use Rattle.walk.specs.declared.Walk.{Walk}
use Rattle.walk.specs.Walks.{none, taken, added}

module _ (P : ℕ → Place → Type 0) where
  abbrev pub Each : Walk → Type 0
  Each w = (i : ℕ) → i < w.count → P i (get_or w.places i none)

  pub each_taken : (w : Walk) → Each w → Each (taken w)
  each_taken w e i h =
      let n : i ≡ w.count - 1 → ⊥ = λ q. omega arith in
      rw (get_or-set_other w.places (w.count - 1) i none none n) (e i (omega arith))

  pub each_added : (w : Walk) (p : Place) → w.count < length w.places → Each w → P w.count p → Each (added w p)
  each_added w p r e q i h = pick (eqb i w.count) refl
    where
      pick : (b : Bool) → eqb i w.count ≡ b → P i (get_or (set w.places w.count p) i none)
      pick true f = let s = eqb-true i w.count f in rw (s, get_or-set_same w.places w.count p none r) q
      pick false f =
          let n = eqb-false i w.count f in
          rw (get_or-set_other w.places w.count i p none n) (e i (omega arith))

-- What each place comes to, of the waiting places of a walk in a row, the newest first.
use Prim.Native.Nat.{ℕ, zero, suc, ◌-◌, ◌<◌, ◌≤◌}
use mathlib.Core.Path.{◌≡◌, refl, ap, sym, ◌∙◌}
use mathlib.Core.List.{List, [], ◌++◌}
use native.Mathlib.Numerals.{add-one}
use native.Mathlib.Omega.{arith}
use lib.ListN.{length, get_or, set}
use lib.Seq.{get_or-set_same, get_or-set_other}
use Rattle.place.specs.declared.Place.{Place}
use Rattle.walk.specs.declared.Walk.{Walk}
use Rattle.walk.specs.Walks.{none, newest, taken, added}

module _ {A : Type 0} (f : Place → List A) where
  -- of the first n places
  unfoldable pub below : List Place → ℕ → List A
  below ps zero = []
  below ps (suc n) = f (get_or ps n none) ++ below ps n

  abbrev pub awaited : Walk → List A
  awaited w = below w.places w.count

  -- a place above those that wait changes nothing of them
  below_set : (ps : List Place) (i : ℕ) (p : Place) (n : ℕ) → n ≤ i → below (set ps i p) n ≡ below ps n
  unfolding below
  below_set ps i p zero h = refl
  below_set ps i p (suc n) h =
      let ne : n ≡ i → ⊥ = λ e. omega arith in
      rw (get_or-set_other ps i n p none ne, below_set ps i p n (omega arith))

  pub below_added : (w : Walk) (p : Place) → w.count < length w.places → awaited (added w p) ≡ f p ++ awaited w
  unfolding below
  below_added w p h =
      rw (add-one w.count, get_or-set_same w.places w.count p none h, below_set w.places w.count p w.count (omega arith))

  pub below_taken : (w : Walk) → 0 < w.count → awaited w ≡ f (newest w) ++ awaited (taken w)
  unfolding below
  below_taken w h =
      let e : w.count ≡ suc (w.count - 1) = omega arith in
      ap (below w.places) e
      ∙ ap (λ (l : List A). f (newest w) ++ l) (sym (below_set w.places (w.count - 1) none (w.count - 1) (omega arith)))

  pub below_none : (w : Walk) → w.count ≡ 0 → awaited w ≡ []
  unfolding below
  below_none w z = ap (below w.places) z

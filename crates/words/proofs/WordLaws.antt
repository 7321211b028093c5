-- Laws of a walk in words.
use Prim.Native.Nat.{ℕ, suc, ◌+◌, ◌<◌, ◌≤◌, ◌-◌}
use mathlib.Core.Path.{◌≡◌, refl}
use mathlib.Core.Bool.{Bool, true, false, ◌&&◌, false≢true}
use mathlib.Core.List.{List}
use native.Mathlib.Omega.{arith}
use lib.ListN.{length, get_or, set}
use lib.Dec.{leb}
use borrow.Author.Tests.{leb-true}
use Rattle.place.specs.declared.Place.{Place}
use Rattle.walk.specs.Walks.{none}
use Rattle.words.specs.Words.{holds_walk, place_at, places_from, put_place, put_from}

both : (a b : Bool) → (a && b) ≡ true → (a ≡ true) × (b ≡ true)
both true b e = (refl, e)
both false b e = absurd (false≢true e)

pub enough : (ws : List ℕ) → holds_walk ws ≡ true → 519 ≤ length ws
unfolding holds_walk
enough ws e = leb-true 519 (length ws) (both (leb 519 (length ws)) (leb (get_or ws 518 0) 7) e).0

places_step : (ws : List ℕ) (n i : ℕ) (ps : List Place) → places_from ws (suc n) i ps ≡ places_from ws n (i + 1) (set ps i (place_at ws i))
unfolding places_from
places_step ws n i ps = refl

put_step : (ps : List Place) (n i : ℕ) (ws : List ℕ) → put_from ps (suc n) i ws ≡ put_from ps n (i + 1) (put_place ws i (get_or ps i none))
unfolding put_from
put_step ps n i ws = refl

-- one place of the 129
pub places_on :
    (ws : List ℕ) (i : ℕ) (ps : List Place) → i < 129
    → places_from ws (129 - i) i ps ≡ places_from ws (129 - (i + 1)) (i + 1) (set ps i (place_at ws i))
places_on ws i ps less = let m : 129 - i ≡ suc (129 - (i + 1)) = omega arith in rw m (places_step ws (129 - (i + 1)) i ps)

pub put_on :
    (ps : List Place) (i : ℕ) (ws : List ℕ) → i < 129
    → put_from ps (129 - i) i ws ≡ put_from ps (129 - (i + 1)) (i + 1) (put_place ws i (get_or ps i none))
put_on ps i ws less = let m : 129 - i ≡ suc (129 - (i + 1)) = omega arith in rw m (put_step ps (129 - (i + 1)) i ws)

-- none left
pub places_end : (ws : List ℕ) (i : ℕ) (ps : List Place) → 129 ≤ i → places_from ws (129 - i) i ps ≡ ps
unfolding places_from
places_end ws i ps e = let m : 129 - i ≡ 0 = omega arith in rw m

pub put_end : (ps : List Place) (i : ℕ) (ws : List ℕ) → 129 ≤ i → put_from ps (129 - i) i ws ≡ ws
unfolding put_from
put_end ps i ws e = let m : 129 - i ≡ 0 = omega arith in rw m

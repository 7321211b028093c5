-- The walk that words hold, put into them again, leaves them as they are: a call that leaves the walk leaves its words.
use Prim.Native.Nat.{ℕ, zero, suc, ◌+◌, ◌<◌, ◌≤◌}
use mathlib.Core.Path.{◌≡◌, refl, sym, ap, ◌∙◌}
use mathlib.Core.Bool.{Bool, true, false, ◌&&◌, false≢true}
use mathlib.Core.List.{List}
use native.Mathlib.Omega.{arith}
use lib.ListN.{length, get_or, set, replicate, length-set}
use lib.Seq.{get_or-set_same, get_or-set_other, set-get_or}
use lib.Dec.{leb, eqb}
use borrow.Author.Tests.{leb-true, eqb-true, eqb-false}
use Rattle.place.specs.declared.Place.{Place}
use Rattle.walk.specs.Walks.{none}
use Rattle.words.specs.Words.{options_of, options_number, holds_walk, place_at, places_from, walk_of, put_place, put_from, held}

-- the options of a number up to 7 give it again
options_kept : (n : ℕ) → n ≤ 7 → options_number (options_of n) ≡ n
options_kept zero l = refl
options_kept (suc zero) l = refl
options_kept (suc (suc zero)) l = refl
options_kept (suc (suc (suc zero))) l = refl
options_kept (suc (suc (suc (suc zero)))) l = refl
options_kept (suc (suc (suc (suc (suc zero))))) l = refl
options_kept (suc (suc (suc (suc (suc (suc zero)))))) l = refl
options_kept (suc (suc (suc (suc (suc (suc (suc zero))))))) l = refl
options_kept (suc (suc (suc (suc (suc (suc (suc (suc n)))))))) l = absurd (omega arith)

module _ (ws : List ℕ) where
  -- a place below those that are read stays
  below : (n i j : ℕ) (ps : List Place) → j < i → get_or (places_from ws n i ps) j none ≡ get_or ps j none
  unfolding places_from
  below zero i j ps l = refl
  below (suc n) i j ps l = below n (i + 1) j (set ps i (place_at ws i)) (omega arith) ∙ get_or-set_other ps i j (place_at ws i) none (λ e. omega arith)

  -- the first that is read, and those after it
  by_first :
      (n i j : ℕ) (ps : List Place) → i ≤ j → i < length ps
      → (i + 1 ≤ j → get_or (places_from ws n (i + 1) (set ps i (place_at ws i))) j none ≡ place_at ws j)
      → (b : Bool) → eqb j i ≡ b → get_or (places_from ws n (i + 1) (set ps i (place_at ws i))) j none ≡ place_at ws j
  by_first n i j ps l r rest true e =
      let q : j ≡ i = eqb-true j i e in
      below n (i + 1) j (set ps i (place_at ws i)) (omega (arith, q)) ∙ ap (λ (k : ℕ). get_or (set ps i (place_at ws i)) k none) q
      ∙ get_or-set_same ps i (place_at ws i) none r ∙ ap (place_at ws) (sym q)
  by_first n i j ps l r rest false e = rest (omega (arith, eqb-false j i e))

  -- each that is read is the words' own
  among : (n i j : ℕ) (ps : List Place) → i ≤ j → j < i + n → i + n ≤ length ps → get_or (places_from ws n i ps) j none ≡ place_at ws j
  unfolding places_from
  among zero i j ps l m r = absurd (omega arith)
  among (suc n) i j ps l m r =
      by_first n i j ps l (omega arith) (λ k. among n (i + 1) j (set ps i (place_at ws i)) k (omega arith) (simp length-set (omega arith))) (eqb j i) refl

  -- a place put where it stands
  put_same : (i : ℕ) → put_place ws i (place_at ws i) ≡ ws
  put_same i = simp set-get_or

  put_kept : (ps : List Place) (n i : ℕ) → ((j : ℕ) → i ≤ j → j < i + n → get_or ps j none ≡ place_at ws j) → put_from ps n i ws ≡ ws
  unfolding put_from
  put_kept ps zero i e = refl
  put_kept ps (suc n) i e = rw (e i (omega arith) (omega arith), put_same i) (put_kept ps n (i + 1) (λ j l m. e j (omega arith) (omega arith)))

both : (a b : Bool) → (a && b) ≡ true → b ≡ true
both true b e = e
both false b e = absurd (false≢true e)

pub held_same : (ws : List ℕ) → holds_walk ws ≡ true → held ws (walk_of ws) ≡ ws
unfolding held walk_of holds_walk
held_same ws e =
    let few = leb-true (get_or ws 518 0) 7 (both (leb 519 (length ws)) (leb (get_or ws 518 0) 7) e) in
    let kept = put_kept ws (places_from ws 129 0 (replicate 129 none)) 129 0 (λ j l m. among ws 129 0 j (replicate 129 none) l m (omega arith)) in
    rw (kept, options_kept (get_or ws 518 0) few) (simp set-get_or)

-- Laws of the marker: where it is found it stands whole, and at no later place.
use Prim.Native.Nat.{ℕ, zero, suc, ◌+◌, ◌-◌, ◌≤◌, ◌<◌}
use mathlib.Core.Path.{◌≡◌, refl, ap, sym, subst, ◌∙◌}
use mathlib.Core.Bool.{Bool, true, false, cond, ◌&&◌, and-false, false≢true}
use mathlib.Core.Logic.{◌⊎◌, inl, inr, ⊎_elim}
use mathlib.Core.List.{List}
use native.Mathlib.Numerals.{add-one}
use native.Mathlib.Omega.{arith}
use lib.ListN.{length, get_or, take, drop, length-take, length-drop}
use lib.Seq.{get_or-take, get_or-drop, ext_get_or}
use lib.Dec.{eqb, ltb}
use borrow.Author.Tests.{eq-eqb, ne_eqb, eqb-true, eqb-false, ltb-true, ltb-false}
use Rattle.std.specs.Prelude.{Option, Some, None}
use Rattle.tree.specs.Marker.{marker, agree, last_below, marker_of}

pub agree_none : (s : List ℕ) (i : ℕ) → agree s i 0 ≡ true
unfolding agree
agree_none s i = refl

pub agree_more : (s : List ℕ) (i k : ℕ) → agree s i k ≡ true → get_or s (i + k) 0 ≡ get_or marker k 0 → agree s i (k + 1) ≡ true
unfolding agree
agree_more s i k h e = rw (add-one k) (simp (h, eq-eqb (get_or s (i + k) 0) (get_or marker k 0) e))

below_or_at : (k m : ℕ) → k < suc m → (b : Bool) → ltb k m ≡ b → (k < m) ⊎ (k ≡ m)
below_or_at k m h true e = inl (ltb-true k m e)
below_or_at k m h false e = inr (omega (arith, ltb-false k m e))

pub agree_stop : (s : List ℕ) (i k : ℕ) → (get_or s (i + k) 0 ≡ get_or marker k 0 → ⊥) → (m : ℕ) → k < m → agree s i m ≡ false
unfolding agree
agree_stop s i k ne zero h = absurd (omega arith)
agree_stop s i k ne (suc m) h =
    ⊎_elim
    (λ l. ap (λ (b : Bool). b && eqb (get_or s (i + m) 0) (get_or marker m 0)) (agree_stop s i k ne m l))
    (λ e. ap (λ (b : Bool). agree s i m && b) (ne_eqb (get_or s (i + m) 0) (get_or marker m 0) (rw e at ne)) ∙ and-false (agree s i m))
    (below_or_at k m h (ltb k m) refl)

pub last_miss : (s : List ℕ) (k : ℕ) → 0 < k → agree s (k - 1) 14 ≡ false → last_below s k ≡ last_below s (k - 1)
unfolding last_below
last_miss s zero p h = absurd (omega arith)
last_miss s (suc k) p h =
    let e : suc k - 1 ≡ k = omega arith in
    rw e (simp (rw e at h))

pub last_hit : (s : List ℕ) (k : ℕ) → 0 < k → agree s (k - 1) 14 ≡ true → last_below s k ≡ Some (k - 1)
unfolding last_below
last_hit s zero p h = absurd (omega arith)
last_hit s (suc k) p h =
    let e : suc k - 1 ≡ k = omega arith in
    rw e (simp (rw e at h))

pub last_none : (s : List ℕ) (k : ℕ) → k ≤ 0 → last_below s k ≡ None
unfolding last_below
last_none s zero h = refl
last_none s (suc k) h = absurd (omega arith)

-- what is known of the last place below k
Last : List ℕ → ℕ → Option ℕ → Type 0
Last s k (Some i) = (i < k) × (agree s i 14 ≡ true) × ((j : ℕ) → i < j → j < k → agree s j 14 ≡ false)
Last s k None = (j : ℕ) → j < k → agree s j 14 ≡ false

misses_more :
    (s : List ℕ) (i k : ℕ) → agree s k 14 ≡ false → ((j : ℕ) → i ≤ j → j < k → agree s j 14 ≡ false)
    → (j : ℕ) → i ≤ j → j < suc k → agree s j 14 ≡ false
misses_more s i k e f j g h = ⊎_elim (f j g) (λ q. rw q e) (below_or_at j k h (ltb j k) refl)

last_step : (s : List ℕ) (k : ℕ) (t : Bool) (m : Option ℕ) → agree s k 14 ≡ t → Last s k m → Last s (suc k) (cond t (Some k) m)
unfolding Last
last_step s k true m e l = (omega arith, e, λ j g h. absurd (omega arith))
last_step s k false (Some i) e l =
    (omega (arith, l.0), l.1, λ j g h. misses_more s (suc i) k e (λ j g h. l.2 j (omega arith) h) j (omega arith) h)
last_step s k false None e l = λ j h. misses_more s 0 k e (λ j g h. l j h) j (omega arith) h

last : (s : List ℕ) (k : ℕ) → Last s k (last_below s k)
unfolding last_below Last
last s zero = λ j h. absurd (omega arith)
last s (suc k) = last_step s k (agree s k 14) (last_below s k) refl (last s k)

-- the marker stands whole at i
abbrev pub Stands : List ℕ → ℕ → Type 0
Stands s i = take 14 (drop i s) ≡ marker

agree_at : (s : List ℕ) (i m : ℕ) → agree s i m ≡ true → (k : ℕ) → k < m → get_or s (i + k) 0 ≡ get_or marker k 0
agree_at s i m e k h = pick (eqb (get_or s (i + k) 0) (get_or marker k 0)) refl
  where
    pick : (t : Bool) → eqb (get_or s (i + k) 0) (get_or marker k 0) ≡ t → get_or s (i + k) 0 ≡ get_or marker k 0
    pick true f = eqb-true _ _ f
    pick false f = absurd (false≢true (sym (agree_stop s i k (eqb-false _ _ f) m h) ∙ e))

agree_all : (s : List ℕ) (i m : ℕ) → ((k : ℕ) → k < m → get_or s (i + k) 0 ≡ get_or marker k 0) → agree s i m ≡ true
agree_all s i zero f = agree_none s i
agree_all s i (suc m) f = rw (sym (add-one m)) (agree_more s i m (agree_all s i m (λ k h. f k (omega arith))) (f m (omega arith)))

stands_of : (s : List ℕ) (i : ℕ) → i + 14 ≤ length s → agree s i 14 ≡ true → Stands s i
stands_of s i l e =
    let n : length (take 14 (drop i s)) ≡ 14 = simp (length-take, length-drop) (omega arith) in
    ext_get_or 0 (take 14 (drop i s)) marker n
    (λ k h. get_or-take 14 (drop i s) k 0 (omega arith) ∙ get_or-drop i s k 0 ∙ agree_at s i 14 e k (omega arith))

stands_inside : (s : List ℕ) (i : ℕ) → Stands s i → i + 14 ≤ length s
stands_inside s i e = omega (arith, simp (length-take, length-drop) at (ap length e))

stands_agree : (s : List ℕ) (i : ℕ) → Stands s i → agree s i 14 ≡ true
stands_agree s i e =
    agree_all s i 14 (λ k h. sym (get_or-take 14 (drop i s) k 0 h ∙ get_or-drop i s k 0) ∙ ap (λ (l : List ℕ). get_or l k 0) e)

known : (s : List ℕ) → Last s (length s + 1 - 14) (marker_of s)
unfolding marker_of
known s = last s (length s + 1 - 14)

never : (s : List ℕ) (i : ℕ) → agree s i 14 ≡ false → Stands s i → ⊥
never s i e h = false≢true (sym e ∙ stands_agree s i h)

-- where the marker is found it stands whole, and at no later place
pub marker_at : (s : List ℕ) (i : ℕ) → marker_of s ≡ Some i → Stands s i × ((j : ℕ) → i < j → Stands s j → ⊥)
unfolding Last
marker_at s i e =
    let l : Last s (length s + 1 - 14) (Some i) = subst (Last s (length s + 1 - 14)) e (known s) in
    (stands_of s i (omega (arith, l.0)) l.1, λ j g h. never s j (l.2 j g (omega (arith, stands_inside s j h))) h)

-- and it is missed only where it stands nowhere
pub marker_nowhere : (s : List ℕ) → marker_of s ≡ None → (i : ℕ) → Stands s i → ⊥
unfolding Last
marker_nowhere s e i h =
    let l : Last s (length s + 1 - 14) None = subst (Last s (length s + 1 - 14)) e (known s) in
    never s i (l i (omega (arith, stands_inside s i h))) h

-- so both determine the answer
same_place : (i j : ℕ) → (i < j → ⊥) → (j < i → ⊥) → i ≡ j
same_place i j f g = pick (ltb i j) refl (ltb j i) refl
  where
    pick : (t : Bool) → ltb i j ≡ t → (u : Bool) → ltb j i ≡ u → i ≡ j
    pick true p u q = absurd (f (ltb-true i j p))
    pick false p true q = absurd (g (ltb-true j i q))
    pick false p false q = omega (arith, ltb-false i j p, ltb-false j i q)

pub marker_found : (s : List ℕ) (i : ℕ) → Stands s i → ((j : ℕ) → i < j → Stands s j → ⊥) → marker_of s ≡ Some i
marker_found s i h f = pick (marker_of s) refl
  where
    pick : (m : Option ℕ) → marker_of s ≡ m → marker_of s ≡ Some i
    pick (Some k) e =
        let l = marker_at s k e in
        e ∙ ap Some (same_place k i (λ p. l.1 i p h) (λ p. f k p l.0))
    pick None e = absurd (marker_nowhere s e i h)

pub marker_missing : (s : List ℕ) → ((i : ℕ) → Stands s i → ⊥) → marker_of s ≡ None
marker_missing s f = pick (marker_of s) refl
  where
    pick : (m : Option ℕ) → marker_of s ≡ m → marker_of s ≡ None
    pick (Some k) e = absurd (f k (marker_at s k e).0)
    pick None e = e

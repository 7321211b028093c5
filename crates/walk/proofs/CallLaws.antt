-- Laws of a walk's call.
use Prim.Native.Nat.{ℕ, zero, suc, ◌+◌, ◌-◌, ◌<◌, ◌≤◌}
use mathlib.Core.Path.{◌≡◌, refl, sym, ◌∙◌}
use mathlib.Core.Bool.{Bool, true, false, not, ◌&&◌, ◌||◌, false≢true}
use mathlib.Core.Logic.{◌⊎◌, inl, inr}
use mathlib.Core.List.{List}
use native.Mathlib.Omega.{arith}
use lib.ListN.{set}
use lib.Dec.{ltb, eqb}
use borrow.Author.Tests.{eq-eqb, ne_eqb, lt-ltb, le-ltb, eqb-true, eqb-false, ltb-false}
use Rattle.refusal.specs.declared.Refusal.TheVariants as refusal
use Rattle.handle.specs.declared.Handle.{Handle}
use Rattle.place.specs.Shape.{frame_out, key_out, newest_out}
use Rattle.place.specs.Turns.{child_of}
use Rattle.place.specs.declared.Place.{Place}
use Rattle.place.specs.declared.Outcome.{Outcome}
use Rattle.place.specs.declared.Outcome.TheVariants.{Refused, Paused, End}
use Rattle.place.specs.declared.Turn.{Turn}
use Rattle.place.specs.declared.Turn.TheVariants.{Passed, Out, Opened}
use Rattle.walk.specs.declared.Walk.{Walk}
use Rattle.walk.specs.declared.Called.{Called}
use Rattle.walk.specs.Walks.{none, newest, taken}
use Rattle.walk.specs.Calls.{out_of_shape, turn_at, after, called, ends, goes}

neither : (a b : Bool) → (a || b) ≡ false → (a ≡ false) × (b ≡ false)
neither true b e = absurd (false≢true (sym e))
neither false b e = (refl, e)

either_width : (width : ℕ) (a b : Bool) → eqb width 32 ≡ a → eqb width 128 ≡ b → not (a || b) ≡ false → (width ≡ 32) ⊎ (width ≡ 128)
either_width width true b p q e = inl (eqb-true width 32 p)
either_width width false true p q e = inr (eqb-true width 128 q)
either_width width false false p q e = absurd (false≢true (sym e))

-- count and width of a walk in shape
pub frame_in : (count width : ℕ) → frame_out count width ≡ false → (count ≤ 129) × ((width ≡ 32) ⊎ (width ≡ 128))
frame_in count width e =
    let n = neither (ltb 129 count) (not (eqb width 32 || eqb width 128)) e in
    (ltb-false 129 count n.0, either_width width (eqb width 32) (eqb width 128) refl refl n.1)

-- another count of the same width
pub frame_of : (count other width : ℕ) → frame_out count width ≡ false → other ≤ 129 → frame_out other width ≡ false
frame_of count other width e few = simp (le-ltb 129 other few, (neither (ltb 129 count) (not (eqb width 32 || eqb width 128)) e).1)

-- its newest place: no longer than the width, and with room for a child if it is a node above full width
pub newest_long : (nodes count width : ℕ) (p : Place) → newest_out nodes count width p ≡ false → p.len ≤ width
unfolding newest_out
newest_long nodes count width p e =
    let a = neither (ltb width p.len || key_out width p.key) _ e in
    ltb-false width p.len (neither (ltb width p.len) (key_out width p.key) a.0).0

pub newest_room :
    (nodes count width : ℕ) (p : Place) → newest_out nodes count width p ≡ false → p.value < nodes → p.len < width → count ≡ 129 → ⊥
unfolding newest_out
newest_room nodes count width p e h l c =
    let a = neither (ltb width p.len || key_out width p.key) (ltb p.value nodes && ltb p.len width && eqb count 129) e in
    false≢true (sym a.1 ∙ simp (lt-ltb _ _ h, lt-ltb _ _ l, eq-eqb _ _ c))

module _ (nodes : ℕ) (w : Walk) where
  pub out_by_frame : frame_out w.count w.width ≡ true → out_of_shape nodes w ≡ true
  unfolding out_of_shape
  out_by_frame e = simp e

  module _ (live : w.count ≡ 0 → ⊥) (frame : frame_out w.count w.width ≡ false) {b : Bool} where
    pub out_by_newest : newest_out nodes w.count w.width (newest w) ≡ b → out_of_shape nodes w ≡ b
    unfolding out_of_shape
    out_by_newest e = simp (frame, lt-ltb 0 w.count (omega arith), e)

-- the children's rooms: the node's own, and the one above it
pub after_opened :
    (s : List ℕ) (h : Handle) (w : Walk) → 0 < w.count
    → after s h w Opened
    ≡ record {
      places =
          set (set (set w.places (w.count - 1) none) (w.count - 1) (child_of s h.size w.width (newest w) 1)) w.count
          (child_of s h.size w.width (newest w) 0);
      count = w.count + 1;
      width = w.width;
      options = w.options;
    }
after_opened s h w live = let e : w.count - 1 + 1 ≡ w.count = omega arith in rw e

-- what a call comes to, by the walk that it meets
module _ (s : List ℕ) (h : Handle) (t : ℕ) (w : Walk) where
  pub goes_end : (n : ℕ) → w.count ≡ 0 → goes s h n t w ≡ called End t w
  unfolding goes
  goes_end zero e = simp (eq-eqb _ _ e)
  goes_end (suc n) e = simp (eq-eqb _ _ e)

  module _ (live : w.count ≡ 0 → ⊥) where
    pub goes_out : (n : ℕ) → out_of_shape h.nodes w ≡ true → goes s h n t w ≡ called (Refused refusal.OutOfShape) t w
    unfolding goes
    goes_out zero e = simp (ne_eqb _ _ live, e)
    goes_out (suc n) e = simp (ne_eqb _ _ live, e)

    module _ (shaped : out_of_shape h.nodes w ≡ false) where
      pub goes_paused : (n : ℕ) → n ≡ 0 → goes s h n t w ≡ called Paused t w
      unfolding goes
      goes_paused zero z = simp (ne_eqb _ _ live, shaped)
      goes_paused (suc n) z = absurd (omega arith)

      -- one place is taken
      pub goes_on :
          (n : ℕ) (turn : Turn) → turn_at s h w ≡ turn
          → goes s h (suc n) t w ≡ ends turn (λ a. called a (t + 1) (after s h w turn)) (goes s h n (t + 1) (after s h w turn))
      unfolding goes
      goes_on n turn e = simp (ne_eqb _ _ live, shaped, e)

      -- the same by the budget b, of which t are taken
      pub goes_within :
          (b : ℕ) → t < b → (turn : Turn) → turn_at s h w ≡ turn
          → goes s h (b - t) t w ≡ ends turn (λ a. called a (t + 1) (after s h w turn)) (goes s h (b - (t + 1)) (t + 1) (after s h w turn))
      goes_within b less turn e =
          let m : b - t ≡ suc (b - (t + 1)) = omega arith in
          rw m (goes_on (b - (t + 1)) turn e)

-- what holds of a call, from what holds at each of its ends and is kept by each place that it takes
module _ (s : List ℕ) (h : Handle) (R : ℕ → ℕ → Walk → Called → Type 0) where
  abbrev Live : Walk → Type 0
  Live w = w.count ≡ 0 → ⊥

  -- a waiting place may be taken
  abbrev Ready : Walk → Type 0
  Ready w = Live w × (out_of_shape h.nodes w ≡ false)

  pub record Cases : Type 0 where
    pub end : (n t : ℕ) (w : Walk) → w.count ≡ 0 → R n t w (called End t w)
    pub out : (n t : ℕ) (w : Walk) → Live w → out_of_shape h.nodes w ≡ true → R n t w (called (Refused refusal.OutOfShape) t w)
    pub paused : (t : ℕ) (w : Walk) → Ready w → R 0 t w (called Paused t w)
    pub handed : (n t : ℕ) (w : Walk) (a : Outcome) → Ready w → turn_at s h w ≡ Out a → R (suc n) t w (called a (t + 1) (taken w))
    pub passed : (n t : ℕ) (w : Walk) (c : Called) → Ready w → turn_at s h w ≡ Passed → R n (t + 1) (taken w) c → R (suc n) t w c
    pub opened :
        (n t : ℕ) (w : Walk) (c : Called) → Ready w → turn_at s h w ≡ Opened → R n (t + 1) (after s h w Opened) c → R (suc n) t w c

  module _ (k : Cases) where
    turn_by :
        (n t : ℕ) (w : Walk) → ((w : Walk) → R n (t + 1) w (goes s h n (t + 1) w)) → Ready w → (turn : Turn) → turn_at s h w ≡ turn
        → R (suc n) t w (goes s h (suc n) t w)
    turn_by n t w rec r Passed e = rw (goes_on s h t w r.0 r.1 n Passed e) (k.passed n t w _ r e (rec (taken w)))
    turn_by n t w rec r (Out a) e = rw (goes_on s h t w r.0 r.1 n (Out a) e) (k.handed n t w a r e)
    turn_by n t w rec r Opened e = rw (goes_on s h t w r.0 r.1 n Opened e) (k.opened n t w _ r e (rec (after s h w Opened)))

    gate_by :
        (n t : ℕ) (w : Walk) → (Ready w → R n t w (goes s h n t w)) → (a b : Bool) → eqb w.count 0 ≡ a → out_of_shape h.nodes w ≡ b
        → R n t w (goes s h n t w)
    gate_by n t w more true b e f = let z = eqb-true _ _ e in rw (goes_end s h t w n z) (k.end n t w z)
    gate_by n t w more false true e f =
        let l = eqb-false _ _ e in
        rw (goes_out s h t w l n f) (k.out n t w l f)
    gate_by n t w more false false e f = more (eqb-false _ _ e, f)

    pub by_goes : (n t : ℕ) (w : Walk) → R n t w (goes s h n t w)
    by_goes zero t w =
        gate_by zero t w (λ r. rw (goes_paused s h t w r.0 r.1 zero refl) (k.paused t w r)) (eqb w.count 0) (out_of_shape h.nodes w) refl refl
    by_goes (suc n) t w =
        gate_by (suc n) t w (λ r. turn_by n t w (by_goes n (t + 1)) r (turn_at s h w) refl) (eqb w.count 0) (out_of_shape h.nodes w) refl refl

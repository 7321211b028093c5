-- A walk out of shape, and what its newest place comes to.
use Prim.Native.Nat.{ℕ, ◌+◌, ◌-◌, ◌^◌, ◌≤◌, ◌<◌}
use mathlib.Core.Path.{◌≡◌, refl, sym, ap, ◌∙◌}
use mathlib.Core.Bool.{Bool, true, false, cond, not, ◌&&◌, ◌||◌, false≢true, and-eq-true_iff}
use mathlib.Core.Logic.{inl, inr, ⊎_elim}
use mathlib.Core.List.{List, drop}
use native.Mathlib.Omega.{arith}
use lib.ListN.{length}
use lib.Dec.{eqb, ltb, leb}
use borrow.Author.Tests.{eq-eqb, ne_eqb, lt-ltb, lt-leb, eqb-true, eqb-false, ltb-true, ltb-false, leb-false}
use Rattle.std.specs.Prelude.{Option, Some, None, Result, Ok, Err}
use Rattle.std.proofs.lemmas.Bool.{or_cases}
use Rattle.number.specs.Keys.{number_of}
use Rattle.refusal.specs.declared.Refusal.{Refusal}
use Rattle.refusal.specs.declared.Refusal.TheVariants as refusal
use Rattle.handle.specs.declared.Handle.{Handle}
use Rattle.tree.specs.Lookup.{answer_of}
use Rattle.tree.specs.declared.Found.{Found}
use Rattle.control.specs.Pointers.{behind_at}
use Rattle.control.specs.declared.Head.{Head}
use Rattle.value.specs.Empty.{empty_on, empty_at}
use Rattle.place.specs.Kinds.{is_skipped}
use Rattle.place.specs.Shape.{frame_out, key_out, newest_out}
use Rattle.place.specs.Turns.{network_of, unless_empty, end_of, turn_of}
use Rattle.place.specs.declared.Outcome.{Outcome}
use Rattle.place.specs.declared.Outcome.TheVariants as outcome
use Rattle.place.specs.declared.Turn.{Turn}
use Rattle.place.specs.declared.Turn.TheVariants.{Passed, Out, Opened}
use Rattle.walk.specs.declared.Walk.{Walk}
use Rattle.walk.specs.Walks.{newest}
use Rattle.walk.specs.Calls.{data_section, out_of_shape, turn_at}
use Rattle.maxminddb.specs.Answers.{next_verdict}
use Rattle.order.specs.Order.{Table, First}
use Rattle.promises.specs.Walks.{OutOfShape, crowded, other_width, too_long, wide_key, no_room, TooDeep, BadValue, call_table}
use Rattle.promises.proofs.Offsets.{Told, none, offset, neither, told}

or_first : (a b : Bool) → a ≡ true → (a || b) ≡ true
or_first a b e = simp e

or_second : (a b : Bool) → b ≡ true → (a || b) ≡ true
or_second true b e = refl
or_second false b e = e

not_true : (a : Bool) → not a ≡ true → a ≡ false
not_true true e = absurd (false≢true e)
not_true false e = refl

module _ (nodes : ℕ) (w : Walk) where
  width_out : (a b : Bool) → eqb w.width 32 ≡ a → eqb w.width 128 ≡ b → not (a || b) ≡ true → OutOfShape nodes w
  width_out true b p q e = absurd (false≢true e)
  width_out false true p q e = absurd (false≢true e)
  width_out false false p q e = other_width (eqb-false _ _ p) (eqb-false _ _ q)

  frame_out_lem : frame_out w.count w.width ≡ true → OutOfShape nodes w
  frame_out_lem e =
      ⊎_elim
      (λ p. crowded (ltb-true 129 w.count p))
      (λ p. width_out (eqb w.width 32) (eqb w.width 128) refl refl p)
      (or_cases (ltb 129 w.count) (not (eqb w.width 32 || eqb w.width 128)) e)

  key_out_lem : key_out w.width (newest w).key ≡ true → OutOfShape nodes w
  key_out_lem e =
      let p = (and-eq-true_iff (eqb w.width 32) (not (leb (number_of (newest w).key) (2 ^ 32 - 1)))).0 e in
      let l = leb-false (number_of (newest w).key) (2 ^ 32 - 1) (not_true _ p.1) in
      wide_key (eqb-true w.width 32 p.0) (omega arith)

  room_out : (ltb (newest w).value nodes && ltb (newest w).len w.width && eqb w.count 129) ≡ true → OutOfShape nodes w
  room_out e =
      let p = (and-eq-true_iff (ltb (newest w).value nodes && ltb (newest w).len w.width) (eqb w.count 129)).0 e in
      let q = (and-eq-true_iff (ltb (newest w).value nodes) (ltb (newest w).len w.width)).0 p.0 in
      no_room (ltb-true _ _ q.0) (ltb-true _ _ q.1) (eqb-true _ _ p.1)

  newest_out_lem : newest_out nodes w.count w.width (newest w) ≡ true → OutOfShape nodes w
  unfolding newest_out
  newest_out_lem e =
      ⊎_elim
      (λ p. ⊎_elim (λ q. too_long (ltb-true _ _ q)) key_out_lem (or_cases (ltb w.width (newest w).len) (key_out w.width (newest w).key) p))
      room_out
      (or_cases (ltb w.width (newest w).len || key_out w.width (newest w).key)
      (ltb (newest w).value nodes && ltb (newest w).len w.width && eqb w.count 129) e)

  -- out of shape by the test is out of shape by the list
  pub shape_out : out_of_shape nodes w ≡ true → OutOfShape nodes w
  unfolding out_of_shape
  shape_out e =
      ⊎_elim frame_out_lem (λ p. newest_out_lem ((and-eq-true_iff (ltb 0 w.count) (newest_out nodes w.count w.width (newest w))).0 p).1)
      (or_cases (frame_out w.count w.width) (ltb 0 w.count && newest_out nodes w.count w.width (newest w)) e)

  -- and the other way, where a place waits
  newest_is :
      (w.count ≡ 0 → ⊥) → newest_out nodes w.count w.width (newest w) ≡ true → out_of_shape nodes w ≡ true
  unfolding out_of_shape
  newest_is live e = or_second (frame_out w.count w.width) _ (simp (lt-ltb 0 w.count (omega arith), e))

  out_shape : (w.count ≡ 0 → ⊥) → OutOfShape nodes w → out_of_shape nodes w ≡ true
  unfolding out_of_shape newest_out
  out_shape live (crowded l) = or_first (frame_out w.count w.width) _ (or_first (ltb 129 w.count) _ (lt-ltb _ _ l))
  out_shape live (other_width a b) =
      or_first (frame_out w.count w.width) _ (or_second (ltb 129 w.count) _ (simp (ne_eqb w.width 32 a, ne_eqb w.width 128 b)))
  out_shape live (too_long l) = newest_is live (simp (lt-ltb w.width (newest w).len l))
  out_shape live (wide_key e l) =
      newest_is live
      (or_first (ltb w.width (newest w).len || key_out w.width (newest w).key) _
      (or_second (ltb w.width (newest w).len) _ (simp (eq-eqb w.width 32 e, lt-leb (number_of (newest w).key) (2 ^ 32 - 1) (omega arith)))))
  out_shape live (no_room v l e) =
      newest_is live
      (or_second (ltb w.width (newest w).len || key_out w.width (newest w).key) _
      (simp (lt-ltb (newest w).value nodes v, lt-ltb (newest w).len w.width l, eq-eqb w.count 129 e)))

  pub in_shape_lem : (w.count ≡ 0 → ⊥) → out_of_shape nodes w ≡ false → OutOfShape nodes w → ⊥
  in_shape_lem live e o = false≢true (sym e ∙ out_shape live o)

-- a value of which it cannot be seen whether it is empty is malformed
only_malformed : (d : List ℕ) (o : ℕ) {x : Refusal} → empty_at d o ≡ Err x → x ≡ refusal.Malformed
unfolding empty_at
only_malformed d o = by (behind_at d o)
  where
    by : (m : Option Head) {x : Refusal} → empty_on m ≡ Err x → x ≡ refusal.Malformed
    by (Some m) e = cc
    by None e = cc

-- what the newest place of a walk in shape comes to, by the rows 12, 11 and 14
module _ (s : List ℕ) (h : Handle) (w : Walk) (long : (newest w).len ≤ w.width) where
  abbrev rows : Table
  rows = drop 4 (call_table s h 0 w)

  abbrev room : ℕ
  room = length (data_section s h)

  -- a place that hands out something hands out what the rows say
  abbrev By : Turn → Type 0
  By Passed = Unit
  By (Out a) = First rows (next_verdict a)
  By Opened = Unit

  module _ (terminal : h.nodes ≤ (newest w).value) where
    not_deep : TooDeep h w → ⊥
    not_deep p = let q = p.0 in omega arith

    unless :
        (o : ℕ) → o < room → (newest w).value ≡ h.nodes + 16 + o → w.options.skipempty ≡ true → (e : Result Bool Refusal) → empty_at (data_section s h) o ≡ e
        → By (unless_empty e (network_of h w.width (newest w) (Some o)))
    unless o l v k (Ok true) e = tt
    unless o l v k (Ok false) e = inr (not_deep, inr ((λ n. n.1 o l v), inr (fine, refl)))
      where
        fine : BadValue s h w → ⊥
        fine b =
            let q : b.offset ≡ o = omega (arith, b.is) in
            let f = sym e ∙ ap (empty_at (data_section s h)) (sym q) ∙ b.malformed in
            cc
    unless o l v k (Err x) e =
        let m = only_malformed (data_section s h) o e in
        rw m (inr (not_deep, inr ((λ n. n.1 o l v), inl (record { skipping = k; offset = o; inside = l; is = v; malformed = e ∙ ap Err m }, refl))))

    found : (o : ℕ) → o < room → (newest w).value ≡ h.nodes + 16 + o → (k : Bool) → w.options.skipempty ≡ k
        → By (cond k (unless_empty (empty_at (data_section s h) o) (network_of h w.width (newest w) (Some o))) (Out (outcome.Given (network_of h w.width (newest w) (Some o)))))
    found o l v true e = unless o l v e (empty_at (data_section s h) o) refl
    found o l v false e = inr (not_deep, inr ((λ n. n.1 o l v), inr ((λ b. false≢true (sym e ∙ b.skipping)), refl)))

    nothing : (newest w).value ≤ h.nodes → (k : Bool) → By (cond k (Out (outcome.Given (network_of h w.width (newest w) None))) Passed)
    nothing l true = inr (not_deep, inr ((λ n. let q = n.0 in omega arith), inr ((λ b. omega (arith, b.is)), refl)))
    nothing l false = tt

    ending : {a : Option Found} → Told h.nodes room (newest w).value (newest w).len a → By (end_of (data_section s h) h w.options w.width (newest w) a)
    ending (none l) = nothing l w.options.dataless
    ending (offset o l v) = found o l v w.options.skipempty refl
    ending (neither n) = inr (not_deep, inl (n, refl))

  internal : (newest w).value < h.nodes → (b : Bool) → ltb (newest w).len w.width ≡ b → By (cond b Opened (Out (outcome.Failed refusal.TooDeep)))
  internal v true e = tt
  internal v false e = let l = ltb-false (newest w).len w.width e in inl ((v, omega arith), refl)

  turn_by : By (turn_at s h w)
  unfolding turn_of
  turn_by = by (is_skipped h w.options w.width (newest w)) (ltb (newest w).value h.nodes) refl
    where
      by :
          (a b : Bool) → ltb (newest w).value h.nodes ≡ b
          → By (cond a Passed
          (cond b (cond (ltb (newest w).len w.width) Opened (Out (outcome.Failed refusal.TooDeep)))
          (end_of (data_section s h) h w.options w.width (newest w) (answer_of h.nodes room (newest w).value (newest w).len))))
      by true b e = tt
      by false true e = internal (ltb-true _ _ e) (ltb (newest w).len w.width) refl
      by false false e = ending (ltb-false _ _ e) (told h.nodes room (newest w).value (newest w).len)

  pub handed_first : (a : Outcome) → turn_at s h w ≡ Out a → First rows (next_verdict a)
  handed_first a e = rw e at turn_by

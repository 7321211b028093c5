use Prim.Native.Nat.{ℕ, ◌+◌, ◌-◌, ◌<◌, ◌≤◌}
use mathlib.Core.Path.{◌≡◌, refl, ap, sym, ◌∙◌}
use mathlib.Core.Bool.{Bool, true, false}
use native.Mathlib.Omega.{arith}
use lib.ListN.{length}
use Rattle.handle.specs.Handle.{fits_of}
use Rattle.handle.proofs.HandleLaws.{fit}
use Rattle.tree.proofs.LookupLaws.{readable}
use Rattle.place.specs.Shape.{frame_out, newest_out}
use Rattle.place.specs.declared.Turn.{Turn}
use Rattle.place.specs.declared.Turn.TheVariants.{Opened}
use Rattle.walk.specs.declared.Walk.{Walk}
use Rattle.place.proofs.TurnLaws.{opened}
use Rattle.walk.specs.Walks.{newest}
use Rattle.walk.specs.Calls.{out_of_shape, turn_at, after, called, ends, goes, next_of}
use Rattle.walk.proofs.StartLaws.{tree_of, wide_in}
use Rattle.walk.proofs.CallLaws.{frame_in, newest_long, newest_room, out_by_frame, out_by_newest, after_opened, goes_end, goes_out, goes_paused, goes_within}
use Rattle.walk.proofs.call.next.Goals as goal
use Rattle.walk.proofs.call.next.Goals.{After-visit, Else-frame_out, Else-newest_out, Else-not-fits}

-- the handle fits
fitted : (c : Else-not-fits) → fits_of c.args.h (length c.args.image.now) ≡ true
fitted c = sym c.fits.ensures ∙ c.if-not-fits.false

whole :
    (c : Else-not-fits)
    → next_of c.args.image.now c.args.h c.args.walk c.args.budget
    ≡ goes c.args.image.now c.args.h c.args.budget 0 c.args.walk
unfolding next_of
whole c = simp (fitted c)

-- what was tested, in the walk's own width
framed : (w : Walk) {width : ℕ} {r : Bool} → width ≡ w.width → r ≡ frame_out w.count width → frame_out w.count w.width ≡ r
framed w i e = sym (rw (sym i) e)

tested :
    (nodes : ℕ) (w : Walk) {width : ℕ} {r : Bool} → width ≡ w.width → r ≡ newest_out nodes w.count width (newest w)
    → newest_out nodes w.count w.width (newest w) ≡ r
tested nodes w i e = sym (rw (sym i) e)

few : (w : Walk) → frame_out w.count w.width ≡ false → w.count ≤ 129
few w f = (frame_in w.count w.width f).0

wide : (w : Walk) → frame_out w.count w.width ≡ false → w.width ≤ 128
wide w f = wide_in (frame_in w.count w.width f).1

frame : (c : Else-frame_out) → frame_out c.loop-section.w.count c.loop-section.w.width ≡ false
frame c = framed c.loop-section.w c.loop-section.invariant.1 c.frame_out.ensures ∙ c.if-frame_out.false

newest-in :
    (c : Else-newest_out)
    → newest_out c.args.h.nodes c.loop-section.w.count c.loop-section.w.width (newest c.loop-section.w) ≡ false
newest-in c = tested c.args.h.nodes c.loop-section.w c.loop-section.invariant.1 c.newest_out.ensures ∙ c.if-newest_out.false

shaped : (c : Else-newest_out) → out_of_shape c.args.h.nodes c.loop-section.w ≡ false
shaped c =
    out_by_newest _ _ c.if-count-eq0.false (framed c.loop-section.w c.loop-section.invariant.1 c.frame_out.ensures ∙ c.if-frame_out.false)
    (newest-in c)

-- what the taken place came to
turned : (c : After-visit) → turn_at c.args.image.now c.args.h c.loop-section.w ≡ c.visit.result
turned c = sym (rw (sym c.loop-section.invariant.1, sym c.loop-section.invariant.2) c.visit.ensures)

went :
    (c : After-visit) → out_of_shape c.args.h.nodes c.loop-section.w ≡ false → (turn : Turn) → c.visit.result ≡ turn
    → goes c.args.image.now c.args.h c.args.budget 0 c.args.walk
    ≡ ends turn (λ a. called a (c.loop-section.n + 1) (after c.args.image.now c.args.h c.loop-section.w turn))
    (goes c.args.image.now c.args.h (c.args.budget - (c.loop-section.n + 1)) (c.loop-section.n + 1)
    (after c.args.image.now c.args.h c.loop-section.w turn))
went c shape turn e =
    c.loop-section.invariant.3
    ∙ goes_within _ _ _ _ c.if-count-eq0.false shape c.args.budget c.if-budget-n.false turn (turned c ∙ e)

-- an opened place: a node, with a bit left and room for another place
opens :
    (c : After-visit) → frame_out c.loop-section.w.count c.loop-section.w.width ≡ false
    → newest_out c.args.h.nodes c.loop-section.w.count c.loop-section.w.width (newest c.loop-section.w) ≡ false
    → c.visit.result ≡ Opened
    → ((newest c.loop-section.w).value < c.args.h.nodes) × ((newest c.loop-section.w).len < c.args.walk.width)
    × (c.args.walk.width ≤ 128) × (c.loop-section.w.count < 129)
opens c f g e =
    let i = c.loop-section.invariant.1 in
    let o = opened _ _ _ _ _ (turned c ∙ e) in
    let r = newest_room c.args.h.nodes c.loop-section.w.count c.loop-section.w.width (newest c.loop-section.w) g o.0 o.1 in
    (o.0, omega (arith, o.1, i), omega (arith, wide c.loop-section.w f, i), omega (arith, few c.loop-section.w f, r))

pub returns-then-not-fits : goal.returns-then-not-fits
unfolding next_of
returns-then-not-fits c = simp (sym c.fits.ensures ∙ c.if-not-fits.true)

pub overflow_sub-marker : goal.overflow_sub-marker
overflow_sub-marker c = let f = fit _ _ (fitted (goal.at.overflow_sub-marker c).Else-not-fits) in omega (arith, f.marked)

pub slice_bounds-section-count : goal.slice_bounds-section-count
slice_bounds-section-count c = let f = fit _ _ (fitted (goal.at.slice_bounds-section-count c).Else-not-fits) in omega (arith, f.marked)

pub slice_bounds-section-start : goal.slice_bounds-section-start
slice_bounds-section-start c = let f = fit _ _ (fitted (goal.at.slice_bounds-section-start c).Else-not-fits) in omega (arith, f.marked, f.whole)

pub slice_bounds-section-end : goal.slice_bounds-section-end
slice_bounds-section-end c = let f = fit _ _ (fitted (goal.at.slice_bounds-section-end c).Else-not-fits) in omega (arith, f.marked, f.whole)

pub loop-section-init : goal.loop-section-init
loop-section-init c =
    let a = c.args in
    let e : a.budget ≡ a.budget - 0 = omega arith in
    (omega arith, refl, refl, ap (λ (k : ℕ). goes a.image.now a.h k 0 a.walk) e)

pub returns-then-count-eq0 : goal.returns-then-count-eq0
returns-then-count-eq0 c = sym (whole (goal.at.returns-then-count-eq0 c).Else-not-fits ∙ c.loop-section.invariant.3 ∙ goes_end _ _ _ _ _ c.if-count-eq0.true)

pub returns-then-frame_out : goal.returns-then-frame_out
returns-then-frame_out c = sym (whole (goal.at.returns-then-frame_out c).Else-not-fits ∙ c.loop-section.invariant.3 ∙ goes_out _ _ _ _ c.if-count-eq0.false _ (out_by_frame _ _ (framed c.loop-section.w c.loop-section.invariant.1 c.frame_out.ensures ∙ c.if-frame_out.true)))

pub offset_bounds-w-i : goal.offset_bounds-w-i
offset_bounds-w-i c = omega (arith, few c.loop-section.w (frame (goal.at.offset_bounds-w-i c).Else-frame_out))

pub bounds-w-i : goal.bounds-w-i
bounds-w-i c = omega (arith, few c.loop-section.w (frame (goal.at.bounds-w-i c).Else-frame_out))

pub returns-then-newest_out : goal.returns-then-newest_out
returns-then-newest_out c =
    let at_fits = (goal.at.returns-then-newest_out c).Else-not-fits in
    let at_frame = (goal.at.returns-then-newest_out c).Else-frame_out in
    sym
    (whole at_fits
    ∙ c.loop-section.invariant.3
    ∙ goes_out _ _ _ _ c.if-count-eq0.false _
    (out_by_newest _ _ c.if-count-eq0.false (frame at_frame)
    (tested c.args.h.nodes c.loop-section.w c.loop-section.invariant.1 c.newest_out.ensures ∙ c.if-newest_out.true)))

pub returns-then-budget-n : goal.returns-then-budget-n
returns-then-budget-n c =
    let e : c.args.budget - c.loop-section.n ≡ 0 = omega (arith, c.if-budget-n.true) in
    sym (whole (goal.at.returns-then-budget-n c).Else-not-fits ∙ c.loop-section.invariant.3 ∙ goes_paused _ _ _ _ c.if-count-eq0.false (shaped (goal.at.returns-then-budget-n c).Else-newest_out) _ e)

pub offset_bounds-w-i-in-loop-section : goal.offset_bounds-w-i-in-loop-section
offset_bounds-w-i-in-loop-section c = omega (arith, few c.loop-section.w (frame (goal.at.offset_bounds-w-i-in-loop-section c).Else-frame_out))

pub bounds-w-i-in-loop-section : goal.bounds-w-i-in-loop-section
bounds-w-i-in-loop-section c = omega (arith, few c.loop-section.w (frame (goal.at.bounds-w-i-in-loop-section c).Else-frame_out))

pub visit-requires : goal.visit-requires
visit-requires c =
    let at_newest = (goal.at.visit-requires c).Else-newest_out in
    let at_frame = (goal.at.visit-requires c).Else-frame_out in
    let i = c.loop-section.invariant.1 in (
      omega (arith, newest_long c.args.h.nodes c.loop-section.w.count c.loop-section.w.width (newest c.loop-section.w) (newest-in at_newest), i),
      omega (arith, wide c.loop-section.w (frame at_frame), i),
    )

pub returns-in-Out : goal.returns-in-Out
returns-in-Out c = rw c.no_place-none.ensures (sym (whole (goal.at.returns-in-Out c).Else-not-fits ∙ went (goal.at.returns-in-Out c).After-visit (shaped (goal.at.returns-in-Out c).Else-newest_out) _ c.in-Out.is))

pub child-right-requires : goal.child-right-requires
child-right-requires c =
    let at_visit = (goal.at.child-right-requires c).After-visit in
    let at_frame = (goal.at.child-right-requires c).Else-frame_out in
    let at_newest = (goal.at.child-right-requires c).Else-newest_out in
    let at_fits = (goal.at.child-right-requires c).Else-not-fits in
    let o = opens at_visit (frame at_frame) (newest-in at_newest) c.in-Opened.is in
    record { readable = readable (tree_of _ _ (fitted at_fits)) o.0 (omega arith); len_lt_width = (o.1, o.2) }

pub child-left-requires : goal.child-left-requires
child-left-requires c =
    let at_visit = (goal.at.child-left-requires c).After-visit in
    let at_frame = (goal.at.child-left-requires c).Else-frame_out in
    let at_newest = (goal.at.child-left-requires c).Else-newest_out in
    let at_fits = (goal.at.child-left-requires c).Else-not-fits in
    let o = opens at_visit (frame at_frame) (newest-in at_newest) c.in-Opened.is in
    record { readable = readable (tree_of _ _ (fitted at_fits)) o.0 (omega arith); len_lt_width = (o.1, o.2) }

pub offset_bounds-w-i-in-Opened : goal.offset_bounds-w-i-in-Opened
offset_bounds-w-i-in-Opened c = omega (arith, few c.loop-section.w (frame (goal.at.offset_bounds-w-i-in-Opened c).Else-frame_out))

pub bounds-w-i-in-Opened : goal.bounds-w-i-in-Opened
bounds-w-i-in-Opened c = omega (arith, few c.loop-section.w (frame (goal.at.bounds-w-i-in-Opened c).Else-frame_out))

pub offset_bounds-w-j : goal.offset_bounds-w-j
offset_bounds-w-j c = omega (arith, few c.loop-section.w (frame (goal.at.offset_bounds-w-j c).Else-frame_out))

pub bounds-w-j : goal.bounds-w-j
bounds-w-j c = (opens (goal.at.bounds-w-j c).After-visit (frame (goal.at.bounds-w-j c).Else-frame_out) (newest-in (goal.at.bounds-w-j c).Else-newest_out) c.in-Opened.is).3

pub overflow_add-w : goal.overflow_add-w
overflow_add-w c = omega (arith, few c.loop-section.w (frame (goal.at.overflow_add-w c).Else-frame_out))

pub loop-section-preserved-in-Opened : goal.loop-section-preserved-in-Opened
loop-section-preserved-in-Opened c =
    let e = after_opened c.args.image.now c.args.h c.loop-section.w (omega (arith, c.if-count-eq0.false)) in (
      omega arith,
      c.loop-section.invariant.1,
      c.loop-section.invariant.2,
      went (goal.at.loop-section-preserved-in-Opened c).After-visit (shaped (goal.at.loop-section-preserved-in-Opened c).Else-newest_out) _ c.in-Opened.is
          ∙ rw (c.no_place-none.ensures, c.child-right.ensures, c.child-left.ensures, c.loop-section.invariant.1) (ap (goes c.args.image.now c.args.h (c.args.budget - (c.loop-section.n + 1)) (c.loop-section.n + 1)) e),
    )

pub loop-section-preserved : goal.loop-section-preserved
loop-section-preserved c = (omega arith, c.loop-section.invariant.1, c.loop-section.invariant.2, rw c.no_place-none.ensures (went (goal.at.loop-section-preserved c).After-visit (shaped (goal.at.loop-section-preserved c).Else-newest_out) _ c.in-Passed.is))

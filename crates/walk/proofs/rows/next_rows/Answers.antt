use borrow.Author.Rules.{rules}
use Prim.Native.Nat.{ℕ, ◌+◌, ◌-◌, ◌*◌, ◌/◌, ◌<◌, ◌≤◌}
use mathlib.Core.Path.{◌≡◌, refl, ap, sym, ◌∙◌}
use mathlib.Core.Bool.{Bool, true, false}
use native.Mathlib.Omega.{arith}
use lib.ListN.{length, length-set}
use Rattle.handle.specs.Handle.{fits_of}
use Rattle.handle.proofs.HandleLaws.{fit}
use Rattle.tree.proofs.LookupLaws.{readable}
use Rattle.place.specs.Shape.{frame_out, newest_out}
use Rattle.place.specs.Turns.{turn_of}
use Rattle.place.specs.declared.Place.{Place}
use Rattle.place.specs.declared.Turn.{Turn}
use Rattle.place.specs.declared.Turn.TheVariants.{Opened, Out}
use Rattle.place.proofs.TurnLaws.{opened}
use Rattle.walk.specs.declared.Walk.{Walk}
use Rattle.walk.specs.Calls.{data_section, called, ends, goes}
use Rattle.walk.specs.Rows.{pouring}
use Rattle.walk.proofs.StartLaws.{tree_of, wide_in}
use Rattle.walk.proofs.CallLaws.{frame_in, frame_of, newest_long, newest_room, out_by_frame, goes_end, goes_out, goes_paused}
use Rattle.walk.proofs.HeldLaws.{held, pushed, hold, rest, opens_node, held_live, held_out, held_goes}
use Rattle.walk.proofs.RowLaws.{going, rows_start, rows_refused, rows_stop, rows_on, rows_row, rows_full}
use Rattle.walk.proofs.rows.next_rows.Goals as goal
use Rattle.walk.proofs.rows.next_rows.Goals.{After-is_plain_node, After-taking, Else-frame_out, Else-newest_out, Else-not-fits}

few : (w : Walk) → frame_out w.count w.width ≡ false → (w.count ≤ 129) × (w.width ≤ 128)
few w e = let f = frame_in w.count w.width e in (f.0, wide_in f.1)

-- the handle fits
fitted : (c : Else-not-fits) → fits_of c.args.h (length c.args.image.now) ≡ true
fitted c = sym c.fits.ensures ∙ c.if-not-fits.false

-- what was tested, in the walk's own width
framed : (w : Walk) {width : ℕ} {r : Bool} → width ≡ w.width → r ≡ frame_out w.count width → frame_out w.count w.width ≡ r
framed w i e = sym (rw (sym i) e)

tested :
    (nodes : ℕ) (w : Walk) (p : Place) {width : ℕ} {r : Bool} → width ≡ w.width → r ≡ newest_out nodes w.count width p
    → newest_out nodes w.count w.width p ≡ r
tested nodes w p i e = sym (rw (sym i) e)

frame : (c : Else-frame_out) → frame_out c.rows.w.count c.rows.w.width ≡ false
frame c = framed c.rows.w c.rows.invariant.3 c.frame_out.ensures ∙ c.if-frame_out.false

inside : (c : Else-newest_out) → newest_out c.args.h.nodes c.loop-section.w.count c.loop-section.w.width c.loop-section.p ≡ false
inside c = tested c.args.h.nodes c.loop-section.w c.loop-section.p c.loop-section.invariant.4 c.newest_out.ensures ∙ c.if-newest_out.false

-- what the taken place came to
turned :
    (c : After-taking)
    → turn_of (data_section c.args.image.now c.args.h) c.args.h c.loop-section.w.options c.loop-section.w.width c.loop-section.p
    ≡ c.taking.result
turned c = sym (rw (sym c.loop-section.invariant.4, sym c.loop-section.invariant.5) c.taking.ensures)

went :
    (c : After-taking) (turn : Turn) → c.taking.result ≡ turn
    → goes c.args.image.now c.args.h (c.args.budget - c.loop-section.n) c.loop-section.n (held c.loop-section.w c.loop-section.p)
    ≡ ends turn (λ a. called a (c.loop-section.n + 1) (rest c.args.image.now c.args.h c.loop-section.w c.loop-section.p turn))
    (goes c.args.image.now c.args.h (c.args.budget - (c.loop-section.n + 1)) (c.loop-section.n + 1)
    (rest c.args.image.now c.args.h c.loop-section.w c.loop-section.p turn))
went c turn e =
    let l = c.loop-section in
    held_goes c.args.image.now c.args.h l.w l.p l.invariant.8 l.invariant.6 l.invariant.7 c.args.budget l.n
    (tested c.args.h.nodes l.w l.p l.invariant.4 c.newest_out.ensures ∙ c.if-newest_out.false) c.if-budget-n.false turn (turned c ∙ e)

-- an opened place: a node, with a bit left and room for another place
opens :
    (c : After-taking) → c.taking.result ≡ Opened
    → (c.loop-section.p.value < c.args.h.nodes) × (c.loop-section.p.len < c.args.walk.width) × (c.args.walk.width ≤ 128)
    × (c.loop-section.w.count < 129)
opens c e =
    let i = c.loop-section.invariant.4 in
    let o = opened _ _ _ _ _ (turned c ∙ e) in
    let r = newest_room c.args.h.nodes c.loop-section.w.count c.loop-section.w.width c.loop-section.p (tested c.args.h.nodes c.loop-section.w c.loop-section.p i c.newest_out.ensures ∙ c.if-newest_out.false) o.0 o.1 in
    let f = few c.loop-section.w c.loop-section.invariant.7 in
    (o.0, omega (arith, o.1, i), omega (arith, f.1, i), omega (arith, f.0, r))

-- a plain node: it is opened
plain-turned :
    (c : After-is_plain_node) → c.is_plain_node.result ≡ true
    → turn_of (data_section c.args.image.now c.args.h) c.args.h c.loop-section.w.options c.loop-section.w.width c.loop-section.p
    ≡ Opened
plain-turned c e = opens_node _ _ _ _ _ (rw (sym c.loop-section.invariant.4) (sym c.is_plain_node.ensures ∙ e))

plain-went :
    (c : After-is_plain_node) → c.is_plain_node.result ≡ true
    → goes c.args.image.now c.args.h (c.args.budget - c.loop-section.n) c.loop-section.n (held c.loop-section.w c.loop-section.p)
    ≡ goes c.args.image.now c.args.h (c.args.budget - (c.loop-section.n + 1)) (c.loop-section.n + 1)
    (rest c.args.image.now c.args.h c.loop-section.w c.loop-section.p Opened)
plain-went c e =
    let l = c.loop-section in
    held_goes c.args.image.now c.args.h l.w l.p l.invariant.8 l.invariant.6 l.invariant.7 c.args.budget l.n
    (tested c.args.h.nodes l.w l.p l.invariant.4 c.newest_out.ensures ∙ c.if-newest_out.false) c.if-budget-n.false Opened (plain-turned c e)

plain-opens :
    (c : After-is_plain_node) → c.is_plain_node.result ≡ true
    → (c.loop-section.p.value < c.args.h.nodes) × (c.loop-section.p.len < c.args.walk.width) × (c.args.walk.width ≤ 128)
    × (c.loop-section.w.count < 129)
plain-opens c e =
    let i = c.loop-section.invariant.4 in
    let o = opened _ _ _ _ _ (plain-turned c e) in
    let r = newest_room c.args.h.nodes c.loop-section.w.count c.loop-section.w.width c.loop-section.p (tested c.args.h.nodes c.loop-section.w c.loop-section.p i c.newest_out.ensures ∙ c.if-newest_out.false) o.0 o.1 in
    let f = few c.loop-section.w c.loop-section.invariant.7 in
    (o.0, omega (arith, o.1, i), omega (arith, f.1, i), omega (arith, f.0, r))

pub returns-then-not-fits : goal.returns-then-not-fits
returns-then-not-fits c = sym (rows_refused _ _ (sym c.fits.ensures ∙ c.if-not-fits.true) _ _ _)

pub overflow_sub-marker : goal.overflow_sub-marker
overflow_sub-marker c = let f = fit _ _ (fitted (goal.at.overflow_sub-marker c).Else-not-fits) in omega (arith, f.marked, f.whole)

pub slice_bounds-section-count : goal.slice_bounds-section-count
slice_bounds-section-count c = let f = fit _ _ (fitted (goal.at.slice_bounds-section-count c).Else-not-fits) in omega (arith, f.marked, f.whole)

pub slice_bounds-section-start : goal.slice_bounds-section-start
slice_bounds-section-start c = let f = fit _ _ (fitted (goal.at.slice_bounds-section-start c).Else-not-fits) in omega (arith, f.marked, f.whole)

pub slice_bounds-section-end : goal.slice_bounds-section-end
slice_bounds-section-end c = let f = fit _ _ (fitted (goal.at.slice_bounds-section-end c).Else-not-fits) in omega (arith, f.marked, f.whole)

pub rows-init : goal.rows-init
rows-init c = let a = c.args in
    let e : length a.out.now / 5 - 0 ≡ length a.out.now / 5 = omega arith in (
      omega arith,
      omega arith,
      refl,
      refl,
      refl,
      search rules,
      ap (λ (k : ℕ). pouring 0 0 (going a.image.now a.h a.budget k 0 a.walk) a.out.now) e,
    )

pub shape_of-out-then-first-eq0 : goal.shape_of-out-then-first-eq0
shape_of-out-then-first-eq0 c = c.rows.invariant.2

pub returns-then-first-eq0 : goal.returns-then-first-eq0
returns-then-first-eq0 c = sym (rows_start _ _ (fitted (goal.at.returns-then-first-eq0 c).Else-not-fits) _ _ _ ∙ sym c.rows.invariant.6 ∙ rows_stop _ _ _ _ _ _ _ _ (goes_end _ _ _ _ _ c.if-first-eq0.true) _ (λ r. refl) _ _ c.rows-test.true _)

pub shape_of-out-then-frame_out : goal.shape_of-out-then-frame_out
shape_of-out-then-frame_out c = c.rows.invariant.2

pub returns-then-frame_out : goal.returns-then-frame_out
returns-then-frame_out c =
    let at_fits = (goal.at.returns-then-frame_out c).Else-not-fits in
    sym
    (rows_start _ _ (fitted at_fits) _ _ _
    ∙ sym c.rows.invariant.6
    ∙ rows_stop _ _ _ _ _ _ _ _ (goes_out _ _ _ _ c.if-first-eq0.false _ (out_by_frame _ _ (framed c.rows.w c.rows.invariant.3 c.frame_out.ensures ∙ c.if-frame_out.true))) _ (λ r. refl) _ _ c.rows-test.true _)

pub offset_bounds-w-f : goal.offset_bounds-w-f
offset_bounds-w-f c = omega (arith, (few c.rows.w (frame (goal.at.offset_bounds-w-f c).Else-frame_out)).0)

pub bounds-w-f : goal.bounds-w-f
bounds-w-f c = omega (arith, (few c.rows.w (frame (goal.at.bounds-w-f c).Else-frame_out)).0)

pub loop-section-init : goal.loop-section-init
loop-section-init c = let a = c.args in let o = c.rows in (
  omega arith,
  o.invariant.0,
  c.rows-test.true,
  refl,
  o.invariant.3,
  o.invariant.4,
  omega (arith, c.if-first-eq0.false),
  frame (goal.at.loop-section-init c).Else-frame_out,
  o.invariant.5,
  ap (λ (v : Walk). pouring o.row 0 (going a.image.now a.h a.budget (length a.out.now / 5 - o.row) o.n v) o.out) (hold o.w),
)

pub overflow_sub-i : goal.overflow_sub-i
overflow_sub-i c = omega (arith, c.loop-section.invariant.6)

pub offset_bounds-w-i : goal.offset_bounds-w-i
offset_bounds-w-i c = omega (arith, (few c.loop-section.w c.loop-section.invariant.7).0, c.loop-section.invariant.6)

pub bounds-w-i : goal.bounds-w-i
bounds-w-i c = omega (arith, (few c.loop-section.w c.loop-section.invariant.7).0, c.loop-section.invariant.6)

pub shape_of-out-then-newest_out : goal.shape_of-out-then-newest_out
shape_of-out-then-newest_out c = c.loop-section.invariant.3 ∙ c.rows.invariant.2

pub returns-then-newest_out : goal.returns-then-newest_out
returns-then-newest_out c =
    let at_fits = (goal.at.returns-then-newest_out c).Else-not-fits in
    sym
    (rows_start _ _ (fitted at_fits) _ _ _
    ∙ sym c.rows.invariant.6
    ∙ sym c.loop-section.invariant.9
    ∙ rows_stop _ _ _ _ _ _ _ _ (goes_out _ _ _ _ (held_live c.args.image.now c.args.h c.loop-section.w c.loop-section.p c.loop-section.invariant.8 c.loop-section.invariant.6 c.loop-section.invariant.7) _ (held_out c.args.image.now c.args.h c.loop-section.w c.loop-section.p c.loop-section.invariant.8 c.loop-section.invariant.6 c.loop-section.invariant.7 true (tested c.args.h.nodes c.loop-section.w c.loop-section.p c.loop-section.invariant.4 c.newest_out.ensures ∙ c.if-newest_out.true))) _ (λ r. refl) _ _ c.loop-section.invariant.2 _)

pub offset_bounds-w-i-then-budget-n : goal.offset_bounds-w-i-then-budget-n
offset_bounds-w-i-then-budget-n c = omega (arith, (few c.loop-section.w c.loop-section.invariant.7).0, c.loop-section.invariant.6)

pub bounds-w-i-then-budget-n : goal.bounds-w-i-then-budget-n
bounds-w-i-then-budget-n c = omega (arith, (few c.loop-section.w c.loop-section.invariant.7).0, c.loop-section.invariant.6)

pub shape_of-out-then-budget-n : goal.shape_of-out-then-budget-n
shape_of-out-then-budget-n c = c.loop-section.invariant.3 ∙ c.rows.invariant.2

pub returns-then-budget-n : goal.returns-then-budget-n
returns-then-budget-n c = let e : c.args.budget - c.loop-section.n ≡ 0 = omega (arith, c.if-budget-n.true) in
    let at_fits = (goal.at.returns-then-budget-n c).Else-not-fits in
    let at_newest = (goal.at.returns-then-budget-n c).Else-newest_out in
    sym
    (rows_start _ _ (fitted at_fits) _ _ _
    ∙ sym c.rows.invariant.6
    ∙ sym c.loop-section.invariant.9
    ∙ rows_stop _ _ _ _ _ _ _ _ (goes_paused _ _ _ _ (held_live c.args.image.now c.args.h c.loop-section.w c.loop-section.p c.loop-section.invariant.8 c.loop-section.invariant.6 c.loop-section.invariant.7) (held_out c.args.image.now c.args.h c.loop-section.w c.loop-section.p c.loop-section.invariant.8 c.loop-section.invariant.6 c.loop-section.invariant.7 false (inside at_newest)) _ e) _ (λ r. refl) _ _ c.loop-section.invariant.2 _)

pub child-right-requires : goal.child-right-requires
child-right-requires c = let o = plain-opens (goal.at.child-right-requires c).After-is_plain_node c.if-is_plain_node.true in record { readable = readable (tree_of _ _ (fitted (goal.at.child-right-requires c).Else-not-fits)) o.0 (omega arith); len_lt_width = (o.1, o.2) }

pub child-left-requires : goal.child-left-requires
child-left-requires c = let o = plain-opens (goal.at.child-left-requires c).After-is_plain_node c.if-is_plain_node.true in record { readable = readable (tree_of _ _ (fitted (goal.at.child-left-requires c).Else-not-fits)) o.0 (omega arith); len_lt_width = (o.1, o.2) }

pub offset_bounds-w-i-then-is_plain_node : goal.offset_bounds-w-i-then-is_plain_node
offset_bounds-w-i-then-is_plain_node c = omega (arith, (few c.loop-section.w c.loop-section.invariant.7).0, c.loop-section.invariant.6)

pub bounds-w-i-then-is_plain_node : goal.bounds-w-i-then-is_plain_node
bounds-w-i-then-is_plain_node c = omega (arith, (few c.loop-section.w c.loop-section.invariant.7).0, c.loop-section.invariant.6)

pub overflow_add-w : goal.overflow_add-w
overflow_add-w c = omega (arith, (few c.loop-section.w c.loop-section.invariant.7).0, c.loop-section.invariant.6)

pub loop-section-smaller-then-is_plain_node : goal.loop-section-smaller-then-is_plain_node
loop-section-smaller-then-is_plain_node c = omega (arith, c.if-budget-n.false)

pub loop-section-preserved-then-is_plain_node : goal.loop-section-preserved-then-is_plain_node
loop-section-preserved-then-is_plain_node c = let a = c.args in let l = c.loop-section in
    let v : Walk = held (pushed l.w c.child-right.result) c.child-left.result in
    let g : goes a.image.now a.h (a.budget - l.n) l.n (held l.w l.p) ≡ goes a.image.now a.h (a.budget - (l.n + 1)) (l.n + 1) v =
    plain-went (goal.at.loop-section-preserved-then-is_plain_node c).After-is_plain_node c.if-is_plain_node.true ∙ rw (c.child-right.ensures, c.child-left.ensures, l.invariant.4) refl in (
      omega (arith, l.invariant.0),
      omega (arith, c.if-budget-n.false),
      l.invariant.2,
      l.invariant.3,
      l.invariant.4,
      l.invariant.5,
      omega arith,
      frame_of l.w.count (l.w.count + 1) l.w.width l.invariant.7 (let r = (plain-opens (goal.at.loop-section-preserved-then-is_plain_node c).After-is_plain_node c.if-is_plain_node.true).3 in omega (arith, r)),
      simp length-set l.invariant.8,
      sym (rows_on a.image.now a.h a.budget l.n (held l.w l.p) (l.n + 1) v g l.row (length a.out.now / 5) l.invariant.2 l.out) ∙ l.invariant.9,
    )

pub taking-requires : goal.taking-requires
taking-requires c = let i = c.loop-section.invariant.4 in (omega (arith, newest_long _ _ _ _ (inside (goal.at.taking-requires c).Else-newest_out), i), omega (arith, (few c.loop-section.w c.loop-section.invariant.7).1, i))

pub offset_bounds-w-i-in-Out : goal.offset_bounds-w-i-in-Out
offset_bounds-w-i-in-Out c = omega (arith, (few c.loop-section.w c.loop-section.invariant.7).0, c.loop-section.invariant.6)

pub bounds-w-i-in-Out : goal.bounds-w-i-in-Out
bounds-w-i-in-Out c = omega (arith, (few c.loop-section.w c.loop-section.invariant.7).0, c.loop-section.invariant.6)

pub overflow_sub-w : goal.overflow_sub-w
overflow_sub-w c = omega (arith, c.loop-section.invariant.6)

pub put_row-requires : goal.put_row-requires
put_row-requires c = let l : c.loop-section.row < length c.args.out.now / 5 = c.loop-section.invariant.2 in
    let e : length c.loop-section.out ≡ length c.args.out.now = c.loop-section.invariant.3 ∙ c.rows.invariant.2 in
    omega (arith, l, e)

pub overflow_add-row : goal.overflow_add-row
overflow_add-row c = let g : length c.args.out.now * 8 < 9223372036854775808 = search rules in
    let l : c.loop-section.row < length c.args.out.now / 5 = c.loop-section.invariant.2 in
    omega (arith, g, l)

pub rows-smaller-in-Given : goal.rows-smaller-in-Given
rows-smaller-in-Given c = omega (arith, c.if-budget-n.false, c.loop-section.invariant.0)

pub rows-preserved-in-Given : goal.rows-preserved-in-Given
rows-preserved-in-Given c = let l = c.loop-section in let o = c.rows in (
  omega (arith, c.if-budget-n.false),
  omega (arith, l.invariant.2),
  c.put_row.auto.out ∙ l.invariant.3 ∙ o.invariant.2,
  l.invariant.4,
  l.invariant.5,
  simp length-set l.invariant.8,
  rw (c.no_place-none.ensures, c.put_row.ensures)
      (sym (rows_row _ _ (fitted (goal.at.rows-preserved-in-Given c).Else-not-fits) _ _ _ _ _ _ (went (goal.at.rows-preserved-in-Given c).After-taking _ (c.in-Out.is ∙ ap Out c.in-Given.is)) _ _ l.invariant.2 _) ∙ l.invariant.9 ∙ o.invariant.6),
)

pub shape_of-out-in-Failed : goal.shape_of-out-in-Failed
shape_of-out-in-Failed c = c.loop-section.invariant.3 ∙ c.rows.invariant.2

pub returns-in-Failed : goal.returns-in-Failed
returns-in-Failed c =
    let at_fits = (goal.at.returns-in-Failed c).Else-not-fits in
    let at_taking = (goal.at.returns-in-Failed c).After-taking in
    rw c.no_place-none.ensures
    (sym
    (rows_start _ _ (fitted at_fits) _ _ _
    ∙ sym c.rows.invariant.6
    ∙ sym c.loop-section.invariant.9
    ∙ rows_stop _ _ _ _ _ _ _ _ (went at_taking _ (c.in-Out.is ∙ ap Out c.in-Failed.is)) _ (λ r. refl) _ _ c.loop-section.invariant.2 _))

pub shape_of-out-in-Refused : goal.shape_of-out-in-Refused
shape_of-out-in-Refused c = c.loop-section.invariant.3 ∙ c.rows.invariant.2

pub returns-in-Refused : goal.returns-in-Refused
returns-in-Refused c =
    let at_fits = (goal.at.returns-in-Refused c).Else-not-fits in
    let at_taking = (goal.at.returns-in-Refused c).After-taking in
    rw c.no_place-none.ensures
    (sym
    (rows_start _ _ (fitted at_fits) _ _ _
    ∙ sym c.rows.invariant.6
    ∙ sym c.loop-section.invariant.9
    ∙ rows_stop _ _ _ _ _ _ _ _ (went at_taking _ (c.in-Out.is ∙ ap Out c.in-Refused.is)) _ (λ r. refl) _ _ c.loop-section.invariant.2 _))

pub shape_of-out-in-Paused : goal.shape_of-out-in-Paused
shape_of-out-in-Paused c = c.loop-section.invariant.3 ∙ c.rows.invariant.2

pub returns-in-Paused : goal.returns-in-Paused
returns-in-Paused c =
    let at_fits = (goal.at.returns-in-Paused c).Else-not-fits in
    let at_taking = (goal.at.returns-in-Paused c).After-taking in
    rw c.no_place-none.ensures
    (sym
    (rows_start _ _ (fitted at_fits) _ _ _
    ∙ sym c.rows.invariant.6
    ∙ sym c.loop-section.invariant.9
    ∙ rows_stop _ _ _ _ _ _ _ _ (went at_taking _ (c.in-Out.is ∙ ap Out c.in-Paused.is)) _ (λ r. refl) _ _ c.loop-section.invariant.2 _))

pub shape_of-out-in-End : goal.shape_of-out-in-End
shape_of-out-in-End c = c.loop-section.invariant.3 ∙ c.rows.invariant.2

pub returns-in-End : goal.returns-in-End
returns-in-End c =
    let at_fits = (goal.at.returns-in-End c).Else-not-fits in
    let at_taking = (goal.at.returns-in-End c).After-taking in
    rw c.no_place-none.ensures
    (sym
    (rows_start _ _ (fitted at_fits) _ _ _
    ∙ sym c.rows.invariant.6
    ∙ sym c.loop-section.invariant.9
    ∙ rows_stop _ _ _ _ _ _ _ _ (went at_taking _ (c.in-Out.is ∙ ap Out c.in-End.is)) _ (λ r. refl) _ _ c.loop-section.invariant.2 _))

pub child-right-requires-in-Opened : goal.child-right-requires-in-Opened
child-right-requires-in-Opened c = let o = opens (goal.at.child-right-requires-in-Opened c).After-taking c.in-Opened.is in record { readable = readable (tree_of _ _ (fitted (goal.at.child-right-requires-in-Opened c).Else-not-fits)) o.0 (omega arith); len_lt_width = (o.1, o.2) }

pub child-left-requires-in-Opened : goal.child-left-requires-in-Opened
child-left-requires-in-Opened c = let o = opens (goal.at.child-left-requires-in-Opened c).After-taking c.in-Opened.is in record { readable = readable (tree_of _ _ (fitted (goal.at.child-left-requires-in-Opened c).Else-not-fits)) o.0 (omega arith); len_lt_width = (o.1, o.2) }

pub offset_bounds-w-i-in-Opened : goal.offset_bounds-w-i-in-Opened
offset_bounds-w-i-in-Opened c = omega (arith, (few c.loop-section.w c.loop-section.invariant.7).0, c.loop-section.invariant.6)

pub bounds-w-i-in-Opened : goal.bounds-w-i-in-Opened
bounds-w-i-in-Opened c = omega (arith, (few c.loop-section.w c.loop-section.invariant.7).0, c.loop-section.invariant.6)

pub overflow_add-w-in-Opened : goal.overflow_add-w-in-Opened
overflow_add-w-in-Opened c = omega (arith, (few c.loop-section.w c.loop-section.invariant.7).0, c.loop-section.invariant.6)

pub loop-section-smaller : goal.loop-section-smaller
loop-section-smaller c = omega (arith, c.if-budget-n.false)

pub loop-section-preserved : goal.loop-section-preserved
loop-section-preserved c = let a = c.args in let l = c.loop-section in
    let v : Walk = held (pushed l.w c.child-right-in-Opened.result) c.child-left-in-Opened.result in
    let g : goes a.image.now a.h (a.budget - l.n) l.n (held l.w l.p) ≡ goes a.image.now a.h (a.budget - (l.n + 1)) (l.n + 1) v =
    went (goal.at.loop-section-preserved c).After-taking _ c.in-Opened.is ∙ rw (c.child-right-in-Opened.ensures, c.child-left-in-Opened.ensures, l.invariant.4) refl in (
      omega (arith, l.invariant.0),
      omega (arith, c.if-budget-n.false),
      l.invariant.2,
      l.invariant.3,
      l.invariant.4,
      l.invariant.5,
      omega arith,
      frame_of l.w.count (l.w.count + 1) l.w.width l.invariant.7 (let r = (opens (goal.at.loop-section-preserved c).After-taking c.in-Opened.is).3 in omega (arith, r)),
      simp length-set l.invariant.8,
      sym (rows_on a.image.now a.h a.budget l.n (held l.w l.p) (l.n + 1) v g l.row (length a.out.now / 5) l.invariant.2 l.out) ∙ l.invariant.9,
    )

pub offset_bounds-w-i-in-Passed : goal.offset_bounds-w-i-in-Passed
offset_bounds-w-i-in-Passed c = omega (arith, (few c.loop-section.w c.loop-section.invariant.7).0, c.loop-section.invariant.6)

pub bounds-w-i-in-Passed : goal.bounds-w-i-in-Passed
bounds-w-i-in-Passed c = omega (arith, (few c.loop-section.w c.loop-section.invariant.7).0, c.loop-section.invariant.6)

pub overflow_sub-w-in-Passed : goal.overflow_sub-w-in-Passed
overflow_sub-w-in-Passed c = omega (arith, c.loop-section.invariant.6)

pub rows-smaller : goal.rows-smaller
rows-smaller c = omega (arith, c.if-budget-n.false, c.loop-section.invariant.0)

pub rows-preserved : goal.rows-preserved
rows-preserved c = let l = c.loop-section in let o = c.rows in (
  omega (arith, c.if-budget-n.false),
  omega (arith, l.invariant.2),
  l.invariant.3 ∙ o.invariant.2,
  l.invariant.4,
  l.invariant.5,
  simp length-set l.invariant.8,
  rw c.no_place-none.ensures (sym (rows_on _ _ _ _ _ _ _ (went (goal.at.rows-preserved c).After-taking _ c.in-Passed.is) _ _ l.invariant.2 _) ∙ l.invariant.9 ∙ o.invariant.6),
)

pub shape_of-out : goal.shape_of-out
shape_of-out c = c.rows.invariant.2

pub returns : goal.returns
returns c = sym (rows_start _ _ (fitted (goal.at.returns c).Else-not-fits) _ _ _ ∙ sym c.rows.invariant.6 ∙ rows_full _ _ _ _ _ _ _ (omega (arith, c.rows-test.false)) _)

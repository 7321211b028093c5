use Prim.Native.Nat.{◌*◌, ◌/◌, ◌≤◌}
use mathlib.Core.Path.{◌≡◌, refl, ap, ◌∙◌}
use native.Mathlib.Omega.{arith}
use lib.ListN.{length}
use Rattle.handle.proofs.HandleLaws.{fit}
use Rattle.marks.specs.Marks.{record_each}
use Rattle.marks.proofs.MarkLaws.{length_each}
use Rattle.walk.specs.Calls.{data_section}
use Rattle.walk.specs.Rows.{Poured, poured}
use Rattle.recording.specs.Recording.{tour_of}
use Rattle.recording.proofs.RunLaws.{Swept, halted, halted_by, swept}
use Rattle.recording.proofs.record_networks.Goals as goal
use Rattle.recording.proofs.record_networks.Goals.{After-next_rows-filled}

-- a call, and the rows then
abbrev call : (c : After-next_rows-filled) → Poured
call c = poured c.next_rows-filled.result c.next_rows-filled.new.out

abbrev Sweeps : After-next_rows-filled → Type 0
Sweeps c = Swept c.args.image.now c.args.h c.loop-more.left c.loop-more.walk 256 (call c)

sweeps : (c : After-next_rows-filled) → Sweeps c
sweeps c =
    let e : length c.loop-more.rows / 5 ≡ 256 = omega (arith, c.loop-more.invariant.1) in
    swept c.args.image.now c.args.h c.loop-more.left c.loop-more.walk 256 c.requires.image_value c.loop-more.rows e (call c) c.next_rows-filled.ensures

-- as many words as there were, and room in the scratch for the whole section
lasts : (c : After-next_rows-filled) → length c.next_rows-filled.new.out ≡ 1280
lasts c = c.next_rows-filled.auto.out ∙ c.loop-more.invariant.1

room : (c : After-next_rows-filled) → length (data_section c.args.image.now c.args.h) ≤ length c.loop-more.bits / 2 * 64
room c = omega (arith, c.requires.h_in_bounds, c.loop-more.invariant.0)

few : (c : After-next_rows-filled) → c.next_rows-filled.result.rows ≤ 256
few c = (sweeps c).few

pub overflow_mul-more : goal.overflow_mul-more
overflow_mul-more c = let f = fit _ _ c.requires.image_value in omega (arith, f.few)

pub loop-more-init : goal.loop-more-init
unfolding tour_of
loop-more-init c = (refl, refl, rw (c.begin-started.ensures, c.whole.ensures) refl)

pub mark_rows-requires : goal.mark_rows-requires
mark_rows-requires c =
    let at_rows = (goal.at.mark_rows-requires c).After-next_rows-filled in
    let l : c.next_rows-filled.result.rows ≤ 256 = few at_rows in
    record {
      n_in_bounds = omega (arith, c.if-more-n.true, l, lasts at_rows);
      below = (sweeps at_rows).below _ _ (room at_rows) (omega (arith, c.if-more-n.true));
    }

pub returns-then-more-n : goal.returns-then-more-n
returns-then-more-n c = rw c.mark_rows.ensures ((sweeps (goal.at.returns-then-more-n c).After-next_rows-filled).over _ _ c.if-more-n.true ∙ c.loop-more.invariant.2)

pub mark_rows-requires-in-loop-more : goal.mark_rows-requires-in-loop-more
mark_rows-requires-in-loop-more c =
    let at_rows = (goal.at.mark_rows-requires-in-loop-more c).After-next_rows-filled in
    let l : c.next_rows-filled.result.rows ≤ 256 = few at_rows in
    record { n_in_bounds = omega (arith, l, lasts at_rows); below = (sweeps at_rows).below _ _ (room at_rows) (omega arith) }

pub overflow_sub-left : goal.overflow_sub-left
overflow_sub-left c = (sweeps (goal.at.overflow_sub-left c).After-next_rows-filled).paid

pub loop-more-smaller : goal.loop-more-smaller
loop-more-smaller c = let l : c.next_rows-filled.result.rows ≡ 256 = (sweeps (goal.at.loop-more-smaller c).After-next_rows-filled).full c.in-Full.is in omega (arith, c.if-more-n.false, l)

pub loop-more-preserved : goal.loop-more-preserved
loop-more-preserved c =
    let at_rows = (goal.at.loop-more-preserved c).After-next_rows-filled in (
      ap length c.mark_rows-in-loop-more.ensures ∙ length_each _ _ ∙ c.loop-more.invariant.0,
      lasts at_rows,
      rw c.mark_rows-in-loop-more.ensures
          (halted _ _ _ _ _ (call at_rows) (sweeps at_rows) _ c.in-Full.is _ _ (omega (arith, c.if-more-n.false)) ∙ c.loop-more.invariant.2),
    )

pub returns-in-Failed : goal.returns-in-Failed
unfolding record_each
returns-in-Failed c =
    let at_rows = (goal.at.returns-in-Failed c).After-next_rows-filled in
    rw c.mark_rows-in-loop-more.ensures (halted_by _ _ _ _ _ (call at_rows) (sweeps at_rows) _ c.in-Failed.is _ _ (omega (arith, c.if-more-n.false)) ∙ c.loop-more.invariant.2)

pub returns-in-Failed-2 : goal.returns-in-Failed-2
unfolding record_each
returns-in-Failed-2 c =
    let at_rows = (goal.at.returns-in-Failed-2 c).After-next_rows-filled in
    rw c.mark_rows-in-loop-more.ensures (halted_by _ _ _ _ _ (call at_rows) (sweeps at_rows) _ c.in-Failed.is _ _ (omega (arith, c.if-more-n.false)) ∙ c.loop-more.invariant.2)

pub returns-in-Paused : goal.returns-in-Paused
unfolding record_each
returns-in-Paused c = rw c.mark_rows-in-loop-more.ensures (halted _ _ _ _ _ (call (goal.at.returns-in-Paused c).After-next_rows-filled) (sweeps (goal.at.returns-in-Paused c).After-next_rows-filled) _ c.in-Paused.is _ _ (omega (arith, c.if-more-n.false)) ∙ c.loop-more.invariant.2)

pub returns-in-End : goal.returns-in-End
unfolding record_each
returns-in-End c = rw c.mark_rows-in-loop-more.ensures (halted _ _ _ _ _ (call (goal.at.returns-in-End c).After-next_rows-filled) (sweeps (goal.at.returns-in-End c).After-next_rows-filled) _ c.in-End.is _ _ (omega (arith, c.if-more-n.false)) ∙ c.loop-more.invariant.2)

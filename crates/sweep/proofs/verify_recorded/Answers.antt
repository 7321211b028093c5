use mathlib.Core.Path.{◌≡◌, ◌∙◌, sym, ap}
use Prim.Native.Nat.{ℕ, ◌+◌, ◌-◌}
use native.Mathlib.Omega.{arith}
use lib.ListN.{length}
use lib.Dec.{eqb}
use Rattle.marks.specs.Marks.{state_at, recorded}
use Rattle.marks.specs.declared.Mark.TheVariants as mark
use Rattle.marks.proofs.MarkLaws.{next_after, next_unrecorded, same_mark}
use Rattle.graph.specs.Graph.{verify_at}
use Rattle.graph.specs.Words.{on_words}
use Rattle.sweep.specs.Sweep.{sweep_at}
use Rattle.sweep.proofs.SweepLaws.{sweep_turn, sweep_pass, sweep_stop, sweep_end, pass_to}
use Rattle.sweep.proofs.verify_recorded.Goals as goal
use Rattle.sweep.proofs.verify_recorded.Goals.{After-eq, then-eq+in_ok-past, else-eq}

-- whether a place is recorded, as the code asks it
recorded_if : (c : After-eq) → eqb (state_at c.loop-t.bits c.loop-t.t) recorded ≡ c.eq.result
recorded_if c = sym (c.eq.ensures ∙ same_mark c.state.result mark.Recorded ∙ ap (λ (n : ℕ). eqb n recorded) c.state.ensures)

pub returns-in_err-past : goal.returns-in_err-past
returns-in_err-past c =
    let s = c.args.s.now in
    rw c.from_residual.ensures
    (sweep_stop on_words (verify_at on_words s) (length s) c.loop-t.t c.loop-t.left c.loop-t.bits _ c.loop-t-test.true c.loop-t.invariant.2 (recorded_if (goal.at.returns-in_err-past c).After-eq ∙ c.if-eq.true) _ c.in_err-past.ensures)

pub loop-t-smaller : goal.loop-t-smaller
loop-t-smaller c = omega (arith, c.min-t.ensures, c.next_marked.ensures, next_after c.if-eq.bits c.loop-t.t)

pub loop-t-preserved : goal.loop-t-preserved
loop-t-preserved c =
    let s = c.args.s.now in
    let told = recorded_if (goal.at.loop-t-preserved c).After-eq in
    let on : sweep_at on_words (verify_at on_words s) (length s - (c.loop-t.t + 1)) (c.loop-t.t + 1) c.if-eq.left c.if-eq.bits ≡ sweep_at on_words (verify_at on_words s) (length s) 0 c.args.work c.args.bits.now =
    elim c.if-eq.branch [
      | then-eq+in_ok-past w ↦
          rw (w.bits-is, w.left-is)
          (sweep_turn on_words (verify_at on_words s) (length s) c.loop-t.t c.loop-t.left c.loop-t.bits _ c.loop-t-test.true c.loop-t.invariant.2 (told ∙ w.if-eq.true) _ _ w.in_ok-past.ensures)
      | else-eq w ↦
          rw (w.bits-is, w.left-is)
          (sweep_pass on_words (verify_at on_words s) (length s) c.loop-t.t c.loop-t.left c.loop-t.bits _ c.loop-t-test.true c.loop-t.invariant.2 (told ∙ w.if-eq.false))
    ] in
    let after = next_after c.if-eq.bits c.loop-t.t in (
      omega (arith, c.min-t.ensures),
      c.if-eq.auto.bits ∙ c.loop-t.invariant.1,
      pass_to on_words (verify_at on_words s) (length s) c.if-eq.left c.if-eq.bits (c.loop-t.t + 1) c.min-t.result
          (omega (arith, c.min-t.ensures, c.next_marked.ensures, c.loop-t-test.true)) (omega (arith, c.min-t.ensures))
          (λ v h k. next_unrecorded c.if-eq.bits c.loop-t.t v (omega arith) (omega (arith, c.min-t.ensures, c.next_marked.ensures)))
          ∙ on,
    )

pub returns : goal.returns
returns c =
    let s = c.args.s.now in
    sweep_end on_words (verify_at on_words s) (length s) c.loop-t.t c.loop-t.left c.loop-t.bits _ c.loop-t-test.false c.loop-t.invariant.2

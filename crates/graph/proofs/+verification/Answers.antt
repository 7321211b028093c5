use mathlib.Core.Path.{◌≡◌, sym, ◌∙◌}
use mathlib.Core.Logic.{◌⊎◌, ⊎_elim}
use mathlib.Core.Bool.{false}
use Prim.Native.Nat.{ℕ, ◌<◌}
use lib.Dec.{eqb}
use lib.ListN.{length}
use borrow.Author.Tests.{eq-eqb, ne_eqb}
use native.Mathlib.Omega.{arith}
use Rattle.marks.specs.Marks.{number_of, validated, active}
use Rattle.marks.specs.declared.Mark.{Mark}
use Rattle.marks.specs.declared.Mark.TheVariants as mark
use Rattle.graph.specs.Graph.{skip_at}
use Rattle.graph.specs.Words.{on_words}
use Rattle.graph.proofs.WalkLaws.{target_outside, target_validated, target_cycle, target_walked, target_refused, many_turn, many_stop, many_end, skip_refused, skip_leaf, skip_children, children_too_deep, pointer_too_deep, pointer_followed, pointer_refused}
use Rattle.graph.proofs.+verification.Goals as goal

-- ---- one value

pub skip_value_with_verification-returns-in_err-next : goal.skip_value_with_verification-returns-in_err-next
skip_value_with_verification-returns-in_err-next t c =
    let a = c.args in
    rw c.from_residual.ensures (skip_refused on_words a.s.now a.at a.work a.bits.now a.levels c.in_err-next.ensures)

pub skip_value_with_verification-returns-in-Leaf : goal.skip_value_with_verification-returns-in-Leaf
skip_value_with_verification-returns-in-Leaf t c =
    let a = c.args in
    skip_leaf on_words a.s.now a.at a.work a.bits.now _ c.in_ok-next.ensures a.levels _ _ c.in-Leaf.is

pub skip_value_with_verification-returns-in_err-checked_sub-in-Pointer : goal.skip_value_with_verification-returns-in_err-checked_sub-in-Pointer
skip_value_with_verification-returns-in_err-checked_sub-in-Pointer t c =
    let a = c.args in
    rw c.from_residual-in_err-checked_sub-in-Pointer.ensures
    (pointer_too_deep on_words a.s.now a.at a.work a.bits.now _ c.in_ok-next.ensures a.levels c.in_err-checked_sub-in-Pointer.ensures _ _ _ c.in-Pointer.is)

pub skip_value_with_verification-returns-in_err-behind-in-Pointer : goal.skip_value_with_verification-returns-in_err-behind-in-Pointer
skip_value_with_verification-returns-in_err-behind-in-Pointer t c =
    let a = c.args in
    rw c.from_residual-in_err-behind-in-Pointer.ensures
    (pointer_refused on_words a.s.now a.at a.work a.bits.now _ c.in_ok-next.ensures a.levels _ c.in_ok-checked_sub-in-Pointer.ensures _ _ _ c.in-Pointer.is _ c.in_err-behind-in-Pointer.ensures)

pub skip_value_with_verification-returns-in_ok-behind-in-Pointer : goal.skip_value_with_verification-returns-in_ok-behind-in-Pointer
skip_value_with_verification-returns-in_ok-behind-in-Pointer t c =
    let a = c.args in
    pointer_followed on_words a.s.now a.at a.work a.bits.now _ c.in_ok-next.ensures a.levels _ c.in_ok-checked_sub-in-Pointer.ensures _ _ _ c.in-Pointer.is _ _ c.in_ok-behind-in-Pointer.ensures

pub skip_value_with_verification-returns-in_err-inside-in-Children : goal.skip_value_with_verification-returns-in_err-inside-in-Children
skip_value_with_verification-returns-in_err-inside-in-Children t c =
    let a = c.args in
    rw c.from_residual-in_err-inside-in-Children.ensures
    (children_too_deep on_words a.s.now a.at a.work a.bits.now _ c.in_ok-next.ensures a.levels c.in_err-inside-in-Children.ensures _ _ _ c.in-Children.is)

pub skip_value_with_verification-returns-in_err-past-in-Children : goal.skip_value_with_verification-returns-in_err-past-in-Children
skip_value_with_verification-returns-in_err-past-in-Children t c =
    let a = c.args in
    rw c.from_residual-in_err-past-in-Children.ensures
    (many_stop (skip_at on_words c.in_ok-inside-in-Children.inside a.s.now) _ _ c.loop-test.true _ _ _ _ c.loop.invariant.1 c.in_err-past-in-Children.ensures
    ∙ skip_children on_words a.s.now a.at a.work a.bits.now _ c.in_ok-next.ensures a.levels _ c.in_ok-inside-in-Children.ensures _ _ _ c.in-Children.is)

pub skip_value_with_verification-loop-preserved : goal.skip_value_with_verification-loop-preserved
skip_value_with_verification-loop-preserved t c = (
  c.skip_value_with_verification.auto.bits ∙ c.loop.invariant.0,
  many_turn (skip_at on_words c.in_ok-inside-in-Children.inside c.args.s.now) _ _ c.loop-test.true _ _ _ _ c.loop.invariant.1 _ c.in_ok-past-in-Children.ensures,
)

pub skip_value_with_verification-returns-after-loop : goal.skip_value_with_verification-returns-after-loop
skip_value_with_verification-returns-after-loop t c =
    let a = c.args in
    many_end (skip_at on_words c.in_ok-inside-in-Children.inside a.s.now) _ _ _ _ _ c.loop-test.false c.loop.invariant.1
    ∙ skip_children on_words a.s.now a.at a.work a.bits.now _ c.in_ok-next.ensures a.levels _ c.in_ok-inside-in-Children.ensures _ _ _ c.in-Children.is

-- ---- a target

pub verify_pointer_target-returns-then-s-target : goal.verify_pointer_target-returns-then-s-target
verify_pointer_target-returns-then-s-target t c =
    let a = c.args in
    target_outside on_words (skip_at on_words a.levels a.s.now) (length a.s.now) a.target a.work a.bits.now c.if-s-target.true

pub verify_pointer_target-returns-in-Validated : goal.verify_pointer_target-returns-in-Validated
verify_pointer_target-returns-in-Validated t c =
    let a = c.args in
    target_validated on_words (skip_at on_words a.levels a.s.now) (length a.s.now) a.target a.work a.bits.now c.if-s-target.false (eq-eqb _ _ (sym c.in-Validated.ensures))

pub verify_pointer_target-returns-in-Active : goal.verify_pointer_target-returns-in-Active
verify_pointer_target-returns-in-Active t c =
    let a = c.args in
    target_cycle on_words (skip_at on_words a.levels a.s.now) (length a.s.now) a.target a.work a.bits.now c.if-s-target.false
    (ne_eqb _ _ (λ e. omega (arith, c.in-Active.ensures))) (eq-eqb _ _ (sym c.in-Active.ensures))

-- a place that is free or recorded is neither validated nor active
fresh : (m : Mark) (n : ℕ) → number_of m ≡ n → ((m ≡ mark.Free) ⊎ (m ≡ mark.Recorded)) → (eqb n validated ≡ false) × (eqb n active ≡ false)
fresh m n e d =
    let low : n < 2 = ⊎_elim (λ f. let z = rw f at e in omega arith) (λ f. let z = rw f at e in omega arith) d in
    (ne_eqb n validated (λ k. omega arith), ne_eqb n active (λ k. omega arith))

pub verify_pointer_target-returns-in_err-past-in-Free : goal.verify_pointer_target-returns-in_err-past-in-Free
verify_pointer_target-returns-in_err-past-in-Free t c =
    let a = c.args in
    let new = fresh _ _ c.state.ensures c.in-Free.is in
    rw c.from_residual.ensures
    (target_refused on_words (skip_at on_words a.levels a.s.now) (length a.s.now) a.target a.work a.bits.now c.if-s-target.false new.0 new.1 _ _ c.set_state.ensures c.in_err-past-in-Free.ensures)

pub verify_pointer_target-returns-in_ok-past-in-Free : goal.verify_pointer_target-returns-in_ok-past-in-Free
verify_pointer_target-returns-in_ok-past-in-Free t c =
    let a = c.args in
    let new = fresh _ _ c.state.ensures c.in-Free.is in
    target_walked on_words (skip_at on_words a.levels a.s.now) (length a.s.now) a.target a.work a.bits.now c.if-s-target.false new.0 new.1 _ _ c.set_state.ensures _ _ c.in_ok-past-in-Free.ensures c.set_state-in-Free.ensures

use native.Mathlib.Omega.{arith}
use mathlib.Core.Path.{◌≡◌, refl}
use mathlib.Core.Logic.{inl, inr}
use Rattle.tree.proofs.RecordLaws.{from_window, in24, in28, in32, only32, moved_fits, joined_fits}
use Rattle.tree.proofs.record.read_node.Goals as goal
use Rattle.tree.proofs.record.read_node.Goals.{Else-size-eq28}

-- 32 is the size that is left
size32 : (c : Else-size-eq28) → c.args.size ≡ 32
size32 c = only32 c.requires.sized c.if-size-eq24.false c.if-size-eq28.false

pub window-w-requires : goal.window-w-requires
window-w-requires c = let p = c.requires in (omega arith, rw c.if-size-eq24.true at p.inside, p.one)

pub returns-then-size-eq24 : goal.returns-then-size-eq24
returns-then-size-eq24 c =
    let a = c.args in
    let w = c.window-w in
    let b = in24 w.result a.bit w.ensures.1 c.requires.one in
    rw c.if-size-eq24.true
    (from_window a.s.now (λ i. (c.shared_slice_known-1.given i).fits) 24 a.node a.bit (inl refl) c.requires.one w.ensures.0 b)

pub window-w-requires-then-size-eq28 : goal.window-w-requires-then-size-eq28
window-w-requires-then-size-eq28 c = let p = c.requires in (omega arith, rw c.if-size-eq28.true at p.inside, p.one)

pub overflow_mul-result-then-size-eq28-2 : goal.overflow_mul-result-then-size-eq28-2
overflow_mul-result-then-size-eq28-2 c = record { fits = moved_fits _ _ _ c.window-w-then-size-eq28.ensures.1 (omega arith) }

pub overflow_add-result : goal.overflow_add-result
overflow_add-result c = record { fits = joined_fits _ _ _ _ c.window-w-then-size-eq28.ensures.1 (omega arith) (omega arith) }

pub returns-then-size-eq28 : goal.returns-then-size-eq28
returns-then-size-eq28 c =
    let a = c.args in
    let w = c.window-w-then-size-eq28 in
    let b = in28 w.result a.bit w.ensures.1 c.requires.one in
    rw c.if-size-eq28.true
    (from_window a.s.now (λ i. (c.shared_slice_known-1.given i).fits) 28 a.node a.bit (inr (inl refl)) c.requires.one w.ensures.0 b)

pub window-requires : goal.window-requires
window-requires c = let p = c.requires in (omega arith, rw (size32 (goal.at.window-requires c).Else-size-eq28) at p.inside, p.one)

pub returns : goal.returns
returns c =
    let a = c.args in
    let w = c.window in
    let b = in32 w.result a.bit w.ensures.1 c.requires.one in
    rw (size32 (goal.at.returns c).Else-size-eq28)
    (from_window a.s.now (λ i. (c.shared_slice_known-1.given i).fits) 32 a.node a.bit (inr (inr refl)) c.requires.one w.ensures.0 b)

use Prim.Native.Nat.{◌+◌, ◌-◌, ◌*◌, ◌≤◌}
use mathlib.Core.Path.{◌∙◌}
use native.Mathlib.Omega.{arith}
use lib.ListN.{length, length-drop}
use Rattle.tree.proofs.RecordLaws.{window_inside, rest_whole, be_drop}
use Rattle.tree.proofs.record.window.Goals as goal

pub overflow_mul-side : goal.overflow_mul-side
overflow_mul-side c = let a = c.args in let p = c.requires in omega (arith, window_inside a.node a.bytes a.bit p.0 p.1 p.2)

pub slice_bounds-side-count : goal.slice_bounds-side-count
slice_bounds-side-count c = let a = c.args in let p = c.requires in omega (arith, window_inside a.node a.bytes a.bit p.0 p.1 p.2)

pub slice_bounds-side-start : goal.slice_bounds-side-start
slice_bounds-side-start c =
    let a = c.args in
    let p = c.requires in
    let i : a.node * a.bytes + a.bit * (a.bytes - 4) + 4 ≤ length a.s.now = window_inside a.node a.bytes a.bit p.0 p.1 p.2 in
    let l : a.bit * (a.bytes - 4) ≤ length a.s.now = omega arith in
    l

pub word-requires : goal.word-requires
word-requires c =
    let a = c.args in
    let p = c.requires in
    let k = a.bit * (a.bytes - 4) in
    rw (rest_whole a.s.now k)
    (omega (arith, length-drop k a.s.now, window_inside a.node a.bytes a.bit p.0 p.1 p.2))

pub returns : goal.returns
returns c =
    let a = c.args in
    let k = a.bit * (a.bytes - 4) in
    let w = c.word.ensures in
    (w.0 ∙ rw (rest_whole a.s.now k) (be_drop a.s.now k (a.node * a.bytes) 4), w.1)

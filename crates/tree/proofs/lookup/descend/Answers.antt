use Prim.Native.Nat.{◌+◌, ◌-◌}
use mathlib.Core.Path.{◌≡◌, ap, sym, ◌∙◌}
use native.Mathlib.Omega.{arith}
use Rattle.tree.proofs.LookupLaws.{place, down_none, down_end, down_step}
use Rattle.tree.proofs.lookup.descend.Goals as goal

pub returns-then-nodes-node : goal.returns-then-nodes-node
returns-then-nodes-node c = sym (down_end _ _ _ _ _ _ _ _ c.if-nodes-node.true) ∙ c.loop-depth.invariant

pub loop-depth-preserved : goal.loop-depth-preserved
loop-depth-preserved c =
    let a = c.args in
    let l = c.loop-depth in
    let e : a.bits - (l.depth + 1) ≡ a.bits - l.depth - 1 = omega arith in
    rw (c.read_node-node.ensures, c.get_bit.ensures, e)
    (sym (down_step _ _ _ _ _ _ _ _ (omega arith) c.if-nodes-node.false) ∙ l.invariant)

pub returns : goal.returns
returns c =
    let e : c.args.bits ≡ c.loop-depth.depth = omega arith in
    ap (place c.loop-depth.node) e ∙ sym (down_none _ _ _ _ _ _ _ _ (omega arith)) ∙ c.loop-depth.invariant

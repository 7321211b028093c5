use native.Mathlib.Omega.{arith}
use mathlib.Core.Path.{◌≡◌, sym}
use Rattle.tree.proofs.MarkerLaws.{agree_none, agree_more, agree_stop}
use Rattle.tree.proofs.marker.stands.Goals as goal

pub loop-k-init : goal.loop-k-init
loop-k-init c = agree_none _ _

pub returns-then-s-at : goal.returns-then-s-at
returns-then-s-at c = sym (agree_stop _ _ _ c.if-s-at.true 14 (omega arith))

pub loop-k-preserved : goal.loop-k-preserved
loop-k-preserved c = agree_more _ _ _ c.loop-k.invariant c.if-s-at.false

pub returns : goal.returns
returns c =
    let e : c.loop-k.k ≡ 14 = omega arith in
    sym (rw e at c.loop-k.invariant)

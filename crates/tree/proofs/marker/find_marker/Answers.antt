use native.Mathlib.Omega.{arith}
use mathlib.Core.Path.{sym, ap, ◌∙◌}
use Rattle.tree.specs.Marker.{last_below, marker_of}
use Rattle.tree.proofs.MarkerLaws.{last_miss, last_hit, last_none}
use Rattle.tree.proofs.marker.find_marker.Goals as goal

pub loop-at-init : goal.loop-at-init
unfolding marker_of
loop-at-init c = ap (last_below _) (omega arith)

pub returns-then-stands-clause-last : goal.returns-then-stands-clause-last
returns-then-stands-clause-last c = sym (last_hit _ _ (omega arith) (sym c.stands.ensures ∙ c.if-stands.true)) ∙ c.loop-at.invariant

pub loop-at-preserved : goal.loop-at-preserved
loop-at-preserved c = sym (last_miss _ _ (omega arith) (sym c.stands.ensures ∙ c.if-stands.false)) ∙ c.loop-at.invariant

pub returns-clause-last : goal.returns-clause-last
returns-clause-last c = sym (last_none _ _ (omega arith)) ∙ c.loop-at.invariant

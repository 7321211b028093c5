use mathlib.Core.Path.{◌≡◌}
use mathlib.Core.Bool.{true}
use Rattle.tree.specs.Marker.{agree}
use Rattle.tree.proofs.marker.stands.Given as goal

abbrev pub invariant-loop-k : goal.invariant-loop-k
invariant-loop-k l = agree l.s l.at l.k ≡ true

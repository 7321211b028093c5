use mathlib.Core.Path.{◌≡◌}
use Rattle.tree.specs.Marker.{last_below, marker_of}
use Rattle.tree.proofs.marker.find_marker.Given as goal

abbrev pub invariant-loop-at : goal.invariant-loop-at
invariant-loop-at l = last_below l.s l.at ≡ marker_of l.s

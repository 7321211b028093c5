use Prim.Native.Nat.{◌-◌}
use mathlib.Core.Path.{◌≡◌}
use Rattle.number.specs.Keys.{number_of}
use Rattle.tree.specs.Lookup.{down}
use Rattle.tree.proofs.lookup.descend.Given as goal

abbrev pub invariant-loop-depth : goal.invariant-loop-depth
invariant-loop-depth l = down l.s l.size l.nodes (number_of l.key) l.width l.depth (l.bits - l.depth) l.node ≡ down l.s l.size l.nodes (number_of l.key) l.width 0 l.bits l.start

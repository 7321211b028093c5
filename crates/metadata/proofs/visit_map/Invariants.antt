use Prim.Native.Nat.{◌-◌}
use mathlib.Core.Path.{◌≡◌}
use Rattle.metadata.specs.Metadata.{pair_at, gather, none_seen}
use Rattle.metadata.proofs.visit_map.Given as goal

abbrev pub invariant-loop : goal.invariant-loop
invariant-loop l =
    gather (pair_at l.s) (l.pairs - l.counter) l.past.next l.past.charge l.fields ≡ gather (pair_at l.s) l.pairs l.first l.initial.past.charge none_seen

use mathlib.Core.Path.{◌≡◌}
use Prim.Native.Nat.{◌≤◌, ◌-◌}
use lib.ListN.{length}
use Rattle.graph.specs.Graph.{verify_at}
use Rattle.graph.specs.Words.{on_words}
use Rattle.sweep.specs.Sweep.{sweep_at}
use Rattle.sweep.proofs.verify_recorded.Given as goal

abbrev pub invariant-loop-t : goal.invariant-loop-t
invariant-loop-t l = (l.t ≤ length l.s) × (length l.bits ≡ length l.initial.bits)
    × (sweep_at on_words (verify_at on_words l.s) (length l.s - l.t) l.t l.left l.bits ≡ sweep_at on_words (verify_at on_words l.s) (length l.s) 0 l.work l.initial.bits)

abbrev pub decreases-loop-t : goal.decreases-loop-t
decreases-loop-t l = length l.s - l.t

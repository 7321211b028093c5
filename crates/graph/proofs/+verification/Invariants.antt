use Rattle.std.specs.Prelude.{◌≡◌, ◌+◌, ◌-◌, length, Some}
use Rattle.graph.specs.Graph.{many_at, skip_at}
use Rattle.graph.specs.Words.{on_words}
use Rattle.graph.proofs.+verification.Given as goal

-- a target is walked at its own level, what is inside a value one level deeper
abbrev pub decreases-skip_value_with_verification : goal.decreases-skip_value_with_verification
decreases-skip_value_with_verification l = l.levels + l.levels

abbrev pub decreases-verify_pointer_target : goal.decreases-verify_pointer_target
decreases-verify_pointer_target l = l.levels + l.levels + 1

abbrev pub invariant-skip_value_with_verification-loop : goal.invariant-skip_value_with_verification-loop
invariant-skip_value_with_verification-loop l = (length l.bits ≡ length l.initial.bits)
    × (many_at (skip_at on_words l.inside l.s) (l.count - l.counter) (Some l.past) l.bits ≡ many_at (skip_at on_words l.inside l.s) l.count (Some l.initial.past) l.initial.bits)

use Rattle.std.proofs.Common.{length}
use Rattle.replay_values.proofs.steps.arrived.Given as goal

abbrev pub decreases-loop-kind : goal.decreases-loop-kind
decreases-loop-kind l = length l.rest

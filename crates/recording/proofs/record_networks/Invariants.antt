use mathlib.Core.Path.{◌≡◌}
use lib.ListN.{length}
use Rattle.recording.specs.Recording.{toured, tour_of, marked}
use Rattle.recording.proofs.record_networks.Given as goal

abbrev pub invariant-loop-more : goal.invariant-loop-more
invariant-loop-more l = (length l.bits ≡ length l.initial.bits) × (length l.rows ≡ 1280) × (marked (toured l.image l.h l.more l.left l.walk) l.bits ≡ marked (tour_of l.image l.h l.budget) l.initial.bits)

abbrev pub decreases-loop-more : goal.decreases-loop-more
decreases-loop-more l = l.more

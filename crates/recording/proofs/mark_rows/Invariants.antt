use Prim.Native.Nat.{◌-◌, ◌*◌, ◌/◌}
use mathlib.Core.Path.{◌≡◌}
use lib.ListN.{length}
use Rattle.marks.specs.Marks.{record_each, Below}
use Rattle.recording.specs.Recording.{offsets_from}
use Rattle.recording.proofs.mark_rows.Given as goal

abbrev pub invariant-loop-row : goal.invariant-loop-row
invariant-loop-row l = (length l.bits ≡ length l.initial.bits) × Below (length l.initial.bits / 2 * 64) (offsets_from l.rows l.row (l.n - l.row))
    × (record_each l.bits (offsets_from l.rows l.row (l.n - l.row)) ≡ record_each l.initial.bits (offsets_from l.rows 0 l.n))

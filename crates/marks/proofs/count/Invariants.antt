use Rattle.std.proofs.Common.{◌≡◌, ◌≤◌, ◌*◌}
use Rattle.marks.specs.Marks.{size_of, marked}
use Rattle.marks.proofs.count.Given as goal

abbrev pub invariant-loop-i : goal.invariant-loop-i
invariant-loop-i l = (l.c ≤ l.i * 64) × (l.c ≡ size_of (marked l.bits) (l.i * 64))

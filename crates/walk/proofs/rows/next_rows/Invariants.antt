use Prim.Native.Nat.{◌-◌, ◌<◌, ◌≤◌}
use mathlib.Core.Path.{◌≡◌}
use mathlib.Core.Bool.{false}
use lib.ListN.{length}
use Rattle.place.specs.Shape.{frame_out}
use Rattle.walk.specs.Rows.{pouring}
use Rattle.walk.proofs.HeldLaws.{held}
use Rattle.walk.proofs.RowLaws.{going}
use Rattle.walk.proofs.rows.next_rows.Given as goal

-- with the newest place held
abbrev pub invariant-loop-section : goal.invariant-loop-section
invariant-loop-section l = (l.initial.n ≤ l.n) × (l.n ≤ l.budget) × (l.row < l.space) × (length l.out ≡ length l.initial.out) × (l.terms.width ≡ l.w.width) × (l.terms.options ≡ l.w.options)
    × (0 < l.w.count) × (frame_out l.w.count l.w.width ≡ false) × (length l.w.places ≡ 129)
    × (pouring l.row 0 (going l.image l.h l.budget (l.space - l.row) l.n (held l.w l.p)) l.out ≡ pouring l.initial.row 0 (going l.image l.h l.budget (l.space - l.initial.row) l.initial.n l.initial.w) l.initial.out)

abbrev pub decreases-loop-section : goal.decreases-loop-section
decreases-loop-section l = l.budget - l.n

abbrev pub invariant-rows : goal.invariant-rows
invariant-rows l = (l.n ≤ l.budget) × (l.row ≤ l.space) × (length l.out ≡ length l.initial.out) × (l.terms.width ≡ l.w.width) × (l.terms.options ≡ l.w.options) × (length l.w.places ≡ 129)
    × (pouring l.row 0 (going l.image l.h l.budget (l.space - l.row) l.n l.w) l.out ≡ pouring 0 0 (going l.image l.h l.budget l.space 0 l.initial.w) l.initial.out)

abbrev pub decreases-rows : goal.decreases-rows
decreases-rows l = l.budget - l.n

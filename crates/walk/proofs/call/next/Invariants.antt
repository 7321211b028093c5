use Prim.Native.Nat.{◌-◌, ◌≤◌}
use mathlib.Core.Path.{◌≡◌}
use Rattle.walk.specs.Calls.{goes}
use Rattle.walk.proofs.call.next.Given as goal

abbrev pub invariant-loop-section : goal.invariant-loop-section
invariant-loop-section l = (l.n ≤ l.budget) × (l.terms.width ≡ l.w.width) × (l.terms.options ≡ l.w.options) × (goes l.image l.h l.budget 0 l.initial.w ≡ goes l.image l.h (l.budget - l.n) l.n l.w)

abbrev pub decreases-loop-section : goal.decreases-loop-section
decreases-loop-section l = l.budget - l.n

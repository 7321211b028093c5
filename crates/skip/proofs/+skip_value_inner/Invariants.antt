use Prim.Native.Nat.{◌-◌}
use mathlib.Core.Path.{◌≡◌}
use Rattle.std.specs.Prelude.{Some}
use Rattle.skip.specs.Skip.{skip_at, many}
use Rattle.skip.proofs.+skip_value_inner.Given as goal

abbrev pub invariant-loop : goal.invariant-loop
invariant-loop l = many (skip_at l.s (l.levels - 1)) (l.count - l.counter) (Some l.past) ≡ many (skip_at l.s (l.levels - 1)) l.count (Some l.initial.past)

abbrev pub decreases-skip_value_inner : goal.decreases-skip_value_inner
decreases-skip_value_inner l = l.levels

use mathlib.Core.Path.{◌≡◌}
use Prim.Native.Nat.{◌-◌}
use Rattle.std.specs.Prelude.{Some}
use Rattle.skip.specs.Skip.{many, skipped_at}
use Rattle.path.proofs.skip_many.Given as goal

abbrev pub invariant-loop : goal.invariant-loop
invariant-loop l = many (skipped_at l.s) (l.count - l.counter) (Some l.past) ≡ many (skipped_at l.s) l.count (Some l.initial.past)

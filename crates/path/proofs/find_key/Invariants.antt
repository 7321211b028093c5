use mathlib.Core.Path.{◌≡◌}
use Prim.Native.Nat.{◌-◌}
use Rattle.path.specs.Steps.{find_from}
use Rattle.path.proofs.find_key.Given as goal

abbrev pub invariant-loop : goal.invariant-loop
invariant-loop l = find_from l.s l.key (l.fn.inside.size - l.counter) l.cursor.place l.cursor.charge ≡ find_from l.s l.key l.fn.inside.size l.fn.inside.first l.fn.inside.charge

use Prim.Native.Nat.{◌-◌}
use mathlib.Core.Path.{◌≡◌}
use Rattle.std.specs.Prelude.{Some}
use Rattle.fields.specs.Fields.{text_at, many, texts_at}
use Rattle.fields.proofs.texts.Given as goal

abbrev pub invariant-loop : goal.invariant-loop
invariant-loop l = many (text_at l.s) (l.count - l.counter) (Some l.last) ≡ texts_at l.s l.count l.first l.initial.last.charge

use mathlib.Core.Path.{◌≡◌}
use lib.ListN.{drop}
use Rattle.std.specs.Prelude.{Some}
use Rattle.text.specs.Utf8.{run, well_formed}
use Rattle.text.proofs.utf8.Given as goal

abbrev pub invariant-loop-b : goal.invariant-loop-b
invariant-loop-b l = run (drop l.b-index l.s) (Some l.next) ≡ well_formed l.s

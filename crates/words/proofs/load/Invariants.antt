use Prim.Native.Nat.{◌-◌}
use mathlib.Core.Path.{◌≡◌}
use lib.ListN.{replicate}
use Rattle.walk.specs.Walks.{none}
use Rattle.words.specs.Words.{places_from}
use Rattle.words.proofs.load.Given as goal

abbrev pub invariant-loop-i : goal.invariant-loop-i
invariant-loop-i l = places_from l.words 129 0 (replicate 129 none) ≡ places_from l.words (129 - l.i) l.i l.place-items

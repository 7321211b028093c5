use mathlib.Core.Path.{◌∙◌}
use Rattle.words.specs.Words.{walk_of}
use Rattle.words.proofs.WordLaws.{places_on, places_end}
use Rattle.words.proofs.load.Goals as goal

pub loop-i-preserved : goal.loop-i-preserved
loop-i-preserved c = c.loop-i.invariant ∙ places_on _ _ _ c.loop-i-test.true ∙ rw c.place_at.ensures

pub returns : goal.returns
unfolding walk_of
returns c = let n = c.loop-i.invariant ∙ places_end _ _ _ c.loop-i-test.false in simp (n, c.options_of.ensures)

use mathlib.Core.Path.{◌∙◌}
use Rattle.words.specs.Words.{held}
use Rattle.words.proofs.WordLaws.{put_on, put_end}
use Rattle.words.proofs.store.Goals as goal

pub loop-i-preserved : goal.loop-i-preserved
loop-i-preserved c = (c.put_place.auto.words ∙ c.loop-i.invariant.0, c.loop-i.invariant.1 ∙ put_on _ _ _ c.loop-i-test.true ∙ rw c.put_place.ensures)

pub returns : goal.returns
unfolding held
returns c = let e = c.loop-i.invariant.1 ∙ put_end _ _ _ c.loop-i-test.false in rw (e, c.options_number.ensures)

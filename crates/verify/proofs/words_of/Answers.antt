use native.Mathlib.Omega.{arith}
use Rattle.handle.proofs.HandleLaws.{fit}
use Rattle.verify.proofs.words_of.Goals as goal

pub overflow_sub-section : goal.overflow_sub-section
overflow_sub-section c = let f = fit _ _ c.requires in omega (arith, f.marked)

pub overflow_sub-section-2 : goal.overflow_sub-section-2
overflow_sub-section-2 c = let f = fit _ _ c.requires in omega (arith, f.marked)

pub overflow_sub-image : goal.overflow_sub-image
overflow_sub-image c = let f = fit _ _ c.requires in omega (arith, f.whole)

pub overflow_add-result : goal.overflow_add-result
overflow_add-result c = let f = fit _ _ c.requires in omega (arith, f.short, f.whole, c.max.ensures)

use mathlib.Core.Path.{ap, ◌∙◌}
use native.Mathlib.Omega.{arith}
use lib.ListN.{length}
use Rattle.number.specs.Keys.{number_of}
use Rattle.handle.proofs.HandleLaws.{fit, tree_whole}
use Rattle.tree.specs.declared.Place.{Place}
use Rattle.tree.proofs.LookupLaws.{down_le}
use Rattle.lookup.specs.Lookup.{found_from}
use Rattle.lookup.proofs.find.Goals as goal

pub descend-p-requires : goal.descend-p-requires
descend-p-requires c =
    let f = fit c.args.h (length c.args.image.now) c.requires.image_value in
    record { tree = record { sized = f.sizes; inside = tree_whole f }; bits_le_width = (omega arith, c.requires.fitting.wide) }

pub overflow_sub-h : goal.overflow_sub-h
overflow_sub-h c = omega (arith, (fit c.args.h (length c.args.image.now) c.requires.image_value).marked)

pub overflow_sub-h-2 : goal.overflow_sub-h-2
overflow_sub-h-2 c = omega (arith, (fit c.args.h (length c.args.image.now) c.requires.image_value).marked)

pub overflow_add-w : goal.overflow_add-w
overflow_add-w c =
    let a = c.args in
    omega (arith, ap (λ (p : Place). p.depth) c.descend-p.ensures, down_le a.image.now a.h.size a.h.nodes (number_of a.w.key) a.w.width 0 a.w.width a.w.start, c.requires.fitting.wide, c.requires.fitting.shallow)

pub returns : goal.returns
unfolding found_from
returns c = c.ok_or.ensures.value ∙ simp (c.answer-found.ensures, c.descend-p.ensures)

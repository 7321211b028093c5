use Rattle.opening.proofs.OpeningLaws.{open_fits}
use mathlib.Core.Path.{sym}
use Rattle.verify.proofs.scratch_words.Goals as goal

pub words_of-requires : goal.words_of-requires
words_of-requires c = open_fits c.args.image.now (λ i. (c.type_inv.image i).fits) (sym c.in_ok-reader.ensures)

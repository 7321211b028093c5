use mathlib.Core.Path.{sym, ◌∙◌}
use Rattle.opening.proofs.OpeningLaws.{open_build}
use Rattle.opening.proofs.age.Goals as goal

pub difference-requires : goal.difference-requires
difference-requires c = (c.if-time-gt-LAST_TIME.false, open_build c.args.image.now (sym c.open.ensures ∙ c.in_ok-reader.was))

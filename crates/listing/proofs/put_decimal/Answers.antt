use Rattle.listing.proofs.LineLaws.{wrote_decimal}
use Rattle.listing.proofs.put_decimal.Goals as goal

pub returns : goal.returns
returns c = wrote_decimal c.args.n c.args.at c.decimal_places-count.result c.decimal_places-count.ensures.0 c.decimal_places-count.ensures.1 c.put_digits.ensures

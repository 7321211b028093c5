use Rattle.listing.specs.Lines.{error_line}
use Rattle.listing.proofs.LineLaws.{wrote_more, wrote_within}
use native.Mathlib.Omega.{arith}
use Rattle.listing.proofs.put_error.Goals as goal

pub returns : goal.returns
unfolding error_line
returns c = wrote_within {m = 27} (omega arith) (wrote_more (wrote_more c.put_text-word.ensures c.put_decimal-past_number.ensures) c.put_text.ensures)

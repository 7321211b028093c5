use Rattle.listing.proofs.LineLaws.{wrote_text}
use Rattle.listing.proofs.put_text.Goals as goal

pub returns : goal.returns
returns c = wrote_text c.args.text.now c.args.buf.now c.args.at c.requires c.copy_from_slice.ensures.after

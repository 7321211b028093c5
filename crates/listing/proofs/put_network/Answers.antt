-- One text after the other; the longest line has 32, 1, 20, 1, 20 and 1 bytes.
use Rattle.listing.specs.Lines.{network_line}
use Rattle.listing.proofs.LineLaws.{wrote_more}
use Rattle.listing.proofs.put_network.Goals as goal

pub returns : goal.returns
unfolding network_line
returns c =
    wrote_more
    (wrote_more
    (wrote_more
    (wrote_more
    (wrote_more c.put_key-past_key.ensures c.put_text-slash.ensures)
    c.put_decimal-past_len.ensures)
    c.put_text-space.ensures)
    c.put_offset-past_offset.ensures)
    c.put_text.ensures

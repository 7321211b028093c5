use Rattle.listing.proofs.LineLaws.{wrote_ipv4, wrote_ipv6}
use native.Mathlib.Omega.{arith}
use Rattle.listing.proofs.put_key.Goals as goal

pub returns-then-width-eq32 : goal.returns-then-width-eq32
returns-then-width-eq32 c = wrote_ipv4 c.args.width c.args.at c.args.key c.if-width-eq32.true c.put_digits.ensures

pub returns : goal.returns
returns c = wrote_ipv6 c.args.width c.args.at c.args.key c.if-width-eq32.false (omega arith) c.put_digits-2.ensures c.put_digits-3.ensures

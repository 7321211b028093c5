use mathlib.Core.Path.{sym}
use native.Mathlib.Omega.{arith}
use Rattle.listing.proofs.DigitLaws.{places_last, places_log}
use Rattle.listing.proofs.decimal_places.Goals as goal

pub returns-in-Some : goal.returns-in-Some
returns-in-Some c =
    let found = c.in-Some.ensures in
    let log = places_log 19 c.in-Some.log c.args.n found.power_le found.next_power_gt (omega (arith, found.bound)) in
    (sym log, omega (arith, found.bound))

pub returns-in-None : goal.returns-in-None
returns-in-None c = (sym (places_last 19 c.args.n (omega (arith, c.in-None.ensures.none))), omega arith)

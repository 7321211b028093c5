use mathlib.Core.Path.{◌≡◌}
use lib.ListN.{length}
use lib.Seq.{sets}
use Rattle.listing.specs.Digits.{digits}
use Rattle.listing.proofs.put_digits.Given as goal

abbrev pub invariant-loop-left : goal.invariant-loop-left
invariant-loop-left l = (sets l.buf l.at (digits l.base l.left l.rest) ≡ sets l.initial.buf l.at (digits l.base l.count l.n)) × (length l.buf ≡ length l.initial.buf)

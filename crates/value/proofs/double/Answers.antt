use lib.Ieee.{binary64, of_bits, div}
use lib.Ieee
use lib.Ieee.Bits.{nan_bits_is}
use mathlib.Core.Path.{◌≡◌, sym, ◌∙◌, ap}
use Rattle.value.specs.declared.Value.TheVariants.{Double}
use Rattle.value.proofs.NumberLaws.{is_nan_lem, no_nan, nan_only}
use Rattle.value.proofs.double.Goals as goal

pub float_from_bits-result : goal.float_from_bits-result
float_from_bits-result c = rw (no_nan binary64 c.args.bits c.if-bits-gt-INFINITE_DOUBLE.false) tt

pub returns-then-bits-gt-INFINITE_DOUBLE : goal.returns-then-bits-gt-INFINITE_DOUBLE
unfolding div of_bits
returns-then-bits-gt-INFINITE_DOUBLE c =
    let b = c.args.bits in
    let e : div binary64 (of_bits binary64 0) (of_bits binary64 0) ≡ of_bits binary64 b = sym (nan_only (of_bits binary64 b) (sym (nan_bits_is binary64 b) ∙ is_nan_lem binary64 b c.if-bits-gt-INFINITE_DOUBLE.true)) in
    ap (λ (x : Ieee.Float). Double x b) e

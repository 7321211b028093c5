use lib.Ieee.{binary32, of_bits, div}
use lib.Ieee
use lib.Ieee.Bits.{nan_bits_is}
use mathlib.Core.Path.{◌≡◌, sym, ◌∙◌, ap}
use Rattle.value.specs.declared.Value.TheVariants.{Float}
use Rattle.value.proofs.NumberLaws.{is_nan_lem, no_nan, nan_only}
use Rattle.value.proofs.float.Goals as goal

pub float_from_bits-result : goal.float_from_bits-result
float_from_bits-result c = rw (no_nan binary32 c.args.bits c.if-bits-gt-INFINITE_FLOAT.false) tt

pub returns-then-bits-gt-INFINITE_FLOAT : goal.returns-then-bits-gt-INFINITE_FLOAT
unfolding div of_bits
returns-then-bits-gt-INFINITE_FLOAT c =
    let b = c.args.bits in
    let e : div binary32 (of_bits binary32 0) (of_bits binary32 0) ≡ of_bits binary32 b = sym (nan_only (of_bits binary32 b) (sym (nan_bits_is binary32 b) ∙ is_nan_lem binary32 b c.if-bits-gt-INFINITE_FLOAT.true)) in
    ap (λ (x : Ieee.Float). Float x b) e

-- Signed numbers, doubles, floats and numbers of 128 bits: the specification's "integer formats", "double" and "float".
use Rattle.std.specs.Prelude.{ℕ, ◌/◌, ◌%◌, ◌^◌, List, cond, ltb, ℤ, pos, ◌-ℤ◌}
use Rattle.std.specs.Float.{binary32, binary64}
use Rattle.std.specs.Float.Ieee.{of_bits}
use Rattle.number.specs.Bytes.{be_at}
use Rattle.value.specs.declared.Value.{Value}
use Rattle.value.specs.declared.Value.TheVariants.{U128, Double, Float}

-- 32 bits, the highest of which is the sign; fewer bytes are filled up with zeros
abbrev pub signed32 : ℕ → ℤ
signed32 v = cond (ltb v 2147483648) (pos v) (pos v -ℤ pos 4294967296)

-- the number that 64 or 32 bits stand for, and the bits themselves, which tell one NaN from another
abbrev pub double_of : ℕ → Value
double_of bits = Double (of_bits binary64 bits) bits

abbrev pub float_of : ℕ → Value
float_of bits = Float (of_bits binary32 bits) bits

-- n bytes from p, as two halves
abbrev pub wide_at : List ℕ → ℕ → ℕ → Value
wide_at s p n = U128 (be_at s p n / 2 ^ 64) (be_at s p n % 2 ^ 64)

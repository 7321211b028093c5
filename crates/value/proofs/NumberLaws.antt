-- Laws of floats and of numbers in two halves.
use Prim.Native.Nat.{ℕ, ◌+◌, ◌-◌, ◌*◌, ◌/◌, ◌%◌, ◌^◌, ◌≤◌, ◌<◌}
use mathlib.Core.List.{List}
use lib.Pow.{high, low}
use Rattle.number.specs.Bytes.{be_at}
use Rattle.number.proofs.ByteLaws.{be_split}
use mathlib.Core.Path.{◌≡◌, refl, ap, ◌∙◌}
use mathlib.Core.Bool.{true, false}
use native.Mathlib.Omega.{arith}
use borrow.Author.Tests.{le-ltb, lt-ltb}
use lib.Ieee
use lib.Ieee.{Format, nan_bits, ones, hid, top, is_nan, nan, inf, fin}
use lib.Ieee.Bits.{nan_bits_above}

-- bits are a NaN's exactly where they lie, with the sign dropped, above an infinity's
pub is_nan_lem : (f : Format) (b : ℕ) → ones f * hid f < b % top f → nan_bits f b ≡ true
is_nan_lem f b h = nan_bits_above f b ∙ lt-ltb _ _ h

pub no_nan : (f : Format) (b : ℕ) → b % top f ≤ ones f * hid f → nan_bits f b ≡ false
no_nan f b h = nan_bits_above f b ∙ le-ltb _ _ h

-- there is one NaN
pub nan_only : (x : Ieee.Float) → is_nan x ≡ true → x ≡ nan
unfolding is_nan
nan_only nan e = refl
nan_only (inf s) e = cc
nan_only (fin s m x) e = cc

-- a number of more than 8 bytes, in halves
wide_split : (s : List ℕ) (p n : ℕ) → 8 < n → be_at s p n ≡ be_at s p (n - 8) * 2 ^ 64 + be_at s (p + (n - 8)) 8
wide_split s p n h = let k : n ≡ n - 8 + 8 = omega arith in ap (be_at s p) k ∙ be_split s p (n - 8) 8

pub wide_high : (s : List ℕ) (p n : ℕ) → 8 < n → be_at s (p + (n - 8)) 8 < 2 ^ 64 → be_at s p n / 2 ^ 64 ≡ be_at s p (n - 8)
wide_high s p n h l = rw (wide_split s p n h) (high (be_at s p (n - 8)) 64 l)

pub wide_low : (s : List ℕ) (p n : ℕ) → 8 < n → be_at s (p + (n - 8)) 8 < 2 ^ 64 → be_at s p n % 2 ^ 64 ≡ be_at s (p + (n - 8)) 8
wide_low s p n h l = rw (wide_split s p n h) (low (be_at s p (n - 8)) 64 l)

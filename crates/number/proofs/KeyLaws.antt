-- Laws of keys in two halves.
use Prim.Native.Nat.{ℕ, ◌+◌, ◌-◌, ◌*◌, ◌/◌, ◌%◌, ◌^◌, ◌<◌, ◌≤◌}
use mathlib.Core.Path.{◌≡◌, ap, sym, ◌∙◌}
use native.Mathlib.Nat.{one-mul, zero-mul, zero-add, add-zero, mod-eq_of_lt, div-eq_of_lt, mul_assoc, lt_of_lt_of_le}
use native.Mathlib.Omega.{arith}
use lib.Bits.{bit_or, or_block, or_zero_r, or_lt}
use lib.Pow.{shl_exact, high, low, pow-lt, pow_mono, pow-add, pow_pos, split, field, shr-shr, mod-mod-pow}
use Rattle.number.specs.Keys.{key_of, cleared}
use Rattle.number.specs.declared.Key.{Key}

-- 1 << k
pub one_shl : (k : ℕ) → k < 64 → (1 * 2 ^ k) % 2 ^ 64 ≡ 2 ^ k
one_shl k h = shl_exact 1 k 64 (omega arith) (omega arith) ∙ one-mul (2 ^ k)

-- (x >> k) << k
pub clear_fits : (x k : ℕ) → x < 2 ^ 64 → cleared x k % 2 ^ 64 ≡ cleared x k
clear_fits x k h = mod-eq_of_lt (omega (arith, split x k))

abbrev key : ℕ → ℕ → Key
key h l = record { high = h; low = l }

-- the halves of a number in halves
pub halves : (h l : ℕ) → l < 2 ^ 64 → key_of (h * 2 ^ 64 + l) ≡ key h l
halves h l hl = rw (high h 64 hl, low h 64 hl)

-- a key of two halves h and l: what lies below place 64 is the lower half's, what lies above is the upper's
module _ (h l : ℕ) (hl : l < 2 ^ 64) where
  n : ℕ
  n = h * 2 ^ 64 + l

  high_part : (k : ℕ) → 64 ≤ k → (h * 2 ^ 64 + l) / 2 ^ k ≡ h / 2 ^ (k - 64)
  high_part k g =
      ap (λ (j : ℕ). (h * 2 ^ 64 + l) / 2 ^ j) (omega arith)
      ∙ sym (shr-shr (h * 2 ^ 64 + l) 64 (k - 64))
      ∙ ap (λ (j : ℕ). j / 2 ^ (k - 64)) (high h 64 hl)

  low_part : (k : ℕ) → k ≤ 64 → (h * 2 ^ 64 + l) % 2 ^ k ≡ l % 2 ^ k
  low_part k g =
      let e : 64 - k + k ≡ 64 = omega arith in
      sym (mod-mod-pow (h * 2 ^ 64 + l) (64 - k) k)
      ∙ ap (λ (j : ℕ). (h * 2 ^ 64 + l) % 2 ^ j % 2 ^ k) e
      ∙ ap (λ (j : ℕ). j % 2 ^ k) (low h 64 hl)

  pub bit_high : (k : ℕ) → 64 ≤ k → h / 2 ^ (k - 64) % 2 ≡ (h * 2 ^ 64 + l) / 2 ^ k % 2
  bit_high k g = ap (λ (x : ℕ). x % 2) (sym (high_part k g))

  pub bit_low : (k : ℕ) → k < 64 → l / 2 ^ k % 2 ≡ (h * 2 ^ 64 + l) / 2 ^ k % 2
  bit_low k g =
      let e : 64 ≡ (64 - k) + k = omega arith in
      let f : 64 - k ≡ (63 - k) + 1 = omega arith in
      ap (λ (x : ℕ). x / 2 ^ k % 2) (sym (low h 64 hl))
      ∙ ap (λ (x : ℕ). (h * 2 ^ 64 + l) % 2 ^ x / 2 ^ k % 2) e
      ∙ ap (λ (x : ℕ). x % 2) (field (h * 2 ^ 64 + l) (64 - k) k)
      ∙ ap (λ (x : ℕ). (h * 2 ^ 64 + l) / 2 ^ k % 2 ^ x % 2) f
      ∙ mod-mod-pow ((h * 2 ^ 64 + l) / 2 ^ k) (63 - k) 1

  pub set_low : (k : ℕ) → k < 64 → key_of (bit_or (h * 2 ^ 64 + l) (2 ^ k)) ≡ key h (bit_or l (2 ^ k))
  set_low k g =
      ap key_of
      (ap (bit_or (h * 2 ^ 64 + l)) (sym (ap (λ (j : ℕ). j + 2 ^ k) (zero-mul (2 ^ 64)) ∙ zero-add (2 ^ k)))
      ∙ or_block 64 h 0 l (2 ^ k) hl (pow-lt g)
      ∙ ap (λ (j : ℕ). j * 2 ^ 64 + bit_or l (2 ^ k)) (or_zero_r h))
      ∙ halves h (bit_or l (2 ^ k)) (or_lt 64 l (2 ^ k) hl (pow-lt g))

  pub set_high : (k : ℕ) → 64 ≤ k → key_of (bit_or (h * 2 ^ 64 + l) (2 ^ k)) ≡ key (bit_or h (2 ^ (k - 64))) l
  set_high k g =
      let e : k ≡ (k - 64) + 64 = omega arith in
      ap key_of
      (ap (bit_or (h * 2 ^ 64 + l)) (ap (λ (j : ℕ). 2 ^ j) e ∙ pow-add 2 (k - 64) 64 ∙ sym (add-zero (2 ^ (k - 64) * 2 ^ 64)))
      ∙ or_block 64 h (2 ^ (k - 64)) l 0 hl (pow_pos 64)
      ∙ ap (λ (j : ℕ). bit_or h (2 ^ (k - 64)) * 2 ^ 64 + j) (or_zero_r l))
      ∙ halves (bit_or h (2 ^ (k - 64))) l hl

  pub clear_low : (k : ℕ) → k < 64 → key_of (cleared (h * 2 ^ 64 + l) k) ≡ key h (cleared l k)
  clear_low k g =
      let e = low_part k (omega arith) in
      let f : cleared (h * 2 ^ 64 + l) k ≡ h * 2 ^ 64 + cleared l k = omega (arith, e, split (h * 2 ^ 64 + l) k, split l k) in
      ap key_of f ∙ halves h (cleared l k) (omega (arith, split l k))

  pub clear_high : (k : ℕ) → 64 ≤ k → key_of (cleared (h * 2 ^ 64 + l) k) ≡ key (cleared h (k - 64)) 0
  clear_high k g =
      let e : 2 ^ k ≡ 2 ^ (k - 64) * 2 ^ 64 = ap (λ (j : ℕ). 2 ^ j) (omega arith) ∙ pow-add 2 (k - 64) 64 in
      ap key_of
      (ap (λ (j : ℕ). j * 2 ^ k) (high_part k g)
      ∙ ap (λ (j : ℕ). h / 2 ^ (k - 64) * j) e
      ∙ sym (mul_assoc (h / 2 ^ (k - 64)) (2 ^ (k - 64)) (2 ^ 64))
      ∙ sym (add-zero _))
      ∙ halves (cleared h (k - 64)) 0 (pow_pos 64)

  pub clear_all : (k : ℕ) → h < 2 ^ 64 → 128 ≤ k → key_of (cleared (h * 2 ^ 64 + l) k) ≡ key 0 0
  clear_all k hh g =
      let e : cleared h (k - 64) ≡ 0 =
      ap (λ (j : ℕ). j * 2 ^ (k - 64)) (div-eq_of_lt (lt_of_lt_of_le hh (pow_mono {i = 64} {j = k - 64} (omega arith))))
      ∙ zero-mul (2 ^ (k - 64))
      in
      clear_high k (omega arith) ∙ ap (λ (j : ℕ). key j 0) e

-- what the functions on keys need
pub ruleset keys = (one_shl, clear_fits, bit_high, bit_low, set_low, set_high, clear_low, clear_high, clear_all)

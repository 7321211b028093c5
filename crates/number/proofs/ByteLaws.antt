-- Laws of numbers in bytes.
use Prim.Native.Nat.{ℕ, zero, suc, ◌+◌, ◌*◌, ◌%◌, ◌^◌, ◌≤◌, ◌<◌}
use mathlib.Core.Path.{◌≡◌, refl, sym, subst, ap, ◌∙◌}
use mathlib.Core.List.{List}
use native.Mathlib.Nat.{lt_of_lt_of_le, mod-eq_of_lt, mul_assoc, add-zero, add-suc, pow-suc, mul-one}
use native.Mathlib.Numerals.{add-one}
use native.Mathlib.Omega.{arith}
use lib.ListN.{get_or, length, take, drop}
use lib.Arith.{digits_lt}
use lib.Pow.{pow_mono, pow-add}
use lib.Bits.{bit_or}
use lib.Seq.{take-suc}
use Rattle.std.specs.List.{fold}
use Rattle.std.proofs.lemmas.Nat.{or_shifted}
use Rattle.std.proofs.lemmas.List.{get_or-drop, length-drop}
use Rattle.std.proofs.lemmas.List.Sums.{fold_push}
use Rattle.number.specs.Bytes.{be_at}

pub be_none : (s : List ℕ) (p : ℕ) → be_at s p 0 ≡ 0
unfolding be_at
be_none s p = refl

-- one byte more
pub be_step : (s : List ℕ) (p n : ℕ) → be_at s p (n + 1) ≡ be_at s p n * 256 + get_or s (p + n) 0
unfolding be_at
be_step s p n = rw add-one

-- a number of n bytes is one of k bits, where there is room
pub small : {v : ℕ} (n k : ℕ) → v < 2 ^ (8 * n) → 8 * n ≤ k → v < 2 ^ k
small n k h l = lt_of_lt_of_le h (pow_mono l)

pub step_lt : (v b n : ℕ) → v < 2 ^ (8 * n) → b < 256 → v * 256 + b < 2 ^ (8 * (n + 1))
step_lt v b n h l =
    let e : 8 * n + 8 ≡ 8 * (n + 1) = omega arith in
    subst (λ (k : ℕ). v * 256 + b < 2 ^ k) e (subst (λ (m : ℕ). v * 256 + b < m) (sym (pow-add 2 (8 * n) 8)) (digits_lt h l))

-- n bytes are 8 n bits
pub be_lt : (s : List ℕ) → ((i : ℕ) → get_or s i 0 < 256) → (p n : ℕ) → be_at s p n < 2 ^ (8 * n)
unfolding be_at
be_lt s bytes p zero = omega arith
be_lt s bytes p (suc n) = rw (sym (add-one n)) (step_lt (be_at s p n) (get_or s (p + n) 0) n (be_lt s bytes p n) (bytes (p + n)))

-- m bytes and n bytes after them
pub be_split : (s : List ℕ) (p m n : ℕ) → be_at s p (m + n) ≡ be_at s p m * 256 ^ n + be_at s (p + m) n
unfolding be_at
be_split s p m zero = ap (be_at s p) (add-zero m) ∙ sym (add-zero _ ∙ mul-one (be_at s p m))
be_split s p m (suc n) =
    let e : get_or s (p + (m + n)) 0 ≡ get_or s (p + m + n) 0 = ap (λ (k : ℕ). get_or s k 0) (omega arith) in
    let i : be_at s p (m + n) ≡ be_at s p m * 256 ^ n + be_at s (p + m) n = be_split s p m n in
    let d : be_at s p (m + suc n) ≡ be_at s p (m + n) * 256 + get_or s (p + (m + n)) 0 = rw add-suc in
    let q : be_at s p m * 256 ^ n * 256 ≡ be_at s p m * (256 ^ n * 256) = mul_assoc (be_at s p m) (256 ^ n) 256 in
    rw pow-suc (omega arith)

-- one byte more, as it is shifted in: nothing is lost of a number of up to seven bytes
abbrev pub shifted : ℕ → ℕ → ℕ
shifted v b = bit_or (v * 2 ^ 8 % 2 ^ 64) b

shifted_in : (v b n : ℕ) → n < 8 → v < 2 ^ (8 * n) → b < 256 → shifted v b ≡ v * 256 + b
shifted_in v b n h l k =
    let f = small n 56 l (omega arith) in
    let m : v * 2 ^ 8 < 2 ^ 64 = omega arith in
    rw (mod-eq_of_lt m) (or_shifted v 8 b k)

pub be_shifted : (s : List ℕ) → ((i : ℕ) → get_or s i 0 < 256) → (p n : ℕ) → n ≤ 8 → p + n ≤ length s
    → fold shifted 0 (take n (drop p s)) ≡ be_at s p n
unfolding be_at
be_shifted s bytes p zero h l = refl
be_shifted s bytes p (suc n) h l =
    let there : n < length (drop p s) = omega (arith, length-drop p s) in
    let e = be_shifted s bytes p n (omega arith) (omega arith) in
    rw (take-suc (drop p s) n 0 there, fold_push shifted 0 (take n (drop p s)), get_or-drop p s, e)
    (shifted_in (be_at s p n) (get_or s (p + n) 0) n (omega arith) (be_lt s bytes p n) (bytes (p + n)))

-- Digits, one more and a block more.
use Prim.Native.Nat.{ℕ, zero, suc, ◌+◌, ◌-◌, ◌*◌, ◌/◌, ◌%◌, ◌^◌, ◌≤◌, ◌<◌}
use mathlib.Core.Path.{◌≡◌, refl, sym, ap, ◌∙◌}
use mathlib.Core.List.{List, [], ◌∷◌, ◌++◌, append_assoc, append-nil}
use native.Mathlib.Nat.{add-zero, add-suc, div-div-eq-div-mul, pow-zero, pow-succ', mul-add-mod_self_right, div-one}
use native.Mathlib.Omega.{arith}
use borrow.Author.Tests.{lt-ltb, le-ltb}
use lib.ListN.{length, length-append}
use Rattle.listing.specs.Digits.{glyph_of, digits, places}

pub length_digits : (base count n : ℕ) → length (digits base count n) ≡ count
unfolding digits
length_digits base zero n = refl
length_digits base (suc count) n = simp (length-append, length_digits base count (n / base)) (omega arith)

pub digits_more : (base count n : ℕ) → 0 < count → digits base count n ≡ digits base (count - 1) (n / base) ++ (glyph_of (n % base) ∷ [])
unfolding digits
digits_more base zero n h = absurd (omega arith)
digits_more base (suc count) n h =
    let e : count ≡ suc count - 1 = omega arith in
    ap (λ (k : ℕ). digits base k (n / base) ++ (glyph_of (n % base) ∷ [])) e

pub digits_none : (base count n : ℕ) → count ≤ 0 → digits base count n ≡ []
unfolding digits
digits_none base zero n h = refl
digits_none base (suc count) n h = absurd (omega arith)

pub places_end : (most n : ℕ) → most ≤ 0 → places most n ≡ 1
unfolding places
places_end zero n h = refl
places_end (suc most) n h = absurd (omega arith)

pub places_last : (most n : ℕ) → n < 10 → places most n ≡ 1
unfolding places
places_last zero n h = refl
places_last (suc most) n h = simp (lt-ltb n 10 h)

pub places_more : (most n : ℕ) → 0 < most → 10 ≤ n → places most n ≡ suc (places (most - 1) (n / 10))
unfolding places
places_more zero n p h = absurd (omega arith)
places_more (suc most) n p h =
    let e : most ≡ suc most - 1 = omega arith in
    simp (le-ltb n 10 h) (ap (λ (k : ℕ). suc (places k (n / 10))) e)

ten_pos : (k : ℕ) → 0 < 10 ^ k
ten_pos zero = omega arith
ten_pos (suc k) = omega (arith, ten_pos k, pow-succ' 10 k)

-- the logarithm, and one more
pub places_log : (most k n : ℕ) → 10 ^ k ≤ n → n < 10 * 10 ^ k → k ≤ most → places most n ≡ k + 1
places_log most zero n a b h = places_last most n b
places_log zero (suc k) n a b h = absurd (omega arith)
places_log (suc most) (suc k) n a b h =
    let p = pow-succ' 10 k in
    let q = ten_pos k in
    let e : places most (n / 10) ≡ k + 1 = places_log most k (n / 10) (omega arith) (omega arith) (omega arith) in
    let m : suc most - 1 ≡ most = omega arith in
    rw (places_more (suc most) n (omega arith) (omega arith), m, e) (omega arith)

-- the higher digits, then the lower
pub digits_split : (base high low n : ℕ) → digits base (high + low) n ≡ digits base high (n / base ^ low) ++ digits base low n
unfolding digits
digits_split base high zero n =
    ap (λ (k : ℕ). digits base k n) (add-zero high)
    ∙ ap (digits base high) (sym (div-one n) ∙ ap (λ (m : ℕ). n / m) (sym (pow-zero base)))
    ∙ sym (append-nil (digits base high (n / base ^ zero)))
digits_split base high (suc low) n =
    ap (λ (k : ℕ). digits base k n) (add-suc high low)
    ∙ ap (λ (l : List ℕ). l ++ (glyph_of (n % base) ∷ [])) (digits_split base high low (n / base))
    ∙ append_assoc (digits base high (n / base / base ^ low)) (digits base low (n / base)) (glyph_of (n % base) ∷ [])
    ∙ ap (λ (m : ℕ). digits base high m ++ (digits base low (n / base) ++ (glyph_of (n % base) ∷ [])))
    (div-div-eq-div-mul n base (base ^ low) ∙ ap (λ (m : ℕ). n / m) (sym (pow-succ' base low)))

-- what stands above the digits does not show in them
pub digits_low : (count above n : ℕ) → digits 16 count (above * 16 ^ count + n) ≡ digits 16 count n
unfolding digits
digits_low zero above n = refl
digits_low (suc count) above n =
    ap (λ (m : ℕ). digits 16 (suc count) (m + n)) split
    ∙ ap (λ (m : ℕ). digits 16 count m ++ (glyph_of ((above * 16 ^ count * 16 + n) % 16) ∷ [])) (omega arith)
    ∙ ap (λ (l : List ℕ). l ++ (glyph_of ((above * 16 ^ count * 16 + n) % 16) ∷ [])) (digits_low count above (n / 16))
    ∙ ap (λ (m : ℕ). digits 16 count (n / 16) ++ (glyph_of m ∷ [])) (mul-add-mod_self_right (above * 16 ^ count) 16 n)
  where
    split : above * 16 ^ suc count ≡ above * 16 ^ count * 16
    split = ap (λ (m : ℕ). above * m) (pow-succ' 16 count) ∙ omega arith

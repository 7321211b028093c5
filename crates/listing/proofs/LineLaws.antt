-- Writing one text and then another is writing both.
use Prim.Native.Nat.{ℕ, suc, ◌+◌, ◌-◌, ◌*◌, ◌/◌, ◌%◌, ◌^◌, ◌≤◌, ◌<◌}
use mathlib.Core.Path.{◌≡◌, refl, sym, ap, ◌∙◌, subst}
use mathlib.Core.Bool.{cond}
use mathlib.Core.List.{List, [], ◌∷◌, ◌++◌, append_assoc}
use native.Mathlib.Nat.{add-zero}
use native.Mathlib.Omega.{arith}
use borrow.Author.Tests.{eq-eqb, ne_eqb}
use Rattle.number.specs.declared.Key.{Key}
use Rattle.number.specs.Keys.{number_of}
use lib.ListN.{length, set, length-append}
use lib.Seq.{sets, sets-eq, set_comm, drop-drop}
use borrow.Rule.Slice.PartMut.{put_mid}
use Rattle.listing.specs.Digits.{glyph_of, digits, places, decimal}
use Rattle.listing.specs.Lines.{key_text, Wrote}
use Rattle.listing.proofs.DigitLaws.{length_digits, digits_none, digits_more, digits_split, digits_low}

pub sets_append : (xs ys l : List ℕ) (i : ℕ) → sets l i (xs ++ ys) ≡ sets (sets l i xs) (i + length xs) ys
sets_append [] ys l i = ap (λ (k : ℕ). sets l k ys) (sym (add-zero i))
sets_append (a ∷ xs) ys l i =
    sets_append xs ys (set l i a) (suc i)
    ∙ ap (λ (k : ℕ). sets (sets (set l i a) (suc i) xs) k ys) (omega arith)

-- the last byte may be written first
pub sets_last : (xs : List ℕ) (a : ℕ) (l : List ℕ) (i : ℕ) → sets l i (xs ++ (a ∷ [])) ≡ sets (set l (i + length xs) a) i xs
sets_last [] a l i = ap (λ (k : ℕ). set l k a) (sym (add-zero i))
sets_last (x ∷ xs) a l i =
    sets_last xs a (set l i x) (suc i)
    ∙ ap (λ (m : List ℕ). sets m (suc i) xs)
    (set_comm l i (suc i + length xs) x a (λ h. omega arith) ∙ ap (λ (k : ℕ). set (set l k a) i x) (omega arith))

pub wrote_more : {m₁ m₂ : ℕ} {s t u : List ℕ} {at p q : ℕ} {xs ys : List ℕ}
    → Wrote m₁ s at xs p t → Wrote m₂ t p ys q u → Wrote (m₁ + m₂) s at (xs ++ ys) q u
wrote_more {s = s} {t = t} {at = at} {p = p} {xs = xs} {ys = ys} a b =
    record {
      stops = simp length-append (omega (arith, a.stops, b.stops));
      holds = b.holds ∙ ap (λ (l : List ℕ). sets l p ys) a.holds ∙ ap (λ (k : ℕ). sets (sets s at xs) k ys) a.stops ∙ sym (sets_append xs ys s at);
      short = simp length-append (omega (arith, a.short, b.short));
    }

pub wrote_within : {m n : ℕ} {s t : List ℕ} {at p : ℕ} {xs : List ℕ} → m ≤ n → Wrote m s at xs p t → Wrote n s at xs p t
wrote_within h a = record { stops = a.stops; holds = a.holds; short = omega (arith, a.short) }

-- the lowest digit, then those above it
pub digit_written : (base count n at : ℕ) (l : List ℕ) → 0 < count
    → sets (set l (at + (count - 1)) (glyph_of (n % base))) at (digits base (count - 1) (n / base)) ≡ sets l at (digits base count n)
digit_written base count n at l h =
    ap (λ (k : ℕ). sets (set l (at + k) (glyph_of (n % base))) at (digits base (count - 1) (n / base))) (sym (length_digits base (count - 1) (n / base)))
    ∙ sym (sets_last (digits base (count - 1) (n / base)) (glyph_of (n % base)) l at)
    ∙ ap (sets l at) (sym (digits_more base count n h))

pub digits_written : (base count n at : ℕ) (l : List ℕ) → count ≤ 0 → l ≡ sets l at (digits base count n)
digits_written base count n at l h = ap (sets l at) (sym (digits_none base count n h))

-- a text over the bytes from `at` on
pub wrote_text : (text s : List ℕ) (at : ℕ) {t : List ℕ} → at + length text ≤ length s
    → t ≡ text → Wrote (length text) s at text (at + length text) (put_mid at (at + length text - at) s t)
wrote_text text s at {t = t} h e =
    let size : at + length text - at ≡ length text = omega arith in
    record { stops = refl; holds = rw (e, size, drop-drop, ← append_assoc) (sym (sets-eq text s at h)); short = omega arith }

pub wrote_none : (most at : ℕ) (s : List ℕ) → Wrote most s at [] at s
wrote_none most at s = record { stops = sym (add-zero at); holds = refl; short = omega arith }

pub wrote_digits : (most base count n at : ℕ) {s t : List ℕ} → count ≤ most → t ≡ sets s at (digits base count n)
    → Wrote most s at (digits base count n) (at + count) t
wrote_digits most base count n at h e =
    record { stops = ap (λ (k : ℕ). at + k) (sym (length_digits base count n)); holds = e; short = rw (length_digits base count n) h }

pub wrote_decimal : (n at count : ℕ) {s t : List ℕ} → count ≡ places 19 n → count ≤ 20 → t ≡ sets s at (digits 10 count n)
    → Wrote 20 s at (decimal n) (at + count) t
wrote_decimal n at count {s = s} {t = t} p h e =
    subst (λ (k : ℕ). Wrote 20 s at (digits 10 k n) (at + count) t) p (wrote_digits 20 10 count n at h e)

-- the low digits of a key are those of its lower half
low_digits : (k : Key) → digits 16 8 (number_of k) ≡ digits 16 8 k.low
low_digits k =
    let e : number_of k ≡ k.high * 2 ^ 32 * 16 ^ 8 + k.low = omega arith in
    ap (digits 16 8) e ∙ digits_low 8 (k.high * 2 ^ 32) k.low

-- all of them are those of its halves
all_digits : (k : Key) → k.low < 2 ^ 64 → digits 16 32 (number_of k) ≡ digits 16 16 k.high ++ digits 16 16 k.low
all_digits k h =
    let e : number_of k / 16 ^ 16 ≡ k.high = omega arith in
    digits_split 16 16 16 (number_of k)
    ∙ ap (λ (m : ℕ). digits 16 16 m ++ digits 16 16 (number_of k)) e
    ∙ ap (λ (l : List ℕ). digits 16 16 k.high ++ l) (digits_low 16 k.high k.low)

pub wrote_ipv4 : (width at : ℕ) (k : Key) {s t : List ℕ} → width ≡ 32 → t ≡ sets s at (digits 16 8 k.low)
    → Wrote 32 s at (key_text width k) (at + 8) t
wrote_ipv4 width at k {s = s} {t = t} w e =
    subst (λ (l : List ℕ). Wrote 32 s at l (at + 8) t)
    (sym (low_digits k) ∙ ap (λ b. digits 16 (cond b 8 32) (number_of k)) (sym (eq-eqb width 32 w)))
    (wrote_digits 32 16 8 k.low at (omega arith) e)

pub wrote_ipv6 : (width at : ℕ) (k : Key) {s t u : List ℕ} → (width ≡ 32 → ⊥) → k.low < 2 ^ 64
    → t ≡ sets s at (digits 16 16 k.high) → u ≡ sets t (at + 16) (digits 16 16 k.low) → Wrote 32 s at (key_text width k) (at + 32) u
wrote_ipv6 width at k {s = s} {t = t} {u = u} w h e f =
    let there : at + 16 + 16 ≡ at + 32 = omega arith in
    subst (λ (l : List ℕ). Wrote 32 s at l (at + 32) u)
    (sym (all_digits k h) ∙ ap (λ b. digits 16 (cond b 8 32) (number_of k)) (sym (ne_eqb width 32 w)))
    (subst (λ (p : ℕ). Wrote 32 s at (digits 16 16 k.high ++ digits 16 16 k.low) p u) there
    (wrote_more (wrote_digits 16 16 16 k.high at (omega arith) e) (wrote_digits 16 16 16 k.low (at + 16) (omega arith) f)))

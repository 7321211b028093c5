-- Table 3-7 row by row, and a text one byte at a time.
use Prim.Native.Nat.{ℕ, zero, suc, ◌+◌, ◌-◌, ◌≤◌, ◌<◌}
use mathlib.Core.Path.{◌≡◌, refl, sym, ap, ◌∙◌}
use mathlib.Core.List.{List, [], ◌∷◌}
use mathlib.Core.Bool.{Bool, true, false, cond, ◌&&◌, and-false, and-eq-true_iff}
use lib.Dec.{leb, eqb, eqb-suc-zero}
use native.Mathlib.Numerals.{add-one}
use native.Mathlib.Omega.{arith}
use borrow.Author.Tests.{le-leb, lt-leb, leb-true, leb-false}
use lib.ListN.{get_or, drop, length, drop_of_length-le}
use lib.Seq.{drop-cons}
use Rattle.text.specs.Utf8.{bytes, within, first, after, run, well_formed, ascii}
use Rattle.text.specs.declared.Next.{Next}
use Rattle.std.specs.Prelude.{Option, Some, None}

abbrev pub Between : ℕ → ℕ → ℕ → Type 0
Between lo hi b = (lo ≤ b) × (b ≤ hi)

pub in_yes : (lo hi b : ℕ) → Between lo hi b → within lo hi b ≡ true
in_yes lo hi b h = simp (le-leb lo b h.0, le-leb b hi h.1)

pub in_no : (lo hi b : ℕ) → (Between lo hi b → ⊥) → within lo hi b ≡ false
in_no lo hi b f = go (leb lo b) refl (leb b hi) refl
  where
    go : (t : Bool) → leb lo b ≡ t → (u : Bool) → leb b hi ≡ u → t && u ≡ false
    go false e u k = refl
    go true e false k = refl
    go true e true k = absurd (f (leb-true lo b e, leb-true b hi k))

pub within_between : (lo hi b : ℕ) → within lo hi b ≡ true → Between lo hi b
within_between lo hi b w =
    let h = (and-eq-true_iff (leb lo b) (leb b hi)).0 w in
    (leb-true lo b h.0, leb-true b hi h.1)

-- A test of a number goes as the test of a bound of the number. The bound is a numeral, so `simp` computes that one by itself.
pub above : {k b : ℕ} → k ≤ b → (m : ℕ) → leb k m ≡ false → leb b m ≡ false
above {k} {b} l m t = lt-leb b m (omega (arith, leb-false k m t))

pub from : {k b : ℕ} → k ≤ b → (m : ℕ) → leb m k ≡ true → leb m b ≡ true
from {k} {b} l m t = le-leb m b (omega (arith, leb-true m k t))

pub up_to : {b n : ℕ} → b ≤ n → (m : ℕ) → leb n m ≡ true → leb b m ≡ true
up_to {b} {n} h m t = le-leb b m (omega (arith, leb-true n m t))

pub below : {b n : ℕ} → b ≤ n → (m : ℕ) → leb m n ≡ false → leb m b ≡ false
below {b} {n} h m t = lt-leb m b (omega (arith, leb-false m n t))

-- The rows of table 3-7, and the bytes that stand in none.
abbrev pub Row : ℕ → ℕ → Option Next → Type 0
Row k n asked = (b : ℕ) → Between k n b → first b ≡ asked

pub row_ascii : (b : ℕ) → b ≤ 0x7f → first b ≡ Some (bytes 0 0x80 0xbf)
row_ascii b h = simp (up_to h)

pub row_none : Row 0x80 0xc1 None
row_none b h = simp (above h.0, below h.1)

pub row_c2 : Row 0xc2 0xdf (Some (bytes 1 0x80 0xbf))
row_c2 b h = simp (above h.0, from h.0, up_to h.1)

pub row_e0 : Row 0xe0 0xe0 (Some (bytes 2 0xa0 0xbf))
row_e0 b h = simp (above h.0, from h.0, up_to h.1)

pub row_e1 : Row 0xe1 0xec (Some (bytes 2 0x80 0xbf))
row_e1 b h = simp (above h.0, from h.0, up_to h.1)

pub row_ed : Row 0xed 0xed (Some (bytes 2 0x80 0x9f))
row_ed b h = simp (above h.0, from h.0, up_to h.1)

pub row_ee : Row 0xee 0xef (Some (bytes 2 0x80 0xbf))
row_ee b h = simp (above h.0, from h.0, up_to h.1)

pub row_f0 : Row 0xf0 0xf0 (Some (bytes 3 0x90 0xbf))
row_f0 b h = simp (above h.0, from h.0, up_to h.1)

pub row_f1 : Row 0xf1 0xf3 (Some (bytes 3 0x80 0xbf))
row_f1 b h = simp (above h.0, from h.0, up_to h.1)

pub row_f4 : Row 0xf4 0xf4 (Some (bytes 3 0x80 0x8f))
row_f4 b h = simp (above h.0, from h.0, up_to h.1)

pub row_beyond : (b : ℕ) → 0xf5 ≤ b → first b ≡ None
row_beyond b h = simp (above h, from h)

-- the first byte of a character, and one that is not
pub run_ill : (s : List ℕ) → run s None ≡ false
unfolding run
run_ill [] = refl
run_ill (b ∷ s) = refl

pub run_first : (b : ℕ) (s : List ℕ) (n : Option Next) → first b ≡ n → well_formed (b ∷ s) ≡ run s n
unfolding run
run_first b s n e = ap (run s) e

pub run_later : (n lo hi b : ℕ) (s : List ℕ) → run (b ∷ s) (Some (bytes (suc n) lo hi)) ≡ within lo hi b && run s (Some (bytes n 0x80 0xbf))
unfolding run
run_later n lo hi b s =
    let e : suc n - 1 ≡ n = omega arith in
    rw (eqb-suc-zero n, e) (go (within lo hi b))
  where
    go : (t : Bool) → run s (cond false (first b) (cond t (Some (bytes n 0x80 0xbf)) None)) ≡ t && run s (Some (bytes n 0x80 0xbf))
    go true = refl
    go false = run_ill s

-- the same by the place of a byte in its text
pub run_at : (s : List ℕ) (i need lo hi : ℕ) (n : Option Next) → i < length s → after need lo hi (get_or s i 0) ≡ n
    → run (drop (i + 1) s) n ≡ run (drop i s) (Some (bytes need lo hi))
unfolding run
run_at s i need lo hi n l e = rw (add-one, drop-cons s i 0) (ap (run (drop (suc i) s)) (sym e))

pub run_end : (s : List ℕ) (i need lo hi : ℕ) → length s ≤ i → run (drop i s) (Some (bytes need lo hi)) ≡ eqb need 0
unfolding run
run_end s i need lo hi l = rw (drop_of_length-le s l)

-- bytes below 128 are ASCII
pub ascii_below : (s : List ℕ) → ((i : ℕ) → get_or s i 0 < 128) → true ≡ ascii s
unfolding ascii
ascii_below [] h = refl
ascii_below (b ∷ s) h =
    let l : b ≤ 0x7f = omega (arith, h 0) in
    rw (le-leb b 0x7f l) (ascii_below s (λ i. h (suc i)))

-- and none with a byte from 128 on is
pub ascii_not : (s : List ℕ) (i : ℕ) → 128 ≤ get_or s i 0 → false ≡ ascii s
unfolding ascii
ascii_not [] i h = let z : 128 ≤ 0 = h in absurd (omega (arith, z))
ascii_not (b ∷ s) zero h = rw (lt-leb b 0x7f (omega (arith, h))) refl
ascii_not (b ∷ s) (suc i) h = rw (← ascii_not s i h) (sym (and-false (leb b 0x7f)))

-- the quick test is enough
pub ascii_well_formed : (s : List ℕ) → ascii s ≡ true → well_formed s ≡ true
unfolding ascii run
ascii_well_formed [] a = refl
ascii_well_formed (b ∷ s) a =
    let h = (and-eq-true_iff (leb b 0x7f) (ascii s)).0 a in
    run_first b s _ (row_ascii b (leb-true b 0x7f h.0)) ∙ ascii_well_formed s h.1

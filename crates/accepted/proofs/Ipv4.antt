-- The way of an IPv4 address meets no alias: in an IPv6 tree its key's upper 96 bits are 0.
use Prim.Native.Nat.{ℕ, zero, suc, ◌+◌, ◌-◌, ◌*◌, ◌/◌, ◌%◌, ◌^◌, ◌≤◌, ◌<◌}
use mathlib.Core.Path.{◌≡◌, refl, sym, ap, ◌∙◌}
use mathlib.Core.Bool.{Bool, true, false, cond, not, ◌&&◌}
use mathlib.Core.List.{List}
use native.Mathlib.Nat.{div-div-eq-div-mul, div-mul-le_self, div-eq_of_lt, mul_assoc, mul_comm, pow-suc, add-mul, one-mul, zero-mul, sub-zero, lt_of_lt_of_le}
use native.Mathlib.Omega.{arith}
use lib.Dec.{eqb}
use lib.Bits.{bit_or, or_shifted}
use lib.Pow.{pow-lt, pow_mono}
use borrow.Author.Tests.{le-leb}
use Rattle.number.specs.Keys.{number_of, bit_from_top}
use Rattle.handle.specs.declared.Handle.{Handle}
use Rattle.place.specs.Kinds.{is_alias}
use Rattle.place.specs.Turns.{child_key}
use Rattle.place.specs.declared.Place.{Place}
use Rattle.carried.proofs.InShape.{number_key}
use Rattle.fullwalk.specs.FullWalk.{width_of}
use Rattle.accepted.specs.Visited.{OnWay, root, child, Unaliased}

-- a bit more of a number
module _ (x d : ℕ) where
  abbrev q : ℕ
  q = x / 2 ^ d

  halved : x / 2 ^ suc d ≡ q / 2
  halved = ap (λ (k : ℕ). x / k) (pow-suc 2 d) ∙ sym (div-div-eq-div-mul x (2 ^ d) 2)

  before : x / 2 ^ suc d * 2 ^ suc d ≡ q / 2 * 2 * 2 ^ d
  before = ap (λ (k : ℕ). k * 2 ^ suc d) halved ∙ ap (λ (k : ℕ). q / 2 * k) (pow-suc 2 d ∙ mul_comm (2 ^ d) 2) ∙ sym (mul_assoc (q / 2) 2 (2 ^ d))

  without : q % 2 ≡ 0 → x / 2 ^ suc d * 2 ^ suc d ≡ q * 2 ^ d
  without e = let f : q / 2 * 2 ≡ q = omega arith in before ∙ ap (λ (k : ℕ). k * 2 ^ d) f

  with_bit_lem : q % 2 ≡ 1 → x / 2 ^ suc d * 2 ^ suc d + 2 ^ d ≡ q * 2 ^ d
  with_bit_lem e =
      let f : q / 2 * 2 + 1 ≡ q = omega arith in
      ap (λ (k : ℕ). k + 2 ^ d) before
      ∙ sym (add-mul (q / 2 * 2) 1 (2 ^ d) ∙ ap (λ (k : ℕ). q / 2 * 2 * 2 ^ d + k) (one-mul (2 ^ d)))
      ∙ ap (λ (k : ℕ). k * 2 ^ d) f

module _ (s : List ℕ) (h : Handle) (x : ℕ) (small : x < 2 ^ width_of h) where
  -- a key on the way is the address's, masked
  record Masked (p : Place) : Type 0 where
    long : p.len ≤ width_of h
    key : number_of p.key ≡ x / 2 ^ (width_of h - p.len) * 2 ^ (width_of h - p.len)

  module _ (p : Place) (m : Masked p) (short : p.len < width_of h) where
    abbrev d : ℕ
    d = width_of h - (p.len + 1)

    one_less : width_of h - p.len ≡ suc d
    one_less = omega arith

    key_before : number_of p.key ≡ x / 2 ^ suc d * 2 ^ suc d
    key_before = m.key ∙ ap (λ (k : ℕ). x / 2 ^ k * 2 ^ k) one_less

    child_key_lem : (b : ℕ) → b < 2 → x / 2 ^ d % 2 ≡ b → number_of (child_key p.key (width_of h) p.len b) ≡ x / 2 ^ d * 2 ^ d
    unfolding child_key
    child_key_lem zero l e = key_before ∙ without x d e
    child_key_lem (suc zero) l e =
        let f : width_of h - 1 - p.len ≡ d = omega arith in
        number_key _
        ∙ ap (λ (k : ℕ). bit_or (number_of p.key) (2 ^ k)) f
        ∙ ap (λ (k : ℕ). bit_or k (2 ^ d)) key_before
        ∙ or_shifted (x / 2 ^ suc d) (suc d) (2 ^ d) (pow-lt (omega arith))
        ∙ with_bit_lem x d e
    child_key_lem (suc (suc b)) l e = absurd (omega arith)

    child_bit : x / 2 ^ d % 2 ≡ bit_from_top x (width_of h) p.len
    child_bit = let f : d ≡ width_of h - 1 - p.len = omega arith in ap (λ (k : ℕ). x / 2 ^ k % 2) f

  masked : {p : Place} → OnWay s h x p → Masked p
  masked root =
      record {
        long = omega arith;
        key = sym (ap (λ (k : ℕ). x / 2 ^ k * 2 ^ k) (sub-zero (width_of h)) ∙ ap (λ (k : ℕ). k * 2 ^ width_of h) (div-eq_of_lt small) ∙ zero-mul (2 ^ width_of h));
      }
  masked (child {p = p} w v l) =
      let m = masked w in
      record { long = omega arith; key = child_key_lem p m l (bit_from_top x (width_of h) p.len) (omega arith) (child_bit p m l) }

last_false : (a b c : Bool) → (a && b && c && false) ≡ false
last_false true true true = refl
last_false true true false = refl
last_false true false c = refl
last_false false b c = refl

-- AN IPV4 ADDRESS, in an IPv4 or an IPv6 tree
pub unaliased : (s : List ℕ) (h : Handle) (x : ℕ) → x < 2 ^ 32 → Unaliased s h x
unfolding is_alias
unaliased s h x small p w =
    let m = masked s h x (wide (eqb h.version 6)) w in
    let below : number_of p.key ≤ x = rw m.key (div-mul-le_self x (2 ^ (width_of h - p.len))) in
    simp (le-leb (number_of p.key) (2 ^ 32 - 1) (omega arith)) (last_false (not (eqb h.start4 0)) (eqb p.value h.start4) (eqb (width_of h) 128))
  where
    wide : (t : Bool) → x < 2 ^ cond t 128 32
    wide true = lt_of_lt_of_le small (pow_mono {i = 32} {j = 128} (omega arith))
    wide false = small

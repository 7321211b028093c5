-- Laws of records: one window of four bytes holds a record at each size.
use Prim.Native.Nat.{ℕ, zero, suc, ◌+◌, ◌-◌, ◌*◌, ◌/◌, ◌%◌, ◌^◌, ◌≤◌, ◌<◌}
use mathlib.Core.Path.{◌≡◌, refl, sym, ap, subst, ◌∙◌}
use mathlib.Core.Bool.{Bool, true, false, cond}
use mathlib.Core.Logic.{◌⊎◌, inl, inr}
use mathlib.Core.List.{List}
use native.Mathlib.Nat.{add-mul, mul-le-mul, mul-le-mul_right, pow-suc, div-eq_of_lt, mod-lt, mod-one}
use native.Mathlib.Numerals.{add-one}
use native.Mathlib.Omega.{arith}
use lib.ListN.{get_or, length, take, drop, length-drop}
use lib.Seq.{take_all, get_or-take, get_or-drop}
use lib.Dec.{eqb}
use lib.Arith.{digits_lt, digits_div, digits_mod}
use lib.Bits.{bit_and, and_high, and_zero_r, and_le_l}
use lib.Pow.{pow_pos, pow-add, mod-pow-add, shr_lt}
use Rattle.number.specs.Bytes.{be_at}
use Rattle.number.proofs.ByteLaws.{be_none, be_step, be_lt, be_split}
use Rattle.tree.specs.Record.{Sized, record_at}

-- the four bytes of a window lie in its node
pub window_inside :
    {n : ℕ} (node bytes bit : ℕ) → 4 ≤ bytes → (node + 1) * bytes ≤ n → bit < 2 → node * bytes + bit * (bytes - 4) + 4 ≤ n
window_inside node bytes bit four inside one =
    let e : (node + 1) * bytes ≡ node * bytes + 1 * bytes = add-mul node 1 bytes in
    let l : bit * (bytes - 4) ≤ 1 * (bytes - 4) = mul-le-mul_right (bytes - 4) (omega arith) in
    omega arith

-- what follows the first k of a list, as a slice from k on has it
pub rest_whole : (s : List ℕ) (k : ℕ) → take (length s - k) (drop k s) ≡ drop k s
rest_whole s k = take_all (length s - k) (drop k s) (omega (arith, length-drop k s))

-- its bytes are those from k on
pub be_drop : (s : List ℕ) (k p n : ℕ) → be_at (drop k s) p n ≡ be_at s (p + k) n
be_drop s k p zero = be_none (drop k s) p ∙ sym (be_none s (p + k))
be_drop s k p (suc n) =
    let e : k + (p + n) ≡ p + k + n = omega arith in
    rw (sym (add-one n), be_step (drop k s) p n, be_step s (p + k) n, be_drop s k p n, get_or-drop k s (p + n) 0, e)

-- the bytes of a word, written out
pub word_bytes :
    (s : List ℕ) (o : ℕ)
    → be_at s o 4 ≡ get_or s o 0 * 16777216 + get_or s (o + 1) 0 * 65536 + get_or s (o + 2) 0 * 256 + get_or s (o + 3) 0
word_bytes s o =
    let z : get_or s (o + 0) 0 ≡ get_or s o 0 = ap (λ (k : ℕ). get_or s k 0) (omega arith) in
    omega (arith, be_none s o, be_step s o 0, be_step s o 1, be_step s o 2, be_step s o 3)

-- k bytes are 8 k bits
bytes_pow : (k : ℕ) → 256 ^ k ≡ 2 ^ (8 * k)
bytes_pow zero = refl
bytes_pow (suc k) =
    let e : 8 * suc k ≡ 8 * k + 8 = omega arith in
    pow-suc 256 k ∙ ap (λ (j : ℕ). j * 256) (bytes_pow k) ∙ sym (ap (λ (j : ℕ). 2 ^ j) e ∙ pow-add 2 (8 * k) 8)

-- a record as read from its window w: the left one's whole bytes are the window's first and its bits beyond follow them, the right one ends the window
abbrev pub window_record : ℕ → ℕ → ℕ → ℕ
window_record size bit w =
    cond (eqb bit 0) (w % 256 ^ (4 - size / 8) / 2 ^ (8 - size % 8) * 256 ^ (size / 8) + w / 256 ^ (4 - size / 8)) (w % 2 ^ size)

-- a node of t bytes whose records have k whole bytes and e bits beyond them: a window holds one but for at most a byte,
-- and bits beyond stand in a byte of their own between the two
record Laid (k e t : ℕ) : Type 0 where
  most : k ≤ 4
  least : 3 ≤ k
  both : k + k ≤ t
  middle : (e ≡ 0) ⊎ ((k < 4) × (t ≡ k + 1 + k))

laid : {size : ℕ} → Sized size → Laid (size / 8) (size % 8) (size / 4)
laid (inl e) = rw e (record { most = omega arith; least = omega arith; both = omega arith; middle = inl refl })
laid (inr (inl e)) = rw e (record { most = omega arith; least = omega arith; both = omega arith; middle = inr (omega arith, refl) })
laid (inr (inr e)) = rw e (record { most = omega arith; least = omega arith; both = omega arith; middle = inl refl })

module _ (s : List ℕ) (bytes : (i : ℕ) → get_or s i 0 < 256) where
  one_byte : (p : ℕ) → be_at s p 1 ≡ get_or s p 0
  one_byte p =
      let z : get_or s (p + 0) 0 ≡ get_or s p 0 = ap (λ (k : ℕ). get_or s k 0) (omega arith) in
      omega (arith, be_none s p, be_step s p 0)

  module _ {k e t : ℕ} (l : Laid k e t) (x : ℕ) where
    -- what the left window has past the whole bytes
    past_left : be_at s (x + k) (4 - k) / 2 ^ (8 - e) ≡ get_or s (x + k) 0 / 2 ^ (8 - e)
    past_left = go (4 - k) refl l.middle
      where
        go : (j : ℕ) → 4 - k ≡ j → (e ≡ 0) ⊎ ((k < 4) × (t ≡ k + 1 + k)) → be_at s (x + k) j / 2 ^ (8 - e) ≡ get_or s (x + k) 0 / 2 ^ (8 - e)
        go zero f (inl z) = rw (z, be_none) (sym (div-eq_of_lt (bytes (x + k))))
        go zero f (inr m) = absurd (omega arith)
        go (suc zero) f m = rw (one_byte (x + k))
        go (suc (suc j)) f m = absurd (omega (arith, l.least))

    -- what the right window has before the whole bytes
    before_right : be_at s (x + (t - 4)) (4 - k) % 2 ^ e ≡ get_or s (x + k) 0 % 2 ^ e
    before_right = go l.middle
      where
        go : (e ≡ 0) ⊎ ((k < 4) × (t ≡ k + 1 + k)) → be_at s (x + (t - 4)) (4 - k) % 2 ^ e ≡ get_or s (x + k) 0 % 2 ^ e
        go (inl z) = rw z (mod-one (be_at s (x + (t - 4)) (4 - k)) ∙ sym (mod-one (get_or s (x + k) 0)))
        go (inr m) =
            let p : x + (t - 4) ≡ x + k = omega (arith, l.least) in
            let q : 4 - k ≡ 1 = omega (arith, l.least) in
            rw (p, q, one_byte (x + k))

    left_window :
        be_at s x 4 % 256 ^ (4 - k) / 2 ^ (8 - e) * 256 ^ k + be_at s x 4 / 256 ^ (4 - k)
        ≡ get_or s (x + k) 0 / 2 ^ (8 - e) * 256 ^ k + be_at s x k
    left_window =
        let f : 4 ≡ k + (4 - k) = omega (arith, l.most) in
        let w : be_at s x 4 ≡ be_at s x k * 256 ^ (4 - k) + be_at s (x + k) (4 - k) = ap (be_at s x) f ∙ be_split s x k (4 - k) in
        let b : be_at s (x + k) (4 - k) < 256 ^ (4 - k) = rw bytes_pow (be_lt s bytes (x + k) (4 - k)) in
        rw (w, digits_mod (be_at s x k) b, digits_div (be_at s x k) b, past_left)

    right_window :
        (size : ℕ) → size ≡ e + 8 * k
        → be_at s (x + (t - 4)) 4 % 2 ^ size ≡ get_or s (x + k) 0 % 2 ^ e * 256 ^ k + be_at s (x + (t - k)) k
    right_window size g =
        let f : 4 ≡ 4 - k + k = omega (arith, l.most) in
        let q : x + (t - 4) + (4 - k) ≡ x + (t - k) = omega (arith, l.most, l.least, l.both) in
        let w : be_at s (x + (t - 4)) 4 ≡ be_at s (x + (t - 4)) (4 - k) * 2 ^ (8 * k) + be_at s (x + (t - k)) k =
        ap (be_at s (x + (t - 4))) f ∙ be_split s (x + (t - 4)) (4 - k) k ∙ rw (bytes_pow, q)
        in
        let b : be_at s (x + (t - k)) k < 2 ^ (8 * k) = be_lt s bytes (x + (t - k)) k in
        let h = be_at s (x + (t - 4)) (4 - k) in
        rw (g, mod-pow-add, w, digits_div h b, digits_mod h b, before_right, bytes_pow)

  -- the one proof over the size: the window holds the record
  pub record_window :
      (size node bit : ℕ) → Sized size → bit < 2
      → window_record size bit (be_at s (node * (size / 4) + bit * (size / 4 - 4)) 4) ≡ record_at s size node bit
  unfolding record_at
  record_window size node zero z h =
      let f : node * (size / 4) + 0 * (size / 4 - 4) ≡ node * (size / 4) = omega arith in
      let g : node * (size / 4) + 0 ≡ node * (size / 4) = omega arith in
      rw (f, g) (left_window (laid z) (node * (size / 4)))
  record_window size node (suc zero) z h =
      let f : node * (size / 4) + 1 * (size / 4 - 4) ≡ node * (size / 4) + (size / 4 - 4) = omega arith in
      rw f (right_window (laid z) (node * (size / 4)) size (omega arith))
  record_window size node (suc (suc bit)) z h = absurd (omega arith)

  -- what is read from a window that way is the record
  pub from_window :
      {w r : ℕ} (size node bit : ℕ) → Sized size → bit < 2 → w ≡ be_at s (node * (size / 4) + bit * (size / 4 - 4)) 4
      → r ≡ window_record size bit w → r ≡ record_at s size node bit
  from_window size node bit z h e f = f ∙ rw e (record_window size node bit z h)

-- the code's branches read their windows that way
pub in24 : (w bit : ℕ) → w < 2 ^ 32 → bit < 2 → w / 2 ^ (8 - bit * 8) % 16777216 ≡ window_record 24 bit w
in24 w zero h b = omega arith
in24 w (suc zero) h b = omega arith
in24 w (suc (suc bit)) h b = absurd (omega arith)

pub in28 :
    (w bit : ℕ) → w < 2 ^ 32 → bit < 2
    → bit_and w (240 - bit * 240) * 1048576 + w / 2 ^ (8 - bit * 8) % 268435456 ≡ window_record 28 bit w
in28 w zero h b = omega (arith, and_high w 4 4)
in28 w (suc zero) h b = omega (arith, and_zero_r w)
in28 w (suc (suc bit)) h b = absurd (omega arith)

pub in32 : (w bit : ℕ) → w < 2 ^ 32 → bit < 2 → w ≡ window_record 32 bit w
in32 w zero h b = omega arith
in32 w (suc zero) h b = omega arith
in32 w (suc (suc bit)) h b = absurd (omega arith)

-- masked bits of a window, moved up by at most 32, leave room for 32 bits below them
pub joined_fits : (w m k r : ℕ) → w < 2 ^ 32 → k ≤ 2 ^ 32 → r < 2 ^ 32 → bit_and w m * k + r < 2 ^ 64
joined_fits w m k r h l b =
    let g : bit_and w m ≤ 2 ^ 32 - 1 = omega (arith, and_le_l w m) in
    let p : bit_and w m * k ≤ (2 ^ 32 - 1) * 2 ^ 32 = mul-le-mul g l in
    omega arith

pub moved_fits : (w m k : ℕ) → w < 2 ^ 32 → k ≤ 2 ^ 32 → bit_and w m * k < 2 ^ 64
moved_fits w m k h l = omega (arith, joined_fits w m k 0 h l (omega arith))

pub only32 : {size : ℕ} → Sized size → (size ≡ 24 → ⊥) → (size ≡ 28 → ⊥) → size ≡ 32
only32 (inl e) f g = absurd (f e)
only32 (inr (inl e)) f g = absurd (g e)
only32 (inr (inr e)) f g = e

either_lt : (t : Bool) {a b n : ℕ} → a < n → b < n → cond t a b < n
either_lt true g h = g
either_lt false g h = h

-- a record has size bits
pub record_lt : (s : List ℕ) → ((i : ℕ) → get_or s i 0 < 256) → (size node bit : ℕ) → record_at s size node bit < 2 ^ size
unfolding record_at
record_lt s bytes size node bit =
    let m = get_or s (node * (size / 4) + size / 8) 0 in
    let p = node * (size / 4) + cond (eqb bit 0) 0 (size / 4 - size / 8) in
    let e : size ≡ size % 8 + 8 * (size / 8) = omega arith in
    let f : 8 ≡ size % 8 + (8 - size % 8) = omega arith in
    let b : m < 2 ^ (size % 8 + (8 - size % 8)) = subst (λ (j : ℕ). m < 2 ^ j) f (bytes (node * (size / 4) + size / 8)) in
    let l : be_at s p (size / 8) < 256 ^ (size / 8) = rw bytes_pow (be_lt s bytes p (size / 8)) in
    let q : 2 ^ size ≡ 2 ^ (size % 8) * 256 ^ (size / 8) =
    ap (λ (j : ℕ). 2 ^ j) e ∙ pow-add 2 (size % 8) (8 * (size / 8)) ∙ rw bytes_pow
    in
    rw q (digits_lt (either_lt (eqb bit 0) (shr_lt (size % 8) (8 - size % 8) b) (mod-lt m (pow_pos (size % 8)))) l)

-- two lists that agree on their first n bytes
abbrev pub Same : ℕ → List ℕ → List ℕ → Type 0
Same n s t = (i : ℕ) → i < n → get_or s i 0 ≡ get_or t i 0

pub same_take : (n : ℕ) (s t : List ℕ) → take n s ≡ take n t → Same n s t
same_take n s t e i h = sym (get_or-take n s i 0 h) ∙ ap (λ (l : List ℕ). get_or l i 0) e ∙ get_or-take n t i 0 h

pub be_same : {n : ℕ} (s t : List ℕ) → Same n s t → (p k : ℕ) → p + k ≤ n → be_at s p k ≡ be_at t p k
be_same s t same p zero h = be_none s p ∙ sym (be_none t p)
be_same s t same p (suc k) h =
    rw (sym (add-one k), be_step s p k, be_step t p k, be_same s t same p k (omega arith), same (p + k) (omega arith))

-- a record depends on its node's bytes alone
pub record_same :
    {n : ℕ} (s t : List ℕ) → Same n s t → (size node bit : ℕ) → Sized size → (node + 1) * (size / 4) ≤ n
    → record_at s size node bit ≡ record_at t size node bit
unfolding record_at
record_same {n} s t same size node bit z h =
    let l = laid z in
    let e : (node + 1) * (size / 4) ≡ node * (size / 4) + 1 * (size / 4) = add-mul node 1 (size / 4) in
    let i : node * (size / 4) + size / 8 < n = omega (arith, l.least, l.both) in
    let o = cond (eqb bit 0) 0 (size / 4 - size / 8) in
    let c : o < size / 4 - size / 8 + 1 = either_lt (eqb bit 0) (omega arith) (omega arith) in
    rw (same (node * (size / 4) + size / 8) i, be_same s t same (node * (size / 4) + o) (size / 8) (omega (arith, l.least, l.both)))

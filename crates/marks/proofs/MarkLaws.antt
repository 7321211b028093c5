-- Laws of the scratch: a state is read as it was written, the others stay, and the ones of the words count the places.
use mathlib.Core.Path.{◌≡◌, refl, sym, ap, ap₂, ◌∙◌, subst}
use mathlib.Core.Logic.{◌⊎◌, inl, inr, ⊎_elim}
use mathlib.Core.List.{List, [], ◌∷◌, ◌++◌}
use mathlib.Core.Bool.{Bool, true, false, cond, ◌||◌}
use Prim.Native.Nat.{ℕ, zero, suc, ◌+◌, ◌-◌, ◌*◌, ◌/◌, ◌%◌, ◌^◌, ◌≤◌, ◌<◌, max}
use native.Mathlib.Nat.{mod-lt, le_of_suc-le-suc, not-suc-le-zero, zero-lt-suc, div-eq_of_lt, mul-mod_left, mul-div_cancel, pow-suc, max-zero, eq-or-lt_of_le, zero-add, add-zero, one-mul, zero-mul, le_trans, mul_comm, add-mul, mod-le, div-mul-le_self, mul-le-mul_right, zero-max, le_refl, div-one, div-lt_iff_lt-mul, add-suc, add_comm, zero-div}
use native.Mathlib.Decide.{ℕ_discrete, dec_lt}
use native.Mathlib.Omega.{arith}
use lib.Arith.{digits_div, digits_mod, lt_of_le-ne, lt-one}
use lib.Dec.{eqb}
use lib.Pow.{pow_pos, pow-lt, pow-add, shr-shr, split}
use lib.Bits.{bit_or, bit_and, or_shr, or_mod, or_add_and, and_high}
use lib.Count.{ones, ones_step, under, count_trailing_zeros}
use lib.ListN.{length, drop, get_or, length-set, replicate, get_or-replicate, get_or-append, length-append, length-replicate}
use lib.Seq.{get_or-set_same, get_or-set_other, drop-set-lt}
use borrow.Author.Tests.{eq-eqb, ne_eqb}
use denote.Enum.Bare.{sameb}
use denote.Enum.Declared.{tag_of}
use Rattle.marks.specs.contracts.Mark.{the_type}
use Rattle.marks.specs.declared.Mark.{Mark}
use Rattle.marks.specs.declared.Mark.TheVariants as mark
use Rattle.marks.specs.Marks.{number_of, free, recorded, active, bit, put, lower, upper, state_at, set_state, marked, next_marked, size_of, record_each, contains, distinct, Below}

-- ---- one word

lt_or_le : (a b : ℕ) → (a < b) ⊎ (b ≤ a)
lt_or_le a b = elim (dec_lt a b) [ yes h ↦ inl h | no n ↦ inr (omega arith) ]

pub bit_lt : (w s : ℕ) → bit w s < 2
unfolding bit
bit_lt w s = mod-lt (w / 2 ^ s) (zero-lt-suc 1)

or_bits : (x y : ℕ) → x < 2 → y < 2 → bit_or x y ≡ max x y
or_bits zero y p q = sym (zero-max y)
or_bits (suc zero) zero p q = refl
or_bits (suc zero) (suc zero) p q = refl
or_bits (suc zero) (suc (suc y)) p q = absurd (not-suc-le-zero (le_of_suc-le-suc (le_of_suc-le-suc q)))
or_bits (suc (suc x)) y p q = absurd (not-suc-le-zero (le_of_suc-le-suc (le_of_suc-le-suc p)))

bit_or_lem : (a b j : ℕ) → bit (bit_or a b) j ≡ max (bit a j) (bit b j)
unfolding bit
bit_or_lem a b j =
    ap (λ (n : ℕ). n % 2) (or_shr a b j) ∙ or_mod (a / 2 ^ j) (b / 2 ^ j) 1
    ∙ or_bits (a / 2 ^ j % 2) (b / 2 ^ j % 2) (mod-lt (a / 2 ^ j) (zero-lt-suc 1)) (mod-lt (b / 2 ^ j) (zero-lt-suc 1))

pow_low : (j k : ℕ) → 2 ^ (j + suc k) / 2 ^ j % 2 ≡ 0
pow_low j k =
    ap (λ (n : ℕ). n / 2 ^ j % 2) (pow-add 2 j (suc k) ∙ mul_comm (2 ^ j) (2 ^ suc k))
    ∙ ap (λ (n : ℕ). n % 2) (mul-div_cancel (2 ^ suc k) (pow_pos j) ∙ pow-suc 2 k) ∙ mul-mod_left (2 ^ k) 2

bit_pow_other : (s j : ℕ) → (j ≡ s → ⊥) → bit (2 ^ s) j ≡ 0
unfolding bit
bit_pow_other s j ne = ⊎_elim below above (lt_or_le j s)
  where
    below : j < s → 2 ^ s / 2 ^ j % 2 ≡ 0
    below h = subst (λ (n : ℕ). 2 ^ n / 2 ^ j % 2 ≡ 0) (omega arith) (pow_low j (s - suc j))

    above : s ≤ j → 2 ^ s / 2 ^ j % 2 ≡ 0
    above h = ap (λ (n : ℕ). n % 2) (div-eq_of_lt (pow-lt (lt_of_le-ne h (λ e. ne (sym e)))))

bit_zero : (j : ℕ) → bit 0 j ≡ 0
unfolding bit
bit_zero j = ap (λ (n : ℕ). n % 2) (zero-div (2 ^ j))

-- v as bit s, alone
bit_one_same : (v s : ℕ) → v < 2 → bit (v * 2 ^ s) s ≡ v
unfolding bit
bit_one_same v s h = ap (λ (n : ℕ). n % 2) (mul-div_cancel v (pow_pos s)) ∙ omega arith

bit_one_other : (v s j : ℕ) → v < 2 → (j ≡ s → ⊥) → bit (v * 2 ^ s) j ≡ 0
bit_one_other zero s j h ne = ap (λ (n : ℕ). bit n j) (zero-mul (2 ^ s)) ∙ bit_zero j
bit_one_other (suc zero) s j h ne = ap (λ (n : ℕ). bit n j) (one-mul (2 ^ s)) ∙ bit_pow_other s j ne
bit_one_other (suc (suc v)) s j h ne = absurd (not-suc-le-zero (le_of_suc-le-suc (le_of_suc-le-suc h)))

-- bit s of w counts for 2 ^ s of it
pub bit_le : (w s : ℕ) → bit w s * 2 ^ s ≤ w
unfolding bit
bit_le w s =
    le_trans (mul-le-mul_right (2 ^ s) (mod-le (w / 2 ^ s) 2)) (div-mul-le_self w (2 ^ s))

-- w without bit s
unfoldable cleared : ℕ → ℕ → ℕ
cleared w s = w - bit w s * 2 ^ s

even_even : (q : ℕ) → (q - q % 2) % 2 ≡ 0
even_even q = omega arith

cleared_div : (w s : ℕ) → (w - (w / 2 ^ s % 2) * 2 ^ s) / 2 ^ s ≡ w / 2 ^ s - w / 2 ^ s % 2
cleared_div w s =
    let q : ℕ = w / 2 ^ s in
    let r : ℕ = q % 2 in
    let e : (q - r) * 2 ^ s + r * 2 ^ s ≡ q * 2 ^ s = sym (add-mul (q - r) r (2 ^ s)) ∙ ap (λ (n : ℕ). n * 2 ^ s) (omega (arith, mod-le q 2)) in
    ap (λ (n : ℕ). n / 2 ^ s) (omega (arith, e, split w s)) ∙ digits_div (q - r) (mod-lt w (pow_pos s))

bit_clear_same : (w s : ℕ) → bit (cleared w s) s ≡ 0
unfolding bit cleared
bit_clear_same w s = ap (λ (n : ℕ). n % 2) (cleared_div w s) ∙ even_even (w / 2 ^ s)

-- the `or`, as a sum
or_sum : (w s : ℕ) → bit_or w (2 ^ s) + bit w s * 2 ^ s ≡ w + 2 ^ s
unfolding bit
or_sum w s =
    let p : 2 ^ (1 + s) - 2 ^ s ≡ 2 ^ s = ap (λ (n : ℕ). n - 2 ^ s) (pow-add 2 1 s) ∙ omega arith in
    let a : bit_and w (2 ^ s) ≡ (w / 2 ^ s % 2) * 2 ^ s = ap (bit_and w) (sym p) ∙ and_high w 1 s in
    ap (λ (n : ℕ). bit_or w (2 ^ s) + n) (sym a) ∙ or_add_and w (2 ^ s)

-- where the bit is 0, clearing changes nothing; where it is 1, setting it again gives the word back
clear_none : (w s : ℕ) → bit w s ≡ 0 → cleared w s ≡ w
unfolding cleared
clear_none w s e = ap (λ (n : ℕ). w - n * 2 ^ s) e ∙ omega arith

clear_one : (w s : ℕ) → bit w s ≡ 1 → bit_or (cleared w s) (2 ^ s) ≡ w
unfolding cleared
clear_one w s e =
    let v : ℕ = w - bit w s * 2 ^ s in
    let z : bit v s * 2 ^ s ≡ 0 = ap (λ (n : ℕ). n * 2 ^ s) (bit_clear_same w s) ∙ zero-mul (2 ^ s) in
    let o : bit w s * 2 ^ s ≡ 2 ^ s = ap (λ (n : ℕ). n * 2 ^ s) e ∙ omega arith in
    omega (arith, or_sum v s, z, o, bit_le w s)

clear_cases : (w s j b : ℕ) → b < 2 → bit w s ≡ b → (j ≡ s → ⊥) → bit (cleared w s) j ≡ bit w j
clear_cases w s j zero l e ne = ap (λ (n : ℕ). bit n j) (clear_none w s e)
clear_cases w s j (suc zero) l e ne =
    sym (bit_or_lem (cleared w s) (2 ^ s) j ∙ ap (max (bit (cleared w s) j)) (bit_pow_other s j ne) ∙ max-zero (bit (cleared w s) j))
    ∙ ap (λ (n : ℕ). bit n j) (clear_one w s e)
clear_cases w s j (suc (suc b)) l e ne = absurd (not-suc-le-zero (le_of_suc-le-suc (le_of_suc-le-suc l)))

-- ---- one bit of one word

bit_put_same : (w s v : ℕ) → v < 2 → bit (bit_or (cleared w s) (v * 2 ^ s)) s ≡ v
bit_put_same w s v h =
    bit_or_lem (cleared w s) (v * 2 ^ s) s ∙ ap₂ max (bit_clear_same w s) (bit_one_same v s h) ∙ zero-max v

bit_put_other : (w s v j : ℕ) → v < 2 → (j ≡ s → ⊥) → bit (bit_or (cleared w s) (v * 2 ^ s)) j ≡ bit w j
bit_put_other w s v j h ne =
    bit_or_lem (cleared w s) (v * 2 ^ s) j ∙ ap₂ max (clear_cases w s j (bit w s) (bit_lt w s) refl ne) (bit_one_other v s j h ne)
    ∙ max-zero (bit w j)

pub length_put : (ws : List ℕ) (k s v : ℕ) → length (put ws k s v) ≡ length ws
unfolding put
length_put ws k s v = length-set ws k _

put_same : (ws : List ℕ) (k s v : ℕ) → k < length ws → v < 2 → bit (get_or (put ws k s v) k 0) s ≡ v
unfolding put cleared
put_same ws k s v l h = ap (λ (w : ℕ). bit w s) (get_or-set_same ws k _ 0 l) ∙ bit_put_same (get_or ws k 0) s v h

-- another bit of it, or a bit of another word
put_bit : (ws : List ℕ) (k s v j : ℕ) → k < length ws → v < 2 → (j ≡ s → ⊥) → bit (get_or (put ws k s v) k 0) j ≡ bit (get_or ws k 0) j
unfolding put cleared
put_bit ws k s v j l h ne = ap (λ (w : ℕ). bit w j) (get_or-set_same ws k _ 0 l) ∙ bit_put_other (get_or ws k 0) s v j h ne

put_word : (ws : List ℕ) (k s v i : ℕ) → (i ≡ k → ⊥) → get_or (put ws k s v) i 0 ≡ get_or ws i 0
unfolding put
put_word ws k s v i ne = get_or-set_other ws k i _ 0 ne

put_other : (ws : List ℕ) (k s v i j : ℕ) → k < length ws → v < 2 → ((i ≡ k) × (j ≡ s) → ⊥) → bit (get_or (put ws k s v) i 0) j ≡ bit (get_or ws i 0) j
put_other ws k s v i j l h ne =
    elim (ℕ_discrete i k) [
      | yes e ↦ rw e (put_bit ws k s v j l h (λ q. ne (e, q)))
      | no n ↦ ap (λ (w : ℕ). bit w j) (put_word ws k s v i n)
    ]

-- ---- the state of a place

pub length_state : (ws : List ℕ) (t state : ℕ) → length (set_state ws t state) ≡ length ws
unfolding set_state
length_state ws t state = length_put _ (t / 64 * 2 + 1) (t % 64) (state / 2) ∙ length_put ws (t / 64 * 2) (t % 64) (state % 2)

-- words behind those of a place stay as they are
pub drop_state : (n : ℕ) (ws : List ℕ) (t state : ℕ) → t / 64 * 2 + 1 < n → drop n (set_state ws t state) ≡ drop n ws
unfolding set_state put
drop_state n ws t state h = drop-set-lt n _ (t / 64 * 2 + 1) _ h ∙ drop-set-lt n ws (t / 64 * 2) _ (omega arith)

module _ (ws : List ℕ) (t state : ℕ) (room : t / 64 * 2 + 1 < length ws) (four : state < 4) where
  abbrev once : List ℕ
  once = put ws (t / 64 * 2) (t % 64) (state % 2)

  room' : t / 64 * 2 + 1 < length once
  room' = omega (arith, length_put ws (t / 64 * 2) (t % 64) (state % 2))

  pub lower_same : lower (set_state ws t state) t ≡ state % 2
  unfolding lower set_state
  lower_same =
      put_other once (t / 64 * 2 + 1) (t % 64) (state / 2) (t / 64 * 2) (t % 64) room' (omega arith) (λ q. omega (arith, q.0))
      ∙ put_same ws (t / 64 * 2) (t % 64) (state % 2) (omega arith) (omega arith)

  upper_same : upper (set_state ws t state) t ≡ state / 2
  unfolding upper set_state
  upper_same = put_same once (t / 64 * 2 + 1) (t % 64) (state / 2) room' (omega arith)

  pub lower_other : (u : ℕ) → (u ≡ t → ⊥) → lower (set_state ws t state) u ≡ lower ws u
  unfolding lower set_state
  lower_other u ne =
      put_other once (t / 64 * 2 + 1) (t % 64) (state / 2) (u / 64 * 2) (u % 64) room' (omega arith) (λ q. omega (arith, q.0))
      ∙ put_other ws (t / 64 * 2) (t % 64) (state % 2) (u / 64 * 2) (u % 64) (omega arith) (omega arith) (λ q. ne (omega (arith, q.0, q.1)))

  upper_other : (u : ℕ) → (u ≡ t → ⊥) → upper (set_state ws t state) u ≡ upper ws u
  unfolding upper set_state
  upper_other u ne =
      put_other once (t / 64 * 2 + 1) (t % 64) (state / 2) (u / 64 * 2 + 1) (u % 64) room' (omega arith) (λ q. ne (omega (arith, q.0, q.1)))
      ∙ put_other ws (t / 64 * 2) (t % 64) (state % 2) (u / 64 * 2 + 1) (u % 64) (omega arith) (omega arith) (λ q. omega (arith, q.0))

  -- a state is read as it was written
  pub state_same : state_at (set_state ws t state) t ≡ state
  unfolding state_at
  state_same = ap₂ (λ (a b : ℕ). a + 2 * b) lower_same upper_same ∙ omega arith

  -- and the others stay as they were
  pub state_other : (u : ℕ) → (u ≡ t → ⊥) → state_at (set_state ws t state) u ≡ state_at ws u
  unfolding state_at
  state_other u ne = ap₂ (λ (a b : ℕ). a + 2 * b) (lower_other u ne) (upper_other u ne)

-- ---- words that were cleared

word_cleared : (n : ℕ) (rest : List ℕ) (k : ℕ) → k < n → ◌≡◌ {A = ℕ} (get_or (replicate n 0 ++ rest) k 0) 0
word_cleared n rest k h =
    let long : length (replicate {A = ℕ} n 0) ≡ n = length-replicate n 0 in
    get_or-append (replicate n 0) rest 0 k (omega arith) ∙ get_or-replicate n k 0 0 h

pub state_cleared : (n : ℕ) (rest : List ℕ) (t : ℕ) → t / 64 * 2 + 1 < n → state_at (replicate n 0 ++ rest) t ≡ free
unfolding state_at lower upper
state_cleared n rest t h =
    ap₂ (λ (a b : ℕ). bit a (t % 64) + 2 * bit b (t % 64)) (word_cleared n rest (t / 64 * 2) (omega arith)) (word_cleared n rest (t / 64 * 2 + 1) h)
    ∙ ap (λ (a : ℕ). a + 2 * a) (bit_zero (t % 64))

-- ---- how many: the ones of a word are its bits, summed

unfoldable bits_of : ℕ → ℕ → ℕ
bits_of w zero = 0
bits_of w (suc k) = bit w k + bits_of w k

bit_suc : (w k : ℕ) → bit w (suc k) ≡ bit (w / 2) k
unfolding bit
bit_suc w k = ap (λ (n : ℕ). n % 2) (sym (shr-shr w 1 k ∙ ap (λ (n : ℕ). w / 2 ^ n) (omega arith)))

bits_low : (w k : ℕ) → bits_of w (suc k) ≡ w % 2 + bits_of (w / 2) k
unfolding bits_of bit
bits_low w zero = ap (λ (n : ℕ). n % 2 + 0) (div-one w)
bits_low w (suc k) = ap₂ (λ (a b : ℕ). a + b) (bit_suc w k) (bits_low w k) ∙ omega arith

ones_bits : (k w : ℕ) → w < 2 ^ k → ones w ≡ bits_of w k
unfolding bits_of ones
ones_bits zero w h = ap ones (lt-one h)
ones_bits (suc k) w h =
    ones_step w ∙ ap (λ (n : ℕ). w % 2 + n) (ones_bits k (w / 2) ((div-lt_iff_lt-mul (zero-lt-suc 1)).1 (subst (λ (n : ℕ). w < n) (pow-suc 2 k) h)))
    ∙ sym (bits_low w k)

one_if : (n : ℕ) → n < 2 → cond (eqb n 1) 1 0 ≡ n
one_if zero h = refl
one_if (suc zero) h = refl
one_if (suc (suc n)) h = absurd (not-suc-le-zero (le_of_suc-le-suc (le_of_suc-le-suc h)))

lower_lt : (ws : List ℕ) (t : ℕ) → lower ws t < 2
unfolding lower
lower_lt ws t = bit_lt (get_or ws (t / 64 * 2) 0) (t % 64)

lower_at : (ws : List ℕ) (n k : ℕ) → k < 64 → lower ws (n * 64 + k) ≡ bit (get_or ws (n * 2) 0) k
unfolding lower
lower_at ws n k h = ap₂ (λ (a b : ℕ). bit (get_or ws (a * 2) 0) b) (digits_div n h) (digits_mod n h)

size_block : (ws : List ℕ) (n k : ℕ) → k ≤ 64 → size_of (marked ws) (n * 64 + k) ≡ bits_of (get_or ws (n * 2) 0) k + size_of (marked ws) (n * 64)
unfolding bits_of size_of
size_block ws n zero h = ap (size_of (marked ws)) (add-zero (n * 64)) ∙ sym (zero-add (size_of (marked ws) (n * 64)))
size_block ws n (suc k) h =
    ap (size_of (marked ws)) (add-suc (n * 64) k)
    ∙ ap₂ (λ (a b : ℕ). a + b) (one_if (lower ws (n * 64 + k)) (lower_lt ws (n * 64 + k)) ∙ lower_at ws n k h) (size_block ws n k (omega arith))
    ∙ omega arith

-- one more pair of words: the ones of its lower word are counted in
pub size_word : (ws : List ℕ) (n : ℕ) → get_or ws (n * 2) 0 < 2 ^ 64
    → size_of (marked ws) ((n + 1) * 64) ≡ size_of (marked ws) (n * 64) + ones (get_or ws (n * 2) 0)
size_word ws n h =
    ap (size_of (marked ws)) (omega arith) ∙ size_block ws n 64 (le_refl 64)
    ∙ ap (λ (a : ℕ). a + size_of (marked ws) (n * 64)) (sym (ones_bits 64 (get_or ws (n * 2) 0) h))
    ∙ add_comm (ones (get_or ws (n * 2) 0)) (size_of (marked ws) (n * 64))

-- ---- the next marked place

bit_none : (v : ℕ) → bit v 0 ≡ v % 2
unfolding bit
bit_none v = ap (λ (n : ℕ). n % 2) (div-one v)

-- the digits below the lowest that is set are 0
trailing_bit : (k v j : ℕ) → j < count_trailing_zeros k v → bit v j ≡ 0
unfolding count_trailing_zeros
trailing_bit zero v j h = absurd (not-suc-le-zero h)
trailing_bit (suc k) v j h = go (trailing_bit k (v / 2)) (v % 2) refl j h
  where
    go : ((i : ℕ) → i < count_trailing_zeros k (v / 2) → bit (v / 2) i ≡ 0) → (d : ℕ) → v % 2 ≡ d → (j : ℕ) → j < under d (count_trailing_zeros k (v / 2)) → bit v j ≡ 0
    go rest zero e zero l = bit_none v ∙ e
    go rest zero e (suc j) l = bit_suc v j ∙ rest j (le_of_suc-le-suc l)
    go rest (suc d) e j l = absurd (not-suc-le-zero l)

bit_past : (w s j : ℕ) → bit (w / 2 ^ s / 2) j ≡ bit w (s + 1 + j)
unfolding bit
bit_past w s j =
    ap (λ (n : ℕ). n / 2 ^ j % 2) (shr-shr w s 1) ∙ ap (λ (n : ℕ). n % 2) (shr-shr w (s + 1) j)

module _ (ws : List ℕ) (t : ℕ) where
  pub next_after : t < next_marked ws t
  unfolding next_marked
  next_after = omega arith

  -- no place between is marked
  next_skips : (u : ℕ) → t < u → u < next_marked ws t → lower ws u ≡ 0
  unfolding next_marked lower
  next_skips u h k =
      let w : ℕ = get_or ws (t / 64 * 2) 0 in
      let j : ℕ = u - (t + 1) in
      let a : u / 64 * 2 ≡ t / 64 * 2 = omega arith in
      let b : u % 64 ≡ t % 64 + 1 + j = omega arith in
      ap₂ (λ (m n : ℕ). bit (get_or ws m 0) n) a b ∙ sym (bit_past w (t % 64) j) ∙ trailing_bit 64 (w / 2 ^ (t % 64) / 2) j (omega arith)

  pub next_unrecorded : (u : ℕ) → t < u → u < next_marked ws t → eqb (state_at ws u) recorded ≡ false
  unfolding state_at
  next_unrecorded u h k =
      let z : lower ws u ≡ 0 = next_skips u h k in
      ne_eqb (lower ws u + 2 * upper ws u) recorded (λ e. omega arith)

-- ---- how many: the size of a set

pub size_same : (f g : ℕ → Bool) (m : ℕ) → ((t : ℕ) → t < m → f t ≡ g t) → size_of f m ≡ size_of g m
unfolding size_of
size_same f g zero e = refl
size_same f g (suc m) e =
    ap₂ (λ (b : Bool) (n : ℕ). cond b 1 0 + n) (e m (le_refl (suc m))) (size_same f g m (λ t h. e t (omega arith)))

none_below : (f : ℕ → Bool) (m : ℕ) → ((t : ℕ) → f t ≡ false) → size_of f m ≡ 0
unfolding size_of
none_below f zero e = refl
none_below f (suc m) e = ap₂ (λ (b : Bool) (n : ℕ). cond b 1 0 + n) (e m) (none_below f m e)

-- x put into a set: one more, unless it was there
abbrev with_one : ℕ → (ℕ → Bool) → ℕ → Bool
with_one x f t = eqb t x || f t

one_above : (x : ℕ) (f : ℕ → Bool) (m : ℕ) → m ≤ x → size_of (with_one x f) m ≡ size_of f m
one_above x f m h = size_same (with_one x f) f m (λ t l. ap (λ (b : Bool). b || f t) (ne_eqb t x (λ e. omega arith)))

not_there : (b : Bool) → 1 ≡ cond b 0 1 + cond b 1 0
not_there true = refl
not_there false = refl

size_one : (x : ℕ) (f : ℕ → Bool) (m : ℕ) → x < m → size_of (with_one x f) m ≡ cond (f x) 0 1 + size_of f m
unfolding size_of
size_one x f zero h = absurd (not-suc-le-zero h)
size_one x f (suc m) h =
    ⊎_elim
    (λ e. subst (λ (k : ℕ). size_of (with_one x f) (suc k) ≡ cond (f x) 0 1 + size_of f (suc k)) e
    (ap₂ (λ (b : Bool) (n : ℕ). cond (b || f x) 1 0 + n) (eq-eqb x x refl) (one_above x f x (le_refl x)) ∙ omega (arith, not_there (f x))))
    (λ lt. ap₂ (λ (b : Bool) (n : ℕ). cond (b || f m) 1 0 + n) (ne_eqb m x (λ e. omega arith)) (size_one x f m lt) ∙ omega arith)
    (eq-or-lt_of_le (le_of_suc-le-suc h))

-- the size of the set that a list is, is the number of its distinct numbers
pub size_distinct : (xs : List ℕ) (m : ℕ) → Below m xs → size_of (contains xs) m ≡ distinct xs
unfolding contains distinct Below
size_distinct [] m b = none_below (contains []) m (λ t. refl)
size_distinct (x ∷ xs) m b =
    size_one x (contains xs) m b.0 ∙ ap (λ (n : ℕ). cond (contains xs x) 0 1 + n) (size_distinct xs m b.1)

-- ---- what is recorded

pub length_each : (ws ts : List ℕ) → length (record_each ws ts) ≡ length ws
unfolding record_each
length_each ws [] = refl
length_each ws (t ∷ ts) = length_each (set_state ws t recorded) ts ∙ length_state ws t recorded

or_true : (b : Bool) → (b || true) ≡ true
or_true true = refl
or_true false = refl

-- the state of each place after a list of places is recorded
pub state_each : (ws ts : List ℕ) (m u : ℕ) → m ≤ length ws / 2 * 64 → Below m ts → state_at (record_each ws ts) u ≡ cond (contains ts u) recorded (state_at ws u)
unfolding record_each contains Below
state_each ws [] m u r b = refl
state_each ws (t ∷ ts) m u r b =
    let l : t / 64 * 2 + 1 < length ws = omega (arith, b.0) in
    let ih : state_at (record_each (set_state ws t recorded) ts) u ≡ cond (contains ts u) recorded (state_at (set_state ws t recorded) u) =
    state_each (set_state ws t recorded) ts m u (omega (arith, length_state ws t recorded)) b.1 in
    elim (ℕ_discrete u t) [
      | yes e ↦
          ih ∙ ap (cond (contains ts u) recorded) (ap (state_at (set_state ws t recorded)) e ∙ state_same ws t recorded l (omega arith))
          ∙ either (contains ts u) (state_at ws u) ∙ ap (λ (c : Bool). cond (c || contains ts u) recorded (state_at ws u)) (sym (eq-eqb u t e))
      | no n ↦
          ih ∙ ap (cond (contains ts u) recorded) (state_other ws t recorded l (omega arith) u n)
          ∙ ap (λ (c : Bool). cond (c || contains ts u) recorded (state_at ws u)) (sym (ne_eqb u t n))
    ]
  where
    either : (c : Bool) (n : ℕ) → cond c recorded recorded ≡ recorded
    either true n = refl
    either false n = refl

lower_of : (ws : List ℕ) (t : ℕ) → lower ws t ≡ state_at ws t % 2
unfolding state_at
lower_of ws t = omega (arith, lower_lt ws t)

marked_if : (c : Bool) → eqb (cond c recorded free % 2) 1 ≡ c
marked_if true = refl
marked_if false = refl

-- THE COUNT: of the places that were recorded where all were free, as many are marked as are distinct
pub size_each : (ws ts : List ℕ) (m : ℕ) → m ≤ length ws / 2 * 64 → ((t : ℕ) → t < m → state_at ws t ≡ free) → Below m ts
    → size_of (marked (record_each ws ts)) m ≡ distinct ts
size_each ws ts m r blank b =
    size_same (marked (record_each ws ts)) (contains ts) m
    (λ t h. ap (λ (k : ℕ). eqb k 1) (lower_of (record_each ws ts) t
    ∙ ap (λ (k : ℕ). k % 2) (state_each ws ts m t r b ∙ ap (cond (contains ts t) recorded) (blank t h)))
    ∙ marked_if (contains ts t))
    ∙ size_distinct ts m b

one_of_four : (n : ℕ) → n < 4 → (n ≡ active → ⊥) → eqb (n % 2) 1 ≡ eqb n recorded
one_of_four zero h a = refl
one_of_four (suc zero) h a = refl
one_of_four (suc (suc zero)) h a = refl
one_of_four (suc (suc (suc zero))) h a = absurd (a refl)
one_of_four (suc (suc (suc (suc n)))) h a = absurd (let w : ⊥ = omega arith in w)

upper_lt : (ws : List ℕ) (t : ℕ) → upper ws t < 2
unfolding upper
upper_lt ws t = bit_lt (get_or ws (t / 64 * 2 + 1) 0) (t % 64)

pub state_lt : (ws : List ℕ) (t : ℕ) → state_at ws t < 4
unfolding state_at
state_lt ws t = omega (arith, lower_lt ws t, upper_lt ws t)

-- where no place is active, the marked places are those in the state recorded
pub marked_recorded : (ws : List ℕ) (m : ℕ) → ((t : ℕ) → t < m → state_at ws t ≡ active → ⊥)
    → size_of (marked ws) m ≡ size_of (λ t. eqb (state_at ws t) recorded) m
marked_recorded ws m idle =
    size_same (marked ws) (λ t. eqb (state_at ws t) recorded) m
    (λ t h. ap (λ (k : ℕ). eqb k 1) (lower_of ws t) ∙ one_of_four (state_at ws t) (state_lt ws t) (idle t h))

-- and so of a scratch that was cleared, whatever lies behind the words needed
pub count_cleared : (n k : ℕ) (rest ts : List ℕ) → k * 2 ≤ n → Below (k * 64) ts → size_of (marked (record_each (replicate n 0 ++ rest) ts)) (k * 64) ≡ distinct ts
count_cleared n k rest ts h b =
    let long : length (replicate n 0 ++ rest) ≡ n + length rest = simp (length-append, length-replicate) in
    size_each (replicate n 0 ++ rest) ts (k * 64) (omega arith) (λ t l. state_cleared n rest t (omega arith)) b

-- ---- marks by their numbers

tag_number : (m : Mark) → tag_of the_type m ≡ number_of m
tag_number mark.Free = refl
tag_number mark.Recorded = refl
tag_number mark.Validated = refl
tag_number mark.Active = refl

-- what `==` says of two marks is what their numbers say
pub same_mark : (a b : Mark) → sameb the_type a b ≡ eqb (number_of a) (number_of b)
same_mark a b = ap₂ eqb (tag_number a) (tag_number b)

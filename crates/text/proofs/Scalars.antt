-- A list of bytes is well formed exactly if it is the concatenation of the encodings of scalar values.
use Prim.Native.Nat.{ℕ, zero, suc, ◌+◌, ◌-◌, ◌*◌, ◌≤◌, ◌<◌, ◌/◌}
use mathlib.Core.Path.{◌≡◌, refl, sym, ap, ◌∙◌}
use mathlib.Core.Logic.{◌↔◌, ◌⊎◌, inl, inr, ⊎_elim}
use mathlib.Core.List.{List, [], ◌∷◌, ◌++◌}
use mathlib.Core.Bool.{Bool, true, false, ◌&&◌, and-eq-true_iff, false≢true}
use native.Mathlib.Omega.{arith}
use borrow.Author.Tests.{leb-true, leb-false}
use lib.Dec.{leb, eqb-suc-zero}
use lib.ListN.{length}
use Rattle.text.proofs.Laws.{Between, in_yes, in_no, within_between, above, from, up_to, below}
use Rattle.text.proofs.Laws.{Row, row_ascii, row_none, row_c2, row_e0, row_e1, row_ed, row_ee, row_f0, row_f1, row_f4, row_beyond}
use Rattle.text.proofs.Laws.{run_ill, run_first, run_later}
use Rattle.text.specs.Utf8.{bytes, run, first, within, well_formed, scalar, trailing, encode, all_scalar, encode_all, OfScalars}
use Rattle.std.specs.Prelude.{Some, None}

-- by whether a number is at most m
split : {C : Type 0} (m c : ℕ) → (c ≤ m → C) → (m < c → C) → C
split {C} m c f g = go (leb c m) refl
  where
    go : (t : Bool) → leb c m ≡ t → C
    go true e = f (leb-true c m e)
    go false e = g (leb-false c m e)

scalar_low : (c : ℕ) → c ≤ 0xd7ff → scalar c ≡ true
scalar_low c h = simp (up_to h)

surrogate : (c : ℕ) → Between 0xd800 0xdfff c → scalar c ≡ false
surrogate c h = simp (above h.0, below h.1)

scalar_high : (c : ℕ) → Between 0xe000 0x10ffff c → scalar c ≡ true
scalar_high c h = simp (above h.0, from h.0, up_to h.1)

too_high : (c : ℕ) → 0x10ffff < c → scalar c ≡ false
too_high c h = simp (above h, from h)

encode_one : (c : ℕ) → c ≤ 0x7f → encode c ≡ c ∷ []
unfolding encode
encode_one c h = simp (up_to h)

encode_two : (c : ℕ) → Between 0x80 0x7ff c → encode c ≡ (0xc0 + c / 64) ∷ trailing c ∷ []
unfolding encode
encode_two c h = simp (above h.0, up_to h.1)

encode_three : (c : ℕ) → Between 0x800 0xffff c → encode c ≡ (0xe0 + c / 4096) ∷ trailing (c / 64) ∷ trailing c ∷ []
unfolding encode
encode_three c h = simp (above h.0, up_to h.1)

encode_four : (c : ℕ) → 0xffff < c
    → encode c ≡ (0xf0 + c / 262144) ∷ trailing (c / 4096) ∷ trailing (c / 64) ∷ trailing c ∷ []
unfolding encode
encode_four c h = simp (above h)

trailing_within : (v : ℕ) → within 0x80 0xbf (trailing v) ≡ true
trailing_within v = in_yes 0x80 0xbf (trailing v) (omega arith)

-- The bytes of a number before other bytes. Each row of the table holds a range of numbers. The surrogates, and what lies past the
-- last scalar value, fail at the second byte's bound or stand in no row.
module _ (c : ℕ) (s : List ℕ) where
  abbrev Splits : Type 0
  Splits = well_formed (encode c ++ s) ≡ scalar c && well_formed s

  -- the second byte is where its row has it, or past that, as c is a scalar value or not
  abbrev Second : ℕ → ℕ → ℕ → Type 0
  Second lo hi b = (Between lo hi b × (scalar c ≡ true)) ⊎ ((hi < b) × (scalar c ≡ false))

  second : (lo hi b : ℕ) → Second lo hi b → within lo hi b ≡ scalar c
  second lo hi b =
      ⊎_elim (λ y. in_yes lo hi b y.0 ∙ sym y.1) (λ n. in_no lo hi b (λ h. omega arith) ∙ sym n.1)

  one : c ≤ 0x7f → Splits
  one h = rw (encode_one c h, scalar_low c (omega arith)) (run_first c s _ (row_ascii c h))

  two : Between 0x80 0x7ff c → Splits
  two h =
      rw (encode_two c h, scalar_low c (omega arith))
      (run_first _ _ _ (row_c2 (0xc0 + c / 64) (omega arith)) ∙ simp (run_later 0, trailing_within))

  three : {k n lo hi : ℕ} → Row k n (Some (bytes 2 lo hi)) → Between 0x800 0xffff c × Between k n (0xe0 + c / 4096)
      → Second lo hi (trailing (c / 64)) → Splits
  three {lo} {hi} row h w =
      rw (encode_three c h.0, ← second lo hi _ w)
      (run_first _ _ _ (row _ h.1) ∙ simp (run_later 1, run_later 0, trailing_within))

  four : {k n lo hi : ℕ} → Row k n (Some (bytes 3 lo hi)) → (0xffff < c) × Between k n (0xf0 + c / 262144)
      → Second lo hi (trailing (c / 4096)) → Splits
  four {lo} {hi} row h w =
      rw (encode_four c h.0, ← second lo hi _ w)
      (run_first _ _ _ (row _ h.1) ∙ simp (run_later 2, run_later 1, run_later 0, trailing_within))

  splits : Splits
  splits =
      split 0x7f c (λ h. one h) λ l.
      split 0x7ff c (λ h. two (l, h)) λ l.
      split 0xfff c (λ h. three row_e0 (omega arith) (inl (omega arith, scalar_low c (omega arith)))) λ l.
      split 0xcfff c (λ h. three row_e1 (omega arith) (inl (omega arith, scalar_low c (omega arith)))) λ l.
      split 0xd7ff c (λ h. three row_ed (omega arith) (inl (omega arith, scalar_low c (omega arith)))) λ l.
      split 0xdfff c (λ h. three row_ed (omega arith) (inr (omega arith, surrogate c (l, h)))) λ l.
      split 0xffff c (λ h. three row_ee (omega arith) (inl (omega arith, scalar_high c (omega arith)))) λ l.
      split 0x3ffff c (λ h. four row_f0 (omega arith) (inl (omega arith, scalar_high c (omega arith)))) λ l.
      split 0xfffff c (λ h. four row_f1 (omega arith) (inl (omega arith, scalar_high c (omega arith)))) λ l.
      split 0x10ffff c (λ h. four row_f4 (omega arith) (inl (omega arith, scalar_high c (omega arith)))) λ l.
      split 0x13ffff c (λ h. four row_f4 (omega arith) (inr (omega arith, too_high c l))) λ k.
      rw (encode_four c (omega arith), too_high c l) (run_first _ _ _ (row_beyond (0xf0 + c / 262144) (omega arith)) ∙ run_ill _)

-- this holds of all numbers: no other than a scalar value has a well-formed encoding
pub encodings : (cs : List ℕ) → well_formed (encode_all cs) ≡ all_scalar cs
unfolding encode_all all_scalar run
encodings [] = refl
encodings (c ∷ cs) = splits c (encode_all cs) ∙ ap (scalar c &&◌) (encodings cs)

-- a text in which more bytes are asked for begins with one of them
record Opened (n lo hi : ℕ) (s : List ℕ) : Type 0 where
  byte : ℕ
  rest : List ℕ
  is : s ≡ byte ∷ rest
  between : Between lo hi byte
  more : run rest (Some (bytes n 0x80 0xbf)) ≡ true

opened : (n lo hi : ℕ) (s : List ℕ) → run s (Some (bytes (suc n) lo hi)) ≡ true → Opened n lo hi s
unfolding run
opened n lo hi [] r = absurd (false≢true (sym (eqb-suc-zero n) ∙ r))
opened n lo hi (b ∷ s) r =
    let h = (and-eq-true_iff (within lo hi b) (run s (Some (bytes n 0x80 0xbf)))).0 (sym (run_later n lo hi b s) ∙ r) in
    record { byte = b; rest = s; is = refl; between = within_between lo hi b h.0; more = h.1 }

-- a trailing byte adds six bits
abbrev grown : ℕ → ℕ → ℕ
grown v b = v * 64 + (b - 0x80)

trailing_grown : (v b : ℕ) → Between 0x80 0xbf b → trailing (grown v b) ≡ b
trailing_grown v b h = omega arith

-- A well-formed text begins with the encoding of a number. It is the shortest form, since the second byte's bound rules out the
-- others: 0xe0 * 64 + 0xa0 and 0xf0 * 64 + 0x90 are the least first two bytes.
module _ (a : ℕ) (s : List ℕ) (w : well_formed (a ∷ s) ≡ true) where
  abbrev Begins : Type 0
  Begins = (c : ℕ) × (t : List ℕ) × (encode c ++ t ≡ a ∷ s)

  refused : first a ≡ None → Begins
  refused e = absurd (false≢true (sym (run_ill s) ∙ sym (run_first a s _ e) ∙ w))

  two_first : Between 0xc2 0xdf a → Begins
  two_first h =
      let x = opened 0 0x80 0xbf s (sym (run_first a s _ (row_c2 a h)) ∙ w) in
      let c : ℕ = grown (a - 0xc0) x.byte in
      let e₁ : 0xc0 + c / 64 ≡ a = omega arith in
      let e₂ : trailing c ≡ x.byte = trailing_grown _ _ x.between in
      (c, x.rest, rw (encode_two c (omega arith), e₁, e₂) (ap (a ∷◌) (sym x.is)))

  three_first : {k n lo hi : ℕ} → Row k n (Some (bytes 2 lo hi))
      → Between k n a × Between 0xe0 0xef a × (0x80 ≤ lo) × (hi ≤ 0xbf) × (0xe0 * 64 + 0xa0 ≤ a * 64 + lo) → Begins
  three_first {lo} {hi} row h =
      let x = opened 1 lo hi s (sym (run_first a s _ (row a h.0)) ∙ w) in
      let y = opened 0 0x80 0xbf x.rest x.more in
      let v : ℕ = grown (a - 0xe0) x.byte in
      let c : ℕ = grown v y.byte in
      let e₁ : 0xe0 + c / 4096 ≡ a = omega arith in
      let q₂ : c / 64 ≡ v = omega arith in
      let e₂ : trailing (c / 64) ≡ x.byte = ap trailing q₂ ∙ trailing_grown (a - 0xe0) x.byte (omega arith) in
      let e₃ : trailing c ≡ y.byte = trailing_grown v y.byte y.between in
      let e : a ∷ x.byte ∷ y.byte ∷ y.rest ≡ a ∷ s = cc (x.is, y.is) in
      (c, y.rest, rw (encode_three c (omega arith), e₁, e₂, e₃) e)

  four_first : {k n lo hi : ℕ} → Row k n (Some (bytes 3 lo hi))
      → Between k n a × (0xf0 ≤ a) × (0x80 ≤ lo) × (hi ≤ 0xbf) × (0xf0 * 64 + 0x90 ≤ a * 64 + lo) → Begins
  four_first {lo} {hi} row h =
      let x = opened 2 lo hi s (sym (run_first a s _ (row a h.0)) ∙ w) in
      let y = opened 1 0x80 0xbf x.rest x.more in
      let z = opened 0 0x80 0xbf y.rest y.more in
      let v : ℕ = grown (a - 0xf0) x.byte in
      let u : ℕ = grown v y.byte in
      let c : ℕ = grown u z.byte in
      let e₁ : 0xf0 + c / 262144 ≡ a = omega arith in
      let q₂ : c / 4096 ≡ v = omega arith in
      let e₂ : trailing (c / 4096) ≡ x.byte = ap trailing q₂ ∙ trailing_grown (a - 0xf0) x.byte (omega arith) in
      let q₃ : c / 64 ≡ u = omega arith in
      let e₃ : trailing (c / 64) ≡ y.byte = ap trailing q₃ ∙ trailing_grown v y.byte y.between in
      let e₄ : trailing c ≡ z.byte = trailing_grown u z.byte z.between in
      let e : a ∷ x.byte ∷ y.byte ∷ z.byte ∷ z.rest ≡ a ∷ s = cc (x.is, y.is, z.is) in
      (c, z.rest, rw (encode_four c (omega arith), e₁, e₂, e₃, e₄) e)

  begins : Begins
  begins =
      split 0x7f a (λ h. (a, s, rw (encode_one a h))) λ l.
      split 0xc1 a (λ h. refused (row_none a (l, h))) λ l.
      split 0xdf a (λ h. two_first (l, h)) λ l.
      split 0xe0 a (λ h. three_first row_e0 (omega arith)) λ l.
      split 0xec a (λ h. three_first row_e1 (omega arith)) λ l.
      split 0xed a (λ h. three_first row_ed (omega arith)) λ l.
      split 0xef a (λ h. three_first row_ee (omega arith)) λ l.
      split 0xf0 a (λ h. four_first row_f0 (omega arith)) λ l.
      split 0xf3 a (λ h. four_first row_f1 (omega arith)) λ l.
      split 0xf4 a (λ h. four_first row_f4 (omega arith)) λ l.
      refused (row_beyond a l)

longer : (c : ℕ) (t : List ℕ) → length t < length (encode c ++ t)
longer c t =
    split 0x7f c (λ h. rw (encode_one c h) (omega arith)) λ l.
    split 0x7ff c (λ h. rw (encode_two c (l, h)) (omega arith)) λ l.
    split 0xffff c (λ h. rw (encode_three c (l, h)) (omega arith)) λ l.
    rw (encode_four c l) (omega arith)

-- The bytes past the first number are no part of the list's pattern, so the recursion is on a bound of its length.
spelled : (n : ℕ) (s : List ℕ) → length s ≤ n → well_formed s ≡ true → (cs : List ℕ) × (encode_all cs ≡ s)
unfolding encode_all
spelled zero [] l w = ([], refl)
spelled (suc n) [] l w = ([], refl)
spelled zero (a ∷ s) l w = absurd (omega arith)
spelled (suc n) (a ∷ s) l w =
    let (c, t, e) = begins a s w in
    let (_, v) = (and-eq-true_iff (scalar c) (well_formed t)).0 (sym (splits c t) ∙ ap (λ x. well_formed x) e ∙ w) in
    let (cs, f) = spelled n t (omega (arith, longer c t, ap length e)) v in
    (c ∷ cs, ap (encode c ++◌) f ∙ e)

pub encoded_well_formed : (cs : List ℕ) → all_scalar cs ≡ true → well_formed (encode_all cs) ≡ true
encoded_well_formed cs a = encodings cs ∙ a

pub well_formed_encoded : (s : List ℕ) → well_formed s ≡ true → OfScalars s
well_formed_encoded s w =
    let (cs, e) = spelled (length s) s (omega arith) w in
    (cs, sym (encodings cs) ∙ ap (λ x. well_formed x) e ∙ w, e)

pub well_formed_exactly_if_encoded : (s : List ℕ) → well_formed s ≡ true ↔ OfScalars s
well_formed_exactly_if_encoded s = (well_formed_encoded s, λ o. rw (← o.2) (encoded_well_formed o.0 o.1))

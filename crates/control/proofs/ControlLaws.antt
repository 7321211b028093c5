-- Laws of control bytes and pointers: where what they say lies.
use Prim.Native.Nat.{ℕ, ◌+◌, ◌*◌, ◌/◌, ◌%◌, ◌^◌, ◌≤◌, ◌<◌}
use mathlib.Core.Path.{◌≡◌, ap}
use mathlib.Core.List.{List}
use mathlib.Core.Logic.{⊎_elim}
use lib.ListN.{length, get_or}
use lib.Dec.{leb, ltb, eqb}
use native.Mathlib.Omega.{arith}
use borrow.Author.Tests.{leb-true, ltb-true}
use Rattle.number.specs.Bytes.{be_at}
use Rattle.number.proofs.ByteLaws.{be_lt}
use Rattle.number.proofs.Tests.{chosen, chosen_first}
use Rattle.std.specs.Prelude.{Some}
use Rattle.std.proofs.lemmas.Option.{none-some, cond_some}
use Rattle.control.specs.Control.{kind_of, is_pointer, head, more_at, size_at, sized_at, head_at}
use Rattle.control.specs.Pointers.{link, far_at, link_at}
use Rattle.control.specs.declared.Kind.{Kind}
use Rattle.control.specs.declared.Head.{Head}
use Rattle.control.specs.declared.Link.{Link}

-- a header from `p` on in `length` bytes: no size is larger than the format's largest, and the payload begins inside or at the end
pub record Within (length p size payload : ℕ) : Type 0 where
  pub small : size ≤ 16843036
  pub after : p ≤ payload
  pub inside : payload ≤ length

-- two headers that are one have one kind, one size and one payload
pub same_head : {k k' : Kind} {n n' p p' : ℕ} → Some (head k n p) ≡ Some (head k' n' p') → (k ≡ k') × (n ≡ n') × (p ≡ p')
same_head {k} {k'} {n} {n'} {p} {p'} e =
    let h : head k n p ≡ head k' n' p' = cc in
    (ap (λ (x : Head). x.kind) h, ap (λ (x : Head). x.size) h, ap (λ (x : Head). x.payload) h)

-- two links that are one lead to one place
pub same_link : {t t' q q' : ℕ} → Some (link t q) ≡ Some (link t' q') → (t ≡ t') × (q ≡ q')
same_link {t} {t'} {q} {q'} e =
    let h : link t q ≡ link t' q' = cc in
    (ap (λ (x : Link). x.target) h, ap (λ (x : Link). x.next) h)

module _ (s : List ℕ) (bytes : (i : ℕ) → get_or s i 0 < 256) where
  more_within : (k : Kind) (base n p : ℕ) {k' : Kind} {m q : ℕ} → base + 2 ^ (8 * n) ≤ 16843037
      → more_at s k base n p ≡ Some (head k' m q) → Within (length s) p m q
  more_within k base n p {k'} {m} {q} h e =
      let c = cond_some (leb (p + n) (length s)) (head k (base + be_at s p n) (p + n)) (head k' m q) e in
      let d = same_head {k = k} {n = base + be_at s p n} {p = p + n} (ap Some c.1) in
      record { small = omega (arith, be_lt s bytes p n); after = omega arith; inside = omega (arith, leb-true (p + n) (length s) c.0) }

  size_within : (k : Kind) (code p : ℕ) {k' : Kind} {m q : ℕ} → p ≤ length s
      → size_at s k code p ≡ Some (head k' m q) → Within (length s) p m q
  unfolding size_at
  size_within k code p {k'} {m} {q} l e =
      ⊎_elim
      (λ c. let d = same_head {k = k} {n = code} {p = p} c.1 in
      record { small = omega (arith, leb-true code 28 c.0); after = omega arith; inside = omega arith })
      (λ c. ⊎_elim
      (λ d. more_within k 29 1 p (omega arith) d.1)
      (λ d. ⊎_elim
      (λ x. more_within k 285 2 p (omega arith) x.1)
      (λ x. more_within k 65821 3 p (omega arith) (chosen_first (eqb code 31) (none-some _) x.1).1)
      (chosen (eqb code 30) d.1))
      (chosen (eqb code 29) c.1))
      (chosen (leb code 28) e)

  sized_within : (k : Kind) (code p : ℕ) {k' : Kind} {m q : ℕ} → code < 32 → p ≤ length s
      → sized_at s k code p ≡ Some (head k' m q) → Within (length s) p m q
  unfolding sized_at
  sized_within k code p {k'} {m} {q} small l e =
      ⊎_elim
      (λ c. let d = same_head {k = k} {n = code} {p = p} c.1 in
      record { small = omega arith; after = omega arith; inside = omega arith })
      (λ c. size_within k code p l c.1)
      (chosen (is_pointer k) e)

  -- a control byte's payload begins after it
  pub head_within : (p : ℕ) {k : Kind} {n q : ℕ} → head_at s p ≡ Some (head k n q) → Within (length s) (p + 1) n q
  unfolding head_at
  head_within p {k} {n} {q} e =
      let b = get_or s p 0 in
      let c = chosen_first (ltb p (length s)) (none-some _) e in
      let here : p < length s = ltb-true _ _ c.0 in
      ⊎_elim
      (λ x. let d = chosen_first (ltb (p + 1) (length s)) (none-some _) x.1 in
      let there : p + 1 < length s = ltb-true _ _ d.0 in
      let w : Within (length s) (p + 2) n q = sized_within (kind_of (get_or s (p + 1) 0 + 7)) (b % 32) (p + 2) (omega arith) (omega arith) d.1 in
      record { small = w.small; after = omega (arith, w.after); inside = w.inside })
      (λ x. sized_within (kind_of (b / 32)) (b % 32) (p + 1) (omega arith) (omega arith) x.1)
      (chosen (eqb (b / 32) 0) c.1)

far_after : (s : List ℕ) (base n p : ℕ) {t q : ℕ} → 0 < n → far_at s base n p ≡ Some (link t q) → (p < q) × (q ≤ length s)
far_after s base n p {t} {q} h e =
    let c = cond_some (leb (p + n) (length s)) (link (base + be_at s p n) (p + n)) (link t q) e in
    let d = same_link {t = base + be_at s p n} {q = p + n} (ap Some c.1) in
    (omega arith, omega (arith, leb-true (p + n) (length s) c.0))

-- what follows a pointer begins after it
pub link_after : (s : List ℕ) (code p : ℕ) {t q : ℕ} → link_at s code p ≡ Some (link t q) → (p < q) × (q ≤ length s)
unfolding link_at
link_after s code p e =
    ⊎_elim
    (λ c. far_after s (code % 8 * 256) 1 p (omega arith) c.1)
    (λ c. ⊎_elim
    (λ d. far_after s (2048 + code % 8 * 65536) 2 p (omega arith) d.1)
    (λ d. ⊎_elim
    (λ x. far_after s (526336 + code % 8 * 16777216) 3 p (omega arith) x.1)
    (λ x. far_after s 0 4 p (omega arith) x.1)
    (chosen (eqb (code / 8 % 4) 2) d.1))
    (chosen (eqb (code / 8 % 4) 1) c.1))
    (chosen (eqb (code / 8 % 4) 0) e)

-- Laws of values: of numbers, and of values one after the other.
use Prim.Native.Nat.{ℕ, zero, suc, ◌+◌, ◌-◌, ◌≤◌, ◌<◌}
use mathlib.Core.Path.{◌≡◌, refl, sym, ◌∙◌}
use mathlib.Core.List.{List}
use mir.Syntax.{w8}
use mir.Val.{Fits}
use lib.ListN.{length, get_or}
use native.Mathlib.Nat.{zero-add, suc-add}
use native.Mathlib.Omega.{arith}
use native.Mathlib.Numerals.{add-one}
use Rattle.std.specs.Prelude.{Option, Some, None}
use Rattle.charge.specs.declared.Charge.{Charge}
use Rattle.control.specs.declared.Kind.{Kind}
use Rattle.stored.specs.Stored.{up_to, body_of, resolved_at, Lies}
use Rattle.stored.specs.declared.Layout.{Layout}
use Rattle.stored.proofs.StoredLaws.{resolved_laid, lies_up_to}
use Rattle.fields.specs.Fields.{got, many}
use Rattle.fields.specs.declared.Got.{Got}

-- a number of at most eight bytes
pub number_lies : {len : ℕ} {k : Kind} {n q : ℕ} (most : ℕ) → Lies len k n q → body_of k n ≡ up_to most n → most ≤ 8 → (n ≤ 8) × (q + n ≤ len)
number_lies {len} {k} {n} {q} most l e h =
    let t : (n ≤ most) × (q + n ≤ len) = lies_up_to most l e in
    (omega arith, t.1)

-- what is read lies in the section
pub resolved_lies : (s : List ℕ) → ((i : ℕ) → Fits w8 (get_or s i 0)) → (at : ℕ) (l : Layout) → resolved_at s at ≡ Some l → Lies (length s) l.kind l.size l.payload
resolved_lies s bytes at l e = (resolved_laid s (λ i. (bytes i).fits) at e).0.lies

module _ (f : ℕ → Charge → Option Got) where
  many_one : (m : ℕ) (x : Got) → many f (suc m) (Some x) ≡ many f m (f x.next x.charge)
  unfolding many
  many_one m x = refl

  many_suc : (n m : ℕ) (x : Got) {y : Option Got} → n ≡ m + 1 → f x.next x.charge ≡ y → many f n (Some x) ≡ many f m y
  many_suc n m x h e = rw (h, add-one, many_one, e)

  pub many_wrong : (n : ℕ) → many f n None ≡ None
  unfolding many
  many_wrong zero = refl
  many_wrong (suc n) = refl

  -- of n values, i were read
  module _ (n i : ℕ) (x : Got) (h : i < n) where
    pub many_more : {y : Got} → f x.next x.charge ≡ Some y → many f (n - i) (Some x) ≡ many f (n - (i + 1)) (Some y)
    many_more e = many_suc (n - i) (n - (i + 1)) x (omega arith) e

    pub many_stop : f x.next x.charge ≡ None → many f (n - i) (Some x) ≡ None
    many_stop e = many_suc (n - i) (n - (i + 1)) x (omega arith) e ∙ many_wrong (n - (i + 1))

  pub many_none : (n : ℕ) (x : Option Got) → n ≤ 0 → many f n x ≡ x
  unfolding many
  many_none n x h = let e : n ≡ 0 = omega arith in rw e

  -- what was read before does not matter to what is read next
  pub many_any : (n v p v' p' at : ℕ) (c : Charge) → 0 < n → many f n (Some (got v p at c)) ≡ many f n (Some (got v' p' at c))
  unfolding many
  many_any zero v p v' p' at c h = absurd (omega arith)
  many_any (suc n) v p v' p' at c h = refl

  -- a run of values is one run, and another from where it ended
  pub many_join : (m n : ℕ) (x : Option Got) → many f (m + n) x ≡ many f n (many f m x)
  unfolding many
  many_join zero n x = rw zero-add
  many_join (suc m) n (Some x) = rw suc-add (many_join m n (f x.next x.charge))
  many_join (suc m) n None = rw suc-add (sym (many_wrong n))

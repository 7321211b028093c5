-- The laws of `skip_at`: what a caller cites, so that no proof of a function looks into the definition.
use Prim.Native.Nat.{ℕ, zero, suc, ◌+◌, ◌-◌, ◌≤◌, ◌<◌}
use mathlib.Core.Path.{◌≡◌, refl, ◌∙◌}
use mathlib.Core.List.{List}
use mir.Syntax.{w8}
use mir.Val.{Fits}
use lib.ListN.{get_or}
use native.Mathlib.Omega.{arith}
use native.Mathlib.Numerals.{add-one, sub-one}
use Rattle.std.specs.Prelude.{Option, Some, None}
use Rattle.charge.specs.declared.Charge.{Charge}
use Rattle.stored.specs.Stored.{stored_at}
use Rattle.stored.specs.declared.Layout.{Layout}
use Rattle.stored.proofs.StoredLaws.{stored_laid}
use Rattle.skip.specs.Skip.{entry_at, past, many, after, skip_at}
use Rattle.skip.specs.declared.Entry.TheVariants.{Leaf, Nest}
use Rattle.skip.specs.declared.Past.{Past}

-- what is entered is not too large to be counted twice
pub stored_small : (s : List ℕ) → ((i : ℕ) → Fits w8 (get_or s i 0)) → (at : ℕ) (l : Layout) → stored_at s at ≡ Some l → l.size ≤ 16843036
stored_small s bytes at l e = (stored_laid s (λ i. (bytes i).fits) at e).0.lies.small

-- values one after the other, of which i were passed
module _ (f : ℕ → Charge → Option Past) where
  many_one : (m : ℕ) (x : Past) → many f (suc m) (Some x) ≡ many f m (f x.next x.charge)
  unfolding many
  many_one m x = refl

  many_more : (n m : ℕ) (x : Past) {y : Option Past} → n ≡ m + 1 → f x.next x.charge ≡ y → many f n (Some x) ≡ many f m y
  many_more n m x h e = rw (h, add-one, many_one, e)

  pub many_stop : (n : ℕ) → many f n None ≡ None
  unfolding many
  many_stop zero = refl
  many_stop (suc n) = refl

  module _ (n i : ℕ) (x : Past) (h : i < n) where
    pub many_past : {y : Past} → f x.next x.charge ≡ Some y → many f (n - i) (Some x) ≡ many f (n - (i + 1)) (Some y)
    many_past e = many_more (n - i) (n - (i + 1)) x (omega arith) e

    pub many_stuck : f x.next x.charge ≡ None → many f (n - i) (Some x) ≡ None
    many_stuck e = many_more (n - i) (n - (i + 1)) x (omega arith) e ∙ many_stop (n - (i + 1))

  pub many_none : (n : ℕ) (x : Option Past) → n ≤ 0 → many f n x ≡ x
  unfolding many
  many_none n x h = let e : n ≡ 0 = omega arith in rw e

-- what may stand below a header, by the levels still allowed
deeper : List ℕ → ℕ → ℕ → Option Past → Option Past
deeper s zero n x = None
deeper s (suc l) n x = many (skip_at s l) n x

unroll : (s : List ℕ) (l at : ℕ) (c : Charge) → skip_at s l at c ≡ after (deeper s l) c (entry_at s at c)
unfolding skip_at deeper
unroll s zero at c = refl
unroll s (suc l) at c = refl

deeper_none : (s : List ℕ) (l n : ℕ) (x : Option Past) → l ≡ 0 → deeper s l n x ≡ None
unfolding deeper
deeper_none s l n x e = rw e

deeper_some : (s : List ℕ) (l n : ℕ) (x : Option Past) → (l ≡ 0 → ⊥) → deeper s l n x ≡ many (skip_at s (l - 1)) n x
unfolding deeper
deeper_some s zero n x h = absurd (h refl)
deeper_some s (suc l) n x h = rw sub-one

module _ (s : List ℕ) (l at : ℕ) (c : Charge) where
  pub skip_wrong : entry_at s at c ≡ None → skip_at s l at c ≡ None
  skip_wrong h = rw (unroll, h)

  pub skip_leaf : (next : ℕ) → entry_at s at c ≡ Some (Leaf next) → skip_at s l at c ≡ Some (past next c)
  skip_leaf next h = rw (unroll, h)

  module _ (first count : ℕ) (d : Charge) (h : entry_at s at c ≡ Some (Nest first count d)) where
    nest : skip_at s l at c ≡ deeper s l count (Some (past first d))
    nest = rw (unroll, h)

    pub skip_deep : l ≡ 0 → skip_at s l at c ≡ None
    skip_deep e = nest ∙ deeper_none s l count (Some (past first d)) e

    pub skip_nest : (l ≡ 0 → ⊥) → skip_at s l at c ≡ many (skip_at s (l - 1)) count (Some (past first d))
    skip_nest e = nest ∙ deeper_some s l count (Some (past first d)) e

-- Laws of the fields as they are gathered.
use Prim.Native.Nat.{ℕ, zero, suc, ◌+◌, ◌-◌, ◌≤◌, ◌<◌}
use mathlib.Core.Path.{◌≡◌, refl, ap, ◌∙◌}
use mathlib.Core.Bool.{Bool, true, false, ◌&&◌, and-false}
use mathlib.Core.List.{List}
use native.Mathlib.Omega.{arith}
use native.Mathlib.Numerals.{add-one}
use mir.Syntax.{w8}
use mir.Val.{Fits}
use lib.ListN.{get_or, set, take, drop}
use lib.Dec.{eqb}
use borrow.Author.Tests.{eqb-true, eqb-false}
use Rattle.std.specs.Prelude.{cond, Option, Some, None, is_some}
use Rattle.std.proofs.lemmas.Option.{none-some, same_Some}
use Rattle.charge.specs.Charge.{paid}
use Rattle.charge.specs.declared.Charge.{Charge}
use Rattle.stored.specs.Stored.{resolved_at}
use Rattle.stored.specs.declared.Layout.{Layout}
use Rattle.key.specs.Keys.{name_at}
use Rattle.key.specs.declared.Name.{Name}
use Rattle.fields.specs.Fields.{got, value_at}
use Rattle.fields.specs.declared.Got.{Got}
use Rattle.fields.proofs.FieldLaws.{resolved_lies}
use Rattle.skip.specs.Skip.{skipped_at}
use Rattle.skip.specs.declared.Past.{Past}
use Rattle.metadata.specs.Names.{field_of, want_of}
use Rattle.metadata.specs.Metadata.{key_paid, key_on, key_at, known, passed, pair_for, pair_on, pair_at, field, field_at, all_seen, whole_of, after, gather}
use Rattle.metadata.specs.declared.Key.{Key}
use Rattle.metadata.specs.declared.Pair.{Pair}
use Rattle.metadata.specs.declared.Pair.TheVariants.{Known, Other}
use Rattle.metadata.specs.declared.Field.{Field}

-- what is read is not too large to be counted twice
pub resolved_small : (s : List ℕ) → ((i : ℕ) → Fits w8 (get_or s i 0)) → (at : ℕ) (l : Layout) → resolved_at s at ≡ Some l → l.size ≤ 16843036
resolved_small s bytes at l e = (resolved_lies s bytes at l e).small

module _ (fs : List (Option Field)) where
  seen_not : (n i : ℕ) → i < n → field_at fs i ≡ None → all_seen fs n ≡ false
  unfolding all_seen
  seen_not zero i h e = absurd (omega arith)
  seen_not (suc n) i h e = pick (eqb i n) refl (λ l. seen_not n i l e)
    where
      pick : (t : Bool) → eqb i n ≡ t → (i < n → all_seen fs n ≡ false) → (is_some (field_at fs n) && all_seen fs n) ≡ false
      pick true p before = rw (← eqb-true i n p, e)
      pick false p before = let q = eqb-false i n p in rw (before (omega arith)) (and-false (is_some (field_at fs n)))

  -- a field that is missing, by its number
  pub whole_missing : (i : ℕ) → i < 9 → field_at fs i ≡ None → whole_of fs ≡ None
  unfolding whole_of
  whole_missing i h e = rw (seen_not 9 i h e)

module _ (f : ℕ → Charge → Option Pair) where
  pub gather_none : (n at : ℕ) (c : Charge) (fs : List (Option Field)) → n ≤ 0 → gather f n at c fs ≡ whole_of fs
  unfolding gather
  gather_none n at c fs h = let e : n ≡ 0 = omega arith in rw e

  gather_one : (m at : ℕ) (c : Charge) (fs : List (Option Field)) → gather f (suc m) at c fs ≡ after (gather f m) fs (f at c)
  unfolding gather
  gather_one m at c fs = refl

  gather_suc : (n m at : ℕ) (c : Charge) (fs : List (Option Field)) {x : Option Pair} → n ≡ m + 1 → f at c ≡ x → gather f n at c fs ≡ after (gather f m) fs x
  gather_suc n m at c fs h e = rw (h, add-one, gather_one, e)

  -- of n pairs, i were gathered
  module _ (n i at : ℕ) (c : Charge) (fs : List (Option Field)) (h : i < n) where
    -- a pair, and the rest
    pub gather_more : {x : Option Pair} → f at c ≡ x → gather f (n - i) at c fs ≡ after (gather f (n - (i + 1))) fs x
    gather_more e = gather_suc (n - i) (n - (i + 1)) at c fs (omega arith) e

    pub gather_known : {j : ℕ} {x : Got} → f at c ≡ Some (Known j x) → is_some (field_at fs j) ≡ false
        → gather f (n - i) at c fs ≡ gather f (n - (i + 1)) x.next x.charge (set fs j (Some (field x.value x.place)))
    gather_known e new = gather_more e ∙ rw new

    pub gather_twice : {j : ℕ} {x : Got} → f at c ≡ Some (Known j x) → is_some (field_at fs j) ≡ true → gather f (n - i) at c fs ≡ None
    gather_twice e old = gather_more e ∙ rw old

    pub gather_other : {x : Past} → f at c ≡ Some (Other x) → gather f (n - i) at c fs ≡ gather f (n - (i + 1)) x.next x.charge fs
    gather_other e = gather_more e

    pub gather_stop : f at c ≡ None → gather f (n - i) at c fs ≡ None
    gather_stop e = gather_more e

-- a key names one of the nine fields, or none
module _ (key : List ℕ) where
  one_of : (b : Bool) (i : ℕ) (x : Option ℕ) → i < 9 → ((j : ℕ) → x ≡ Some j → j < 9) → (j : ℕ) → cond b (Some i) x ≡ Some j → j < 9
  one_of true i x h rest j e = let w = same_Some i j e in omega arith
  one_of false i x h rest j e = rest j e

  pub field_small : (j : ℕ) → field_of key ≡ Some j → j < 9
  unfolding field_of
  field_small =
      one_of _ 0 _ (omega arith) (one_of _ 1 _ (omega arith) (one_of _ 2 _ (omega arith)
      (one_of _ 3 _ (omega arith) (one_of _ 4 _ (omega arith) (one_of _ 5 _ (omega arith)
      (one_of _ 6 _ (omega arith) (one_of _ 7 _ (omega arith) (one_of _ 8 None (omega arith) (λ j e. absurd (none-some j e))))))))))

-- a known pair has the number of a field, and a value of the field's kind
module _ (s : List ℕ) where
  key_paid_lem : (x : Option ℕ) (q : ℕ) (c : Option Charge) {k : Key} {i : ℕ} → ((j : ℕ) → x ≡ Some j → j < 9) → key_paid x q c ≡ Some k → k.field ≡ Some i → i < 9
  key_paid_lem x q (Some c) {k} {i} h e g = h i (ap (λ (y : Key). y.field) (same_Some _ k e) ∙ g)
  key_paid_lem x q None {k} h e g = absurd (none-some k e)

  key_on_lem : (c : Charge) (x : Option Name) {k : Key} {i : ℕ} → key_on s c x ≡ Some k → k.field ≡ Some i → i < 9
  key_on_lem c (Some x) e g = key_paid_lem (field_of (take x.size (drop x.from s))) x.next (paid c (x.size - 32)) (field_small _) e g
  key_on_lem c None {k} e g = absurd (none-some k e)

  pub key_small : (at : ℕ) (c : Charge) {k : Key} {i : ℕ} → key_at s at c ≡ Some k → k.field ≡ Some i → i < 9
  unfolding key_at
  key_small at c e g = key_on_lem c (name_at s at) e g

  pub record FieldRead (i v p : ℕ) : Type 0 where
    pub at : ℕ
    pub before : Charge
    pub next : ℕ
    pub after : Charge
    pub small : i < 9
    pub reads : value_at s (want_of i) at before ≡ Some (got v p next after)

  known_reads : (j at : ℕ) (c : Charge) (x : Option Got) {i : ℕ} {y : Got} → j < 9 → value_at s (want_of j) at c ≡ x → known j x ≡ Some (Known i y) → FieldRead i y.value y.place
  known_reads j at c (Some x) {i} {y} l g e =
      let d : Known j x ≡ Known i y = same_Some _ _ e in
      let e0 : j ≡ i = cc in
      let e1 : x ≡ y = cc in
      record { at = at; before = c; next = y.next; after = y.charge; small = rw (← e0) l; reads = rw (← e0, ← e1) g }
  known_reads j at c None l g e = absurd (none-some _ e)

  passed_none : (x : Option Past) {i : ℕ} {y : Got} → passed x ≡ Some (Known i y) → ⊥
  passed_none (Some x) {i} {y} e = let d : Other x ≡ Known i y = same_Some _ _ e in cc
  passed_none None e = none-some _ e

  pair_for_lem : (at : ℕ) (c : Charge) (f : Option ℕ) {i : ℕ} {y : Got} → ((j : ℕ) → f ≡ Some j → j < 9) → pair_for s at c f ≡ Some (Known i y) → FieldRead i y.value y.place
  pair_for_lem at c (Some j) h e = known_reads j at c (value_at s (want_of j) at c) (h j refl) refl e
  pair_for_lem at c None h e = absurd (passed_none (skipped_at s at c) e)

  pair_on_lem : (at : ℕ) (c : Charge) (k : Option Key) {i : ℕ} {y : Got} → key_at s at c ≡ k → pair_on s k ≡ Some (Known i y) → FieldRead i y.value y.place
  pair_on_lem at c (Some k) g e = pair_for_lem k.next k.charge k.field (λ j f. key_small at c g f) e
  pair_on_lem at c None g e = absurd (none-some _ e)

  pub pair_reads : (at : ℕ) (c : Charge) {i : ℕ} {y : Got} → pair_at s at c ≡ Some (Known i y) → FieldRead i y.value y.place
  unfolding pair_at
  pair_reads at c e = pair_on_lem at c (key_at s at c) refl e

  pub pair_small : (at : ℕ) (c : Charge) (i : ℕ) (x : Got) → pair_at s at c ≡ Some (Known i x) → i < 9
  pair_small at c i x e = (pair_reads at c e).small

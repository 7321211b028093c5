-- Steps into a value.
use Prim.Native.Nat.{ℕ, zero, suc, ◌-◌, ◌<◌}
use mathlib.Core.Path.{◌≡◌, refl, sym, ap, subst, ◌∙◌}
use mathlib.Core.Bool.{Bool, true, false, cond, false≢true}
use mathlib.Core.Logic.{◌⊎◌, inl, inr}
use mathlib.Core.List.{List}
use native.Mathlib.Omega.{arith}
use lib.ListN.{length, take, drop}
use lib.Dec.{ltb}
use borrow.Author.Tests.{ltb-true, ltb-false}
use Rattle.std.specs.Prelude.{Option, Some, None, Ok, Err}
use Rattle.refusal.specs.declared.Refusal.TheVariants as refusal
use Rattle.charge.specs.Charge.{paid}
use Rattle.charge.specs.declared.Charge.{Charge}
use Rattle.key.specs.Keys.{same_bytes, name, name_at}
use Rattle.key.specs.declared.Name.{Name}
use Rattle.key.proofs.KeyLaws.{same_equal, same_whole}
use Rattle.skip.specs.Skip.{past, many, skipped_at}
use Rattle.skip.specs.declared.Past.{Past}
use Rattle.handle.specs.declared.Handle.{Handle}
use Rattle.section.specs.Section.{section_of}
use Rattle.path.specs.Steps.{cursor, inside, inside_at, compared, past_value, pair_on, pair_at, sought, find_from, on_skipped, element_from, key_in, key_step, index_in, index_step}
use Rattle.path.specs.declared.Cursor.{Cursor}
use Rattle.path.specs.declared.Pair.{Pair}
use Rattle.path.specs.declared.Pair.TheVariants as pair
use Rattle.path.specs.declared.Inside.{Inside}
use Rattle.maxminddb.specs.Answers.{step_verdict}
use Rattle.maxminddb.specs.Entries.{key_of, index_of}
use Rattle.order.specs.Order.{Verdict, Exactly}
use Rattle.order.proofs.OrderLaws.{exactly}
use Rattle.promises.specs.Values.{Key, IsKey, bytes_of, Lands, Passes, Searchable, KeyStepped, Reaches, IndexStepped, step_key_table, step_index_table}
use Rattle.promises.proofs.Values.{Only14, gated_first}

-- the same property in other words
same_only : {P Q : Type 0} {v : Verdict} → (P → Q) → (Q → P) → Only14 (P → ⊥) v → Only14 (Q → ⊥) v
same_only f g (inl p) = inl ((λ q. p.0 (g q)), p.1)
same_only f g (inr p) = inr ((λ n. p.0 (λ x. n (f x))), p.1)

module _ (s key : List ℕ) where
  module _ (n place : ℕ) (c : Charge) where
    -- a place has one key
    one_key : {j k : Key} → IsKey s place c j → IsKey s place c k → j ≡ k
    one_key {j} {k} a b =
        let e = sym a.0 ∙ b.0 in
        let f : name j.from j.size j.value ≡ name k.from k.size k.value = cc in
        let m : j.size ≡ k.size = ap (λ (n : Name). n.size) f in
        let g = sym a.1 ∙ ap (paid c) m ∙ b.1 in
        let d : j.charge ≡ k.charge = cc in
        λ i. record { from = (f i).from; size = (f i).size; value = (f i).next; charge = d i }

    abbrev Says : Key → Type 0
    Says k = Lands s key k ⊎ Passes s key k (Searchable s key n)

    said : {k : Key} → IsKey s place c k → Searchable s key (suc n) place c → Says k
    said a x = subst Says (one_key x.1.0 a) x.1.1

    abbrev Found : Option Pair → Verdict
    Found x = step_verdict (sought s (find_from s key n) x)

    abbrev Goal : Verdict → Type 0
    Goal v = Only14 (Searchable s key (suc n) place c → ⊥) v

    module _ (rest : (q : ℕ) (d : Charge) → Only14 (Searchable s key n q d → ⊥) (step_verdict (find_from s key n q d))) where
      module _ (k : Key) (a : IsKey s place c k) where
        -- the value of another key
        by_skipped : (bytes_of s k ≡ key → ⊥) → (z : Option Past) → skipped_at s k.value k.charge ≡ z → Goal (Found (past_value z))
        by_skipped b (Some z) e =
            same_only {v = step_verdict (find_from s key n z.next z.charge)} (λ x. (k, (a, inr (b, (z.next, (z.charge, (e, x))))))) back (rest z.next z.charge)
          where
            on : Says k → Searchable s key n z.next z.charge
            on (inl l) = absurd (b l.0)
            on (inr p) =
                let f = sym p.1.1.1.0 ∙ e in
                let g : past p.1.0 p.1.1.0 ≡ z = cc in
                subst (λ (x : Past). Searchable s key n x.next x.charge) g p.1.1.1.1

            back : Searchable s key (suc n) place c → Searchable s key n z.next z.charge
            back x = on (said a x)
        by_skipped b None e = inl ((λ x. on (said a x)), refl)
          where
            on : Says k → ⊥
            on (inl l) = b l.0
            on (inr p) = let f = sym e ∙ p.1.1.1.0 in cc

        -- the key that is looked for
        by_landed : bytes_of s k ≡ key → (t : Bool) → ltb k.value (length s) ≡ t → Goal (step_verdict (cond t (Ok (Some (cursor k.value k.charge))) (Err refusal.Malformed)))
        by_landed b true e = inr ((λ f. f (k, (a, inl (b, ltb-true _ _ e)))), refl)
        by_landed b false e = inl ((λ x. on (said a x)), refl)
          where
            on : Says k → ⊥
            on (inl l) = let h = ltb-false k.value (length s) e in let g : k.value < length s = l.1 in omega arith
            on (inr p) = p.0 b

        by_bytes :
            (t : Bool) → same_bytes (bytes_of s k) key ≡ t
            → Goal (Found (cond t (Some (pair.Here (cursor k.value k.charge))) (past_value (skipped_at s k.value k.charge))))
        by_bytes true e = by_landed (same_equal _ _ e) (ltb k.value (length s)) refl
        by_bytes false e =
            by_skipped (λ q. false≢true (sym e ∙ ap (λ (l : List ℕ). same_bytes l key) q ∙ same_whole key)) (skipped_at s k.value k.charge) refl

      by_paid : (m : Name) → name_at s place ≡ Some m → (x : Option Charge) → paid c m.size ≡ x → Goal (Found (compared s key m.from m.size m.next x))
      by_paid m e (Some d) f =
          by_bytes (record { from = m.from; size = m.size; value = m.next; charge = d }) (e, f) (same_bytes (take m.size (drop m.from s)) key) refl
      by_paid m e None f = inl (not, refl)
        where
          not : Searchable s key (suc n) place c → ⊥
          not x =
              let g = sym e ∙ x.1.0.0 in
              let q : m ≡ name x.0.from x.0.size x.0.value = cc in
              let h = sym f ∙ ap (λ (y : Name). paid c y.size) q ∙ x.1.0.1 in
              cc

      by_name : (x : Option Name) → name_at s place ≡ x → Goal (Found (pair_on s key c x))
      by_name (Some m) e = by_paid m e (paid c m.size) refl
      by_name None e = inl ((λ x. let g = sym e ∙ x.1.0.0 in cc), refl)

  find_first : (n place : ℕ) (c : Charge) → Only14 (Searchable s key n place c → ⊥) (step_verdict (find_from s key n place c))
  unfolding find_from pair_at
  find_first zero place c = inr ((λ f. f tt), refl)
  find_first (suc n) place c = by_name n place c (find_first n) (name_at s place) refl

  key_first : (c : Cursor) → Only14 (KeyStepped s c key → ⊥) (step_verdict (key_step s c key))
  unfolding key_step
  key_first c = go (inside_at s c 7) refl
    where
      go : (x : Option Inside) → inside_at s c 7 ≡ x → Only14 (KeyStepped s c key → ⊥) (step_verdict (key_in s key x))
      go (Some i) e =
          same_only {v = step_verdict (find_from s key i.size i.first i.charge)}
          (λ x. record { first = i.first; pairs = i.size; charge = i.charge; map = e; search = x }) back (find_first i.size i.first i.charge)
        where
          back : KeyStepped s c key → Searchable s key i.size i.first i.charge
          back k =
              let f = sym k.map ∙ e in
              let g : inside k.first k.pairs k.charge ≡ i = cc in
              subst (λ (x : Inside). Searchable s key x.size x.first x.charge) g k.search
      go None e = inl ((λ k. let f = sym e ∙ k.map in cc), refl)

-- STEP BY KEY
pub step_key : (s : List ℕ) (h : Handle) (c : Cursor) (key : List ℕ) → Exactly (step_key_table s h c key) (step_verdict (key_of s h c key))
unfolding key_of
step_key s h c key = exactly (step_key_table s h c key) _ (gated_first step_verdict Err _ (λ n. refl) s h c _ (key_first (section_of s h) key c))

-- an element past so many others
module _ (s : List ℕ) (first before : ℕ) (c : Charge) where
  reach_first : Only14 (Reaches s first before c → ⊥) (step_verdict (element_from s before first c))
  reach_first = go (many (skipped_at s) before (Some (past first c))) refl
    where
      on :
          (p : Past) → many (skipped_at s) before (Some (past first c)) ≡ Some p → (t : Bool) → ltb p.next (length s) ≡ t
          → Only14 (Reaches s first before c → ⊥) (step_verdict (cond t (Ok (Some (cursor p.next p.charge))) (Err refusal.Malformed)))
      on p e true f = inr ((λ n. n (record { place = p.next; charge = p.charge; passed = e; inside = ltb-true _ _ f })), refl)
      on p e false f = inl (not, refl)
        where
          not : Reaches s first before c → ⊥
          not r =
              let g = sym e ∙ r.passed in
              let q : p ≡ past r.place r.charge = cc in
              let h : p.next ≡ r.place = ap (λ (x : Past). x.next) q in
              omega (arith, ltb-false p.next (length s) f, r.inside)

      go : (x : Option Past) → many (skipped_at s) before (Some (past first c)) ≡ x → Only14 (Reaches s first before c → ⊥) (step_verdict (on_skipped s x))
      go (Some p) e = on p e (ltb p.next (length s)) refl
      go None e = inl ((λ r. let g = sym e ∙ r.passed in cc), refl)

module _ (s : List ℕ) (c : Cursor) (index : ℕ) (backward : Bool) where
  abbrev Into : Type 0
  Into = IndexStepped s c index backward

  module _ (i : Inside) (e : inside_at s c 11 ≡ Some i) where
    abbrev before : ℕ
    before = cond backward (i.size - 1 - index) index

    back : index < i.size → Into → Reaches s i.first before i.charge
    back l k =
        let f = sym e ∙ k.array in
        let g : i ≡ inside k.first k.elements k.charge = cc in
        subst (λ (x : Inside). Reaches s x.first (cond backward (x.size - 1 - index) index) x.charge) (sym g)
        (k.reach (subst (λ (x : Inside). index < x.size) g l))

    element_first : index < i.size → Only14 (Into → ⊥) (step_verdict (element_from s before i.first i.charge))
    element_first l =
        same_only {v = step_verdict (element_from s before i.first i.charge)}
        (λ r. record { first = i.first; elements = i.size; charge = i.charge; array = e; reach = λ k. r }) (back l)
        (reach_first s i.first before i.charge)

    which :
        (b : Bool) → step_verdict (cond b (element_from s (i.size - 1 - index) i.first i.charge) (element_from s index i.first i.charge))
        ≡ step_verdict (element_from s (cond b (i.size - 1 - index) index) i.first i.charge)
    which true = refl
    which false = refl

    array_first : (t : Bool) → ltb index i.size ≡ t
        → Only14 (Into → ⊥)
        (step_verdict (cond t (cond backward (element_from s (i.size - 1 - index) i.first i.charge) (element_from s index i.first i.charge)) (Ok None)))
    array_first true f = rw (which backward) (element_first (ltb-true _ _ f))
    array_first false f =
        let l = ltb-false index i.size f in
        inr ((λ k. k (record { first = i.first; elements = i.size; charge = i.charge; array = e; reach = λ h. absurd (omega arith) })), refl)

  index_first : Only14 (Into → ⊥) (step_verdict (index_step s c index backward))
  unfolding index_step
  index_first = go (inside_at s c 11) refl
    where
      go : (x : Option Inside) → inside_at s c 11 ≡ x → Only14 (Into → ⊥) (step_verdict (index_in s index backward x))
      go (Some i) e = array_first i e (ltb index i.size) refl
      go None e = inl ((λ k. let f = sym e ∙ k.array in cc), refl)

-- STEP BY INDEX, from the start or from the end
pub step_index :
    (s : List ℕ) (h : Handle) (c : Cursor) (index : ℕ) (backward : Bool)
    → Exactly (step_index_table s h c index backward) (step_verdict (index_of s h c index backward))
unfolding index_of
step_index s h c index backward =
    exactly (step_index_table s h c index backward) _
    (gated_first step_verdict Err _ (λ n. refl) s h c _ (index_first (section_of s h) c index backward))

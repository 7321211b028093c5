-- Reading a value.
use Prim.Native.Nat.{ℕ, ◌+◌, ◌*◌}
use mathlib.Core.Path.{◌≡◌, refl, sym, subst, ◌∙◌}
use mathlib.Core.Bool.{Bool, true, false, cond, false≢true}
use mathlib.Core.Logic.{inl, inr}
use mathlib.Core.List.{List, [], ◌∷◌}
use native.Mathlib.Omega.{arith}
use lib.ListN.{length, take, drop}
use lib.Dec.{leb, ltb, eqb}
use borrow.Author.Tests.{leb-true, leb-false, ltb-true, ltb-false, eqb-true, eqb-false}
use Rattle.std.specs.Prelude.{Option, Some, None, Result, Ok, Err}
use Rattle.refusal.specs.Refusals.{number_of}
use Rattle.refusal.specs.declared.Refusal.{Refusal}
use Rattle.refusal.specs.declared.Refusal.TheVariants as refusal
use Rattle.control.specs.declared.Kind.{Kind}
use Rattle.control.specs.declared.Kind.TheVariants as kind
use Rattle.charge.specs.Charge.{most_values, most_payload, room_left, since_entry, entered, paid}
use Rattle.charge.specs.declared.Charge.{Charge}
use Rattle.stored.specs.Stored.{layout, resolved_at}
use Rattle.stored.specs.declared.Layout.{Layout}
use Rattle.text.specs.Utf8.{well_formed}
use Rattle.value.specs.Value.{if_within, value_of, on_layout, read_at}
use Rattle.value.specs.declared.Value.{Value}
use Rattle.value.specs.declared.Value.TheVariants as value
use Rattle.handle.specs.Handle.{fits_of}
use Rattle.handle.specs.declared.Handle.{Handle}
use Rattle.handle.proofs.HandleLaws.{fit, fits_of_lem}
use Rattle.section.specs.Section.{data_length, section_of, barred_of, gated}
use Rattle.path.specs.declared.Cursor.{Cursor}
use Rattle.maxminddb.specs.Answers.{read_verdict}
use Rattle.maxminddb.specs.Entries.{read_of}
use Rattle.order.specs.Order.{Verdict, Answers, Refuses, First, Exactly}
use Rattle.order.proofs.OrderLaws.{exactly}
use Rattle.promises.specs.Values.{Enterable, Payable, Allowed, Readable, value_table, read_table}

-- 14 alone
abbrev pub Only14 : Type 0 → Verdict → Type 0
Only14 P v = First ((Refuses 14, P) ∷ []) v

-- 9 and 15 come before what the entry does
pub gated_first :
    {A : Type 0} (verdict : A → Verdict) (refuse : Refusal → A) (answer : A) → ((e : Refusal) → verdict (refuse e) ≡ Refuses (number_of e))
    → (s : List ℕ) (h : Handle) (c : Cursor) (P : Type 0) → Only14 P (verdict answer)
    → First (value_table s h c P) (verdict (gated (barred_of h (length s) c.place) refuse answer))
unfolding barred_of
gated_first verdict refuse answer e s h c P f = by (fits_of h (length s)) (ltb c.place (data_length h)) refl refl
  where
    by :
        (a b : Bool) → fits_of h (length s) ≡ a → ltb c.place (data_length h) ≡ b
        → First (value_table s h c P) (verdict (gated (cond a (cond b (Ok tt) (Err refusal.Offset)) (Err refusal.Handle)) refuse answer))
    by true true p q = let k = ltb-true c.place (data_length h) q in inr ((λ n. n (fit h (length s) p)), inr ((λ l. omega arith), f))
    by true false p q = inr ((λ n. n (fit h (length s) p)), inl (ltb-false _ _ q, e refusal.Offset))
    by false b p q = inl ((λ g. false≢true (sym p ∙ fits_of_lem h (length s) g)), e refusal.Handle)

-- what is left of the limits
pub data Room (P : Type 0) (x : Option Charge) : Type 0 where
  room : (d : Charge) → P → x ≡ Some d → Room P x
  full : (P → ⊥) → x ≡ None → Room P x

pub enter : (c : Charge) (count : ℕ) → Room (Enterable c count) (entered c count)
unfolding entered
enter c count = by (leb count (room_left (since_entry c.values) most_values)) refl
  where
    by : (b : Bool) → leb count (room_left (since_entry c.values) most_values) ≡ b
        → Room (Enterable c count) (cond b (Some (record { values = since_entry c.values + count; payload = c.payload })) None)
    by true e = room _ (leb-true _ _ e) refl
    by false e = full (λ l. let k = leb-false count (room_left (since_entry c.values) most_values) e in omega arith) refl

pub pay : (c : Charge) (size : ℕ) → Room (Payable c size) (paid c size)
unfolding paid
pay c size = by (eqb c.values 0) (leb size (room_left c.payload most_payload)) refl refl
  where
    by : (a b : Bool) → eqb c.values 0 ≡ a → leb size (room_left c.payload most_payload) ≡ b
        → Room (Payable c size) (cond a (Some c) (cond b (Some (record { values = c.values; payload = c.payload + size })) None))
    by true b e f = room _ (inl (eqb-true _ _ e)) refl
    by false true e f = room _ (inr (leb-true _ _ f)) refl
    by false false e f = full not refl
      where
        not : Payable c size → ⊥
        not (inl z) = eqb-false c.values 0 e z
        not (inr l) = let k = leb-false size (room_left c.payload most_payload) f in omega arith

module _ (s : List ℕ) (place : ℕ) (c : Charge) where
  abbrev Not : Type 0
  Not = Readable s place c → ⊥

  module _ {k : Kind} {n p next : ℕ} (e : resolved_at s place ≡ Some (layout k n p next)) where
    reads : Allowed s c k n p → Readable s place c
    reads a = record { kind = k; size = n; payload = p; next = next; lies = e; allowed = a }

    cannot : (Allowed s c k n p → ⊥) → Not
    cannot f r =
        let b = sym e ∙ r.lies in
        let q : layout r.kind r.size r.payload r.next ≡ layout k n p next = cc in
        f (subst (λ (l : Layout). Allowed s c l.kind l.size l.payload) q r.allowed)

  charged_first :
      {k : Kind} {n p next : ℕ} → resolved_at s place ≡ Some (layout k n p next) → {x : Option Charge} (v : Result Value Refusal)
      → Room (Allowed s c k n p) x → read_verdict v ≡ Answers → Only14 Not (read_verdict (if_within x v))
  charged_first e v (room d a q) f = rw q (inr ((λ g. g (reads e a)), f))
  charged_first e v (full g q) f = rw q (inl (cannot e g, refl))

  text_first :
      {n p next : ℕ} → resolved_at s place ≡ Some (layout kind.Text n p next) → {x : Option Charge} → Room (Payable c n) x
      → (b : Bool) → well_formed (take n (drop p s)) ≡ b → Only14 Not (read_verdict (if_within x (cond b (Ok (value.Text n)) (Err refusal.Malformed))))
  text_first e (room d a q) true w = rw q (inr ((λ g. g (reads e (a, w))), refl))
  text_first e (room d a q) false w = rw q (inl (cannot e (λ y. false≢true (sym w ∙ y.1)), refl))
  text_first e (full g q) b w = rw q (inl (cannot e (λ y. g y.0), refl))

  kind_first : (k : Kind) (n p next : ℕ) → resolved_at s place ≡ Some (layout k n p next) → Only14 Not (read_verdict (value_of s k n p c))
  kind_first kind.Pointer n p next e = inl (cannot e (λ a. a), refl)
  kind_first kind.Text n p next e = text_first e (pay c n) (well_formed (take n (drop p s))) refl
  kind_first kind.Double n p next e = inr ((λ g. g (reads e tt)), refl)
  kind_first kind.Bytes n p next e = charged_first e (Ok (value.Bytes n)) (pay c n) refl
  kind_first kind.U16 n p next e = inr ((λ g. g (reads e tt)), refl)
  kind_first kind.U32 n p next e = inr ((λ g. g (reads e tt)), refl)
  kind_first kind.Map n p next e = charged_first e (Ok (value.Map n)) (enter c (n * 2)) refl
  kind_first kind.I32 n p next e = inr ((λ g. g (reads e tt)), refl)
  kind_first kind.U64 n p next e = inr ((λ g. g (reads e tt)), refl)
  kind_first kind.U128 n p next e = inr ((λ g. g (reads e tt)), refl)
  kind_first kind.Array n p next e = charged_first e (Ok (value.Array n)) (enter c n) refl
  kind_first kind.Boolean n p next e = inr ((λ g. g (reads e tt)), refl)
  kind_first kind.Float n p next e = inr ((λ g. g (reads e tt)), refl)
  kind_first kind.Unknown n p next e = inl (cannot e (λ a. a), refl)

  read_first : Only14 Not (read_verdict (read_at s place c))
  unfolding read_at
  read_first = go (resolved_at s place) refl
    where
      go : (l : Option Layout) → resolved_at s place ≡ l → Only14 Not (read_verdict (on_layout s c l))
      go (Some l) e = kind_first l.kind l.size l.payload l.next e
      go None e = inl ((λ r. let q = sym e ∙ r.lies in cc), refl)

-- READ
pub read : (s : List ℕ) (h : Handle) (c : Cursor) → Exactly (read_table s h c) (read_verdict (read_of s h c))
unfolding read_of
read s h c =
    exactly (read_table s h c) _
    (gated_first read_verdict Err _ (λ n. refl) s h c _ (read_first (section_of s h) c.place c.charge))

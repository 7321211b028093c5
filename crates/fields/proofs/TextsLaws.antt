-- Laws of texts one after the other: each of those that were read can be read again, and free of charge.
use Prim.Native.Nat.{ℕ, zero, suc, ◌+◌, ◌-◌, ◌≤◌, ◌<◌}
use mathlib.Core.Path.{◌≡◌, refl, sym, ap, ◌∙◌}
use mathlib.Core.List.{List}
use native.Mathlib.Omega.{arith}
use native.Mathlib.Numerals.{add-one}
use lib.ListN.{get_or, take, drop}
use borrow.Author.Tests.{eq-eqb}
use Rattle.std.specs.Prelude.{Option, Some, None}
use Rattle.std.proofs.lemmas.Option.{none-some, same_Some}
use Rattle.number.proofs.Tests.{chosen_first}
use Rattle.charge.specs.Charge.{paid}
use Rattle.charge.specs.declared.Charge.{Charge}
use Rattle.key.specs.Keys.{name_at}
use Rattle.key.specs.declared.Name.{Name}
use Rattle.text.specs.Utf8.{well_formed}
use Rattle.fields.specs.Fields.{got, text_paid, text_on, text_at, many, begin, texts_at}
use Rattle.fields.specs.declared.Got.{Got}
use Rattle.fields.proofs.FieldLaws.{many_wrong, many_join}
use Rattle.fields.proofs.ValueLaws.{Text, text_read, Texts}

module _ (s : List ℕ) where
  -- nothing has been entered, so nothing is charged
  module _ (free : Charge) (none : free.values ≡ 0) where
    -- the same value, free of charge
    abbrev freed : Got → Got
    freed x = got x.value x.place x.next free

    paid_free : (n : ℕ) → paid free n ≡ Some free
    unfolding paid
    paid_free n = simp (eq-eqb free.values 0 none)

    text_paid_free : (n q f : ℕ) (c : Option Charge) {x : Got} → text_paid n q f c ≡ Some x → text_paid n q f (paid free n) ≡ Some (freed x)
    text_paid_free n q f (Some c) {x} h = rw (paid_free, ← same_Some (got n q f c) x h)
    text_paid_free n q f None {x} h = absurd (none-some x h)

    text_on_free : (c : Charge) (x : Option Name) {y : Got} → text_on s c x ≡ Some y → text_on s free x ≡ Some (freed y)
    text_on_free c (Some x) {y} h =
        let w = chosen_first (well_formed (take x.size (drop x.from s))) (none-some y) h in
        rw w.0 (text_paid_free x.size x.from x.next (paid c x.size) w.1)
    text_on_free c None {y} h = absurd (none-some y h)

    text_free : (at : ℕ) (c : Charge) {x : Got} → text_at s at c ≡ Some x → text_at s at free ≡ Some (freed x)
    unfolding text_at
    text_free at c h = text_on_free c (name_at s at) h

    free_next :
        (n at : ℕ) (c : Charge) (x : Option Got) {z : Got}
        → ((y : Got) → many (text_at s) n (Some y) ≡ Some z → many (text_at s) n (Some (freed y)) ≡ Some (freed z))
        → text_at s at c ≡ x → many (text_at s) n x ≡ Some z → many (text_at s) n (text_at s at free) ≡ Some (freed z)
    free_next n at c (Some y) then g k = rw (text_free at c g) (then y k)
    free_next n at c None {z} then g k = absurd (none-some z (sym (many_wrong (text_at s) n) ∙ k))

    many_free : (n : ℕ) (x : Got) {z : Got} → many (text_at s) n (Some x) ≡ Some z → many (text_at s) n (Some (freed x)) ≡ Some (freed z)
    unfolding many
    many_free zero x {z} h = rw (same_Some x z h)
    many_free (suc n) x h = free_next n x.next x.charge (text_at s x.next x.charge) (λ y. many_free n y) refl h

  -- a run that succeeds has succeeded so far
  many_part : (i n : ℕ) (x : Option Got) {z : Got} → i ≤ n → many (text_at s) n x ≡ Some z → many (text_at s) i x ≡ None → ⊥
  many_part i n x {z} h g k =
      let t : i + (n - i) ≡ n = omega arith in
      none-some z (sym (many_wrong (text_at s) (n - i)) ∙ ap (many (text_at s) (n - i)) (sym k) ∙ sym (many_join (text_at s) i (n - i) x) ∙ ap (λ (j : ℕ). many (text_at s) j x) t ∙ g)

  -- the last of some texts is a text
  last_next : (n : ℕ) (x : Option Got) {z : Got} → ((y : Got) → many (text_at s) (suc n) (Some y) ≡ Some z → Text s z.value z.place)
      → many (text_at s) (suc n) x ≡ Some z → Text s z.value z.place
  unfolding many
  last_next n (Some y) then k = then y k
  last_next n None {z} then k = absurd (none-some z k)

  many_last : ((i : ℕ) → get_or s i 0 < 256) → (n : ℕ) (x : Got) {z : Got} → many (text_at s) (suc n) (Some x) ≡ Some z → Text s z.value z.place
  unfolding many
  many_last bytes zero x h = text_read s bytes x.next x.charge h
  many_last bytes (suc n) x h = last_next n (text_at s x.next x.charge) (λ y. many_last bytes n y) h

  -- of texts that were read from a place, the one at an index, read again
  pub record Again (x : Option Got) : Type 0 where
    pub last : Got
    pub is : x ≡ Some last
    pub text : Text s last.value last.place

  pub again :
      ((i : ℕ) → get_or s i 0 < 256) → (free : Charge) → free.values ≡ 0 → (n p : ℕ) → Texts s n p → (i : ℕ) → i < n
      → Again (texts_at s (i + 1) p free)
  again bytes free none n p t i h = by (texts_at s (i + 1) p t.before) refl
    where
      by : (x : Option Got) → texts_at s (i + 1) p t.before ≡ x → Again (texts_at s (i + 1) p free)
      by (Some z) g =
          record {
            last = freed free none z;
            is = many_free free none (i + 1) (begin p t.before) g;
            text = many_last bytes i (begin p t.before) (rw add-one at g);
          }
      by None g = absurd (many_part (i + 1) n _ (omega arith) t.read g)

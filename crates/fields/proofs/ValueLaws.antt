-- Laws of the value of a field: a number is small, a text lies in the section, entries are texts.
use Prim.Native.Nat.{ℕ, ◌+◌, ◌*◌, ◌^◌, ◌≤◌, ◌<◌}
use mathlib.Core.Path.{◌≡◌, refl, sym, ap, ◌∙◌}
use mathlib.Core.Bool.{true}
use mathlib.Core.List.{List}
use native.Mathlib.Omega.{arith}
use lib.ListN.{length, get_or, take, drop}
use Rattle.std.specs.Prelude.{Option, Some, None}
use Rattle.std.proofs.lemmas.Option.{none-some, same_Some}
use Rattle.number.specs.Bytes.{be_at}
use Rattle.number.proofs.ByteLaws.{be_lt, small}
use Rattle.number.proofs.Tests.{chosen_first}
use Rattle.charge.specs.Charge.{entered, paid}
use Rattle.charge.specs.declared.Charge.{Charge}
use Rattle.control.specs.Control.{type_number, is_type}
use Rattle.control.specs.declared.Kind.{Kind}
use Rattle.control.specs.declared.Kind.TheVariants as kind
use Rattle.control.proofs.KindLaws.{kind_is}
use Rattle.stored.specs.Stored.{layout, up_to, body_of, resolved_at}
use Rattle.stored.specs.declared.Layout.{Layout}
use Rattle.stored.proofs.StoredLaws.{resolved_laid, lies_up_to, lies_whole}
use Rattle.text.specs.Utf8.{well_formed}
use Rattle.key.specs.Keys.{name_at}
use Rattle.key.specs.declared.Name.{Name}
use Rattle.key.proofs.KeyLaws.{name_within}
use Rattle.skip.specs.Skip.{nested}
use Rattle.fields.specs.Fields.{got, text_paid, text_of, text_on, text_at, texts_at, closed, entries_on, value_of, value_on, value_at}
use Rattle.fields.specs.declared.Got.{Got}

module _ (s : List ℕ) where
  -- a value that was read has the kind wanted, and lies where reading found it
  pub record Found (want : Kind) (at : ℕ) (c : Charge) (x : Option Got) : Type 0 where
    pub size : ℕ
    pub payload : ℕ
    pub next : ℕ
    pub lies : resolved_at s at ≡ Some (layout want size payload next)
    pub gives : value_of s at want size payload next c ≡ x

  found_on : (want : Kind) (at : ℕ) (c : Charge) (l : Option Layout) {x : Got} → resolved_at s at ≡ l → value_on s want at c l ≡ Some x → Found want at c (Some x)
  found_on want at c (Some l) {x} g h =
      let w = chosen_first (is_type l.kind (type_number want)) (none-some x) h in
      let t : l.kind ≡ want = kind_is want l.kind w.0 in
      let y = w.1 in
      record { size = l.size; payload = l.payload; next = l.next; lies = rw (← t) g; gives = rw (← t) y }
  found_on want at c None {x} g h = absurd (none-some x h)

  pub found : (want : Kind) (at : ℕ) (c : Charge) {x : Got} → value_at s want at c ≡ Some x → Found want at c (Some x)
  unfolding value_at
  found want at c h = found_on want at c (resolved_at s at) refl h

module _ (s : List ℕ) (bytes : (i : ℕ) → get_or s i 0 < 256) (at : ℕ) (c : Charge) {x : Got} where
  -- a number of a kind that has at most so many bytes
  number_below :
      (want : Kind) (most : ℕ) → ((n q f : ℕ) → value_of s at want n q f c ≡ Some (got (be_at s q n) q f c))
      → ((n : ℕ) → body_of want n ≡ up_to most n) → value_at s want at c ≡ Some x → x.value < 2 ^ (8 * most)
  number_below want most f g h =
      let r = found s want at c h in
      let y = same_Some (got (be_at s r.payload r.size) r.payload r.next c) x (sym (f r.size r.payload r.next) ∙ r.gives) in
      let l = (resolved_laid s bytes at r.lies).0.lies in
      let z = lies_up_to most l (g r.size) in
      rw (← y) (small r.size (8 * most) (be_lt s bytes r.payload r.size) (omega (arith, z.0)))

  pub u16_below : value_at s kind.U16 at c ≡ Some x → x.value < 2 ^ 16
  u16_below h = number_below kind.U16 2 (λ n q f. refl) (λ n. refl) h

  pub u32_below : value_at s kind.U32 at c ≡ Some x → x.value < 2 ^ 32
  u32_below h = number_below kind.U32 4 (λ n q f. refl) (λ n. refl) h

  pub u64_below : value_at s kind.U64 at c ≡ Some x → x.value < 2 ^ 64
  u64_below h = number_below kind.U64 8 (λ n q f. refl) (λ n. refl) h

-- a text that was read: UTF-8 of the section's own bytes
pub record Text (s : List ℕ) (n p : ℕ) : Type 0 where
  pub inside : p + n ≤ length s
  pub utf8 : well_formed (take n (drop p s)) ≡ true

paid_is : (n q f : ℕ) (c : Option Charge) {x : Got} → text_paid n q f c ≡ Some x → (n ≡ x.value) × (q ≡ x.place)
paid_is n q f (Some c) {x} h = let e = same_Some (got n q f c) x h in (ap (λ (y : Got). y.value) e, ap (λ (y : Got). y.place) e)
paid_is n q f None {x} h = absurd (none-some x h)

text_of_lem : (s : List ℕ) (n q f : ℕ) (c : Charge) {x : Got} → q + n ≤ length s → text_of s n q f c ≡ Some x → Text s x.value x.place
text_of_lem s n q f c {x} l h =
    let w = chosen_first (well_formed (take n (drop q s))) (none-some x) h in
    let i = paid_is n q f (paid c n) w.1 in
    rw (← i.0, ← i.1) (record { inside = l; utf8 = w.0 })

text_on_lem : (s : List ℕ) → ((i : ℕ) → get_or s i 0 < 256) → (at : ℕ) (c : Charge) (x : Option Name) {y : Got}
    → name_at s at ≡ x → text_on s c x ≡ Some y → Text s y.value y.place
text_on_lem s bytes at c (Some x) g h = text_of_lem s x.size x.from x.next c (name_within s bytes at g).inside h
text_on_lem s bytes at c None {y} g h = absurd (none-some y h)

pub text_read : (s : List ℕ) → ((i : ℕ) → get_or s i 0 < 256) → (at : ℕ) (c : Charge) {x : Got} → text_at s at c ≡ Some x → Text s x.value x.place
unfolding text_at
text_read s bytes at c h = text_on_lem s bytes at c (name_at s at) refl h

-- the text of a field
pub text_field : (s : List ℕ) → ((i : ℕ) → get_or s i 0 < 256) → (at : ℕ) (c : Charge) {x : Got} → value_at s kind.Text at c ≡ Some x → Text s x.value x.place
text_field s bytes at c h =
    let r = found s kind.Text at c h in
    let l = (resolved_laid s bytes at r.lies).0.lies in
    text_of_lem s r.size r.payload r.next c (lies_whole l refl) r.gives

-- texts that were read, so many from a place
pub record Texts (s : List ℕ) (n p : ℕ) : Type 0 where
  pub before : Charge
  pub last : Got
  pub read : texts_at s n p before ≡ Some last

closed_texts : (s : List ℕ) (at size n q : ℕ) (c : Charge) (x : Option Got) {y : Got}
    → texts_at s n q c ≡ x → closed s at size q x ≡ Some y → Texts s n y.place × (size ≡ y.value)
closed_texts s at size n q c (Some x) {y} g h =
    let e = same_Some _ y h in
    (rw (← ap (λ (z : Got). z.place) e) (record { before = c; last = x; read = g }), ap (λ (z : Got). z.value) e)
closed_texts s at size n q c None {y} g h = absurd (none-some y h)

nested_texts : (s : List ℕ) (at size n q : ℕ) (c : Option Charge) {x : Got}
    → entries_on s at size (nested q n c) ≡ Some x → Texts s n x.place × (size ≡ x.value)
nested_texts s at size n q (Some c) h = closed_texts s at size n q c (texts_at s n q c) refl h
nested_texts s at size n q None {x} h = absurd (none-some x h)

-- the entries of an array, and of a map
pub array_field : (s : List ℕ) (at : ℕ) (c : Charge) {x : Got} → value_at s kind.Array at c ≡ Some x → Texts s x.value x.place
array_field s at c h =
    let r = found s kind.Array at c h in
    let n = nested_texts s at r.size r.size r.payload (entered c r.size) r.gives in
    rw (← n.1) n.0

pub map_field : (s : List ℕ) (at : ℕ) (c : Charge) {x : Got} → value_at s kind.Map at c ≡ Some x → Texts s (x.value * 2) x.place
map_field s at c h =
    let r = found s kind.Map at c h in
    let n = nested_texts s at r.size (r.size * 2) r.payload (entered c (r.size * 2)) r.gives in
    rw (← n.1) n.0

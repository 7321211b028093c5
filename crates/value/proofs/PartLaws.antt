-- Laws of parts: what is handed out lies in the section.
use Prim.Native.Nat.{ℕ, ◌+◌, ◌*◌, ◌≤◌}
use mathlib.Core.Path.{◌≡◌, refl, sym, ap, ◌∙◌}
use mathlib.Core.List.{List, []}
use mathlib.Core.Bool.{Bool, true, false, cond}
use native.Mathlib.Nat.{add-zero}
use native.Mathlib.Omega.{arith}
use lib.ListN.{length, get_or, take, drop}
use mir.Syntax.{w8}
use mir.Val.{Fits}
use Rattle.std.specs.Borrow.{Bor}
use Rattle.std.specs.Prelude.{Option, Some, None, Result, Ok, Err, unwrap_or}
use Rattle.std.proofs.lemmas.Option.{none-some, same_Some}
use Rattle.refusal.specs.declared.Refusal.{Refusal}
use Rattle.charge.specs.Charge.{paid, entered}
use Rattle.charge.specs.declared.Charge.{Charge}
use Rattle.control.specs.declared.Kind.{Kind}
use Rattle.control.specs.declared.Kind.TheVariants as kind
use Rattle.stored.specs.Stored.{Lies, resolved_at}
use Rattle.stored.specs.declared.Layout.{Layout}
use Rattle.stored.proofs.StoredLaws.{lies_whole, resolved_laid}
use Rattle.text.specs.Utf8.{well_formed}
use Rattle.value.specs.Value.{if_within, value_of, on_layout, read_at}
use Rattle.value.specs.Parts.{size_of, size_read, payload_of, span_of, part_at, or_nothing, spanned, parts}
use Rattle.value.specs.declared.Value.{Value}
use Rattle.value.specs.declared.Value.TheVariants.{Map, Array, Text, Bytes}

-- a limit does not change what is read
through : (b : Bool) (c : Option Charge) (v : Result Value Refusal) {n : ℕ} → size_read b (if_within c v) ≡ Some n → size_read b v ≡ Some n
through b (Some c) v e = e
through b None v e = absurd (none-some _ e)

text_size : (b w : Bool) (m : ℕ) (r : Refusal) {n : ℕ} → size_read b (cond w (Ok (Text m)) (Err r)) ≡ Some n → m ≡ n
text_size true true m r e = absurd (none-some _ e)
text_size false true m r e = same_Some _ _ e
text_size b false m r e = absurd (none-some _ e)

bytes_size : (b : Bool) (m : ℕ) {n : ℕ} → size_of b (Bytes m) ≡ Some n → m ≡ n
bytes_size true m e = same_Some _ _ e
bytes_size false m e = absurd (none-some _ e)

-- the part of a text or bytes is the whole payload
pub part_inside : {len : ℕ} (s : List ℕ) (k : Kind) (m p : ℕ) (c : Charge) (b : Bool) {n : ℕ} → Lies len k m p
    → size_read b (value_of s k m p c) ≡ Some n → p + n ≤ len
part_inside s kind.Pointer m p c b l e = absurd (none-some _ e)
part_inside s kind.Text m p c b l e =
    let f = text_size b (well_formed (take m (drop p s))) m _ (through b (paid c m) _ e) in
    omega (arith, f, lies_whole l refl)
part_inside s kind.Double m p c b l e = absurd (none-some _ e)
part_inside s kind.Bytes m p c b l e =
    let f = bytes_size b m (through b (paid c m) (Ok (Bytes m)) e) in
    omega (arith, f, lies_whole l refl)
part_inside s kind.U16 m p c b l e = absurd (none-some _ e)
part_inside s kind.U32 m p c b l e = absurd (none-some _ e)
part_inside s kind.Map m p c b l e = absurd (none-some _ (through b (entered c (m * 2)) (Ok (Map m)) e))
part_inside s kind.I32 m p c b l e = absurd (none-some _ e)
part_inside s kind.U64 m p c b l e = absurd (none-some _ e)
part_inside s kind.U128 m p c b l e = absurd (none-some _ e)
part_inside s kind.Array m p c b l e = absurd (none-some _ (through b (entered c m) (Ok (Array m)) e))
part_inside s kind.Boolean m p c b l e = absurd (none-some _ e)
part_inside s kind.Float m p c b l e = absurd (none-some _ e)
part_inside s kind.Unknown m p c b l e = absurd (none-some _ e)

-- what a place leads to lies in the section
pub resolved_lies : (s : List ℕ) → ((i : ℕ) → Fits w8 (get_or s i 0)) → (at : ℕ) (l : Layout) → resolved_at s at ≡ Some l → Lies (length s) l.kind l.size l.payload
resolved_lies s bytes at l f = (resolved_laid s (λ i. (bytes i).fits) at {k = l.kind} {n = l.size} {q = l.payload} {e = l.next} f).0.lies

on_within : (s : List ℕ) → ((i : ℕ) → Fits w8 (get_or s i 0)) → (at : ℕ) (c : Charge) (b : Bool) {n : ℕ} (x : Option Layout) → resolved_at s at ≡ x
    → size_read b (on_layout s c x) ≡ Some n → payload_of x + n ≤ length s
on_within s bytes at c b (Some l) f g = part_inside s l.kind l.size l.payload c b (resolved_lies s bytes at l f) g
on_within s bytes at c b None f g = absurd (none-some _ g)

-- what reading finds lies in the section
pub part_within : (s : List ℕ) → ((i : ℕ) → Fits w8 (get_or s i 0)) → (at : ℕ) (c : Charge) (b : Bool) {n : ℕ} → size_read b (read_at s at c) ≡ Some n
    → payload_of (resolved_at s at) + n ≤ length s
unfolding read_at
part_within s bytes at c b g = on_within s bytes at c b (resolved_at s at) refl g

spanned_within : (p len : ℕ) (x : Option ℕ) {y : ℕ × ℕ} → ((n : ℕ) → x ≡ Some n → p + n ≤ len) → span_of p x ≡ Some y → y.0 + y.1 ≤ len
spanned_within p len (Some n) {y} l e =
    let same = same_Some (p, n) y e in
    omega (arith, l n refl, ap (λ (z : ℕ × ℕ). z.0) same, ap (λ (z : ℕ × ℕ). z.1) same)
spanned_within p len None l e = absurd (none-some _ e)

-- so does the part that is handed out
pub part_ends : (s : List ℕ) → ((i : ℕ) → Fits w8 (get_or s i 0)) → (at : ℕ) (c : Charge) (b : Bool) (x : ℕ × ℕ) → part_at s at c b ≡ Some x → x.0 + x.1 ≤ length s
unfolding part_at
part_ends s bytes at c b x e = spanned_within (payload_of (resolved_at s at)) (length s) (size_read b (read_at s at c)) (λ n g. part_within s bytes at c b g) e

-- no part: the first 0 bytes, where what was lent starts
pub no_part : (s : List ℕ) (x q : ℕ × ℕ) → x ≡ (0, 0) → (◌≡◌ {A = List ℕ} [] (spanned s x)) × (◌≡◌ {A = ℕ × ℕ} q (q.0, q.1 + x.0))
no_part s x q e = (ap (spanned s) (sym e), ap (λ (j : ℕ). (q.0, j)) (sym (add-zero q.1) ∙ ap (λ (y : ℕ × ℕ). q.1 + y.0) (sym e)))

kept : (s : Bor (List ℕ)) (x : Option (ℕ × ℕ)) (z : Bor (List ℕ)) → z.now ≡ [] → z.ref_ptr ≡ s.ref_ptr
    → ((unwrap_or (parts s x) z).now ≡ spanned s.now (or_nothing x)) × ((unwrap_or (parts s x) z).ref_ptr ≡ (s.ref_ptr.0, s.ref_ptr.1 + (or_nothing x).0))
kept s (Some x) z e f = (refl, refl)
kept s None z e f =
    let n = no_part s.now (0, 0) s.ref_ptr refl in
    (e ∙ n.0, f ∙ n.1)

-- what is handed out is the part, or the first 0 bytes of what was lent
pub handed_out : (s : Bor (List ℕ)) (x : Option (ℕ × ℕ)) {o : Option (Bor (List ℕ))} {z r : Bor (List ℕ)}
    → o ≡ parts s x → r ≡ unwrap_or o z → z.now ≡ [] → z.ref_ptr ≡ s.ref_ptr
    → (r.now ≡ spanned s.now (or_nothing x)) × (r.ref_ptr ≡ (s.ref_ptr.0, s.ref_ptr.1 + (or_nothing x).0))
handed_out s x {o} {z} {r} d e f g = rw (e, d) (kept s x z f g)

-- Laws of how a value lies: its payload is inside the section, and what follows is past it.
use Prim.Native.Nat.{ℕ, ◌+◌, ◌≤◌, ◌<◌}
use mathlib.Core.Path.{◌≡◌, refl, sym, ap, ◌∙◌}
use mathlib.Core.List.{List}
use mathlib.Core.Bool.{false}
use mathlib.Core.Logic.{⊎_elim}
use lib.ListN.{length, get_or}
use lib.Dec.{leb, eqb}
use native.Mathlib.Omega.{arith}
use borrow.Author.Tests.{leb-true, eqb-true}
use Rattle.number.proofs.Tests.{chosen}
use Rattle.control.specs.Control.{head_at, is_pointer}
use Rattle.control.specs.Pointers.{link_at}
use Rattle.control.specs.declared.Kind.{Kind}
use Rattle.control.specs.declared.Head.{Head}
use Rattle.control.specs.declared.Link.{Link}
use Rattle.control.proofs.ControlLaws.{head_within, link_after}
use Rattle.std.specs.Prelude.{Option, Some, None}
use Rattle.std.proofs.lemmas.Option.{none-some, same_Some, cond_some}
use Rattle.stored.specs.Stored.{layout, up_to, exactly, body_of, placed_at, on_head, lying_at, stored_at, on_target, on_link, on_stored, resolved_at}
use Rattle.stored.specs.Stored.{Lies}
use Rattle.stored.specs.declared.Layout.{Layout}

-- two layouts that are one have one kind, size, payload and end
pub same_layout : {k k' : Kind} {n n' q q' e e' : ℕ} → Some (layout k n q e) ≡ Some (layout k' n' q' e')
    → (k ≡ k') × (n ≡ n') × (q ≡ q') × (e ≡ e')
same_layout {k} {k'} {n} {n'} {q} {q'} {e} {e'} p =
    let h = same_Some (layout k n q e) (layout k' n' q' e') p in
    (ap (λ (x : Layout). x.kind) h, ap (λ (x : Layout). x.size) h, ap (λ (x : Layout). x.payload) h, ap (λ (x : Layout). x.next) h)

-- what lies from p on, and what follows it
pub record Laid (length p : ℕ) (k : Kind) (n q e : ℕ) : Type 0 where
  pub lies : Lies length k n q
  pub after : p < e
  pub end : e ≤ length

placed_laid : (s : List ℕ) (p : ℕ) (k : Kind) (n q : ℕ) (b : Option ℕ) {k' : Kind} {n' q' e : ℕ} → n ≤ 16843036 → p < q
    → body_of k n ≡ b → placed_at s k n q b ≡ Some (layout k' n' q' e) → (Laid (length s) p k' n' q' e) × (p < q')
placed_laid s p k n q (Some t) {k'} {n'} {q'} {e} small h f g =
    let c = cond_some (leb (q + t) (length s)) (layout k n q (q + t)) (layout k' n' q' e) g in
    let d = same_layout {k = k} {n = n} {q = q} {e = q + t} (ap Some c.1) in
    let fits : q + t ≤ length s = leb-true (q + t) (length s) c.0 in
    let b : body_of k' n' ≡ Some t = rw (d.0, d.1) at f in
    (record { lies = record { takes = t; body = b; inside = omega arith; small = omega arith }; after = omega arith; end = omega arith }, omega arith)
placed_laid s p k n q None small h f g = absurd (none-some _ g)

module _ (s : List ℕ) (bytes : (i : ℕ) → get_or s i 0 < 256) where
  head_laid : (p : ℕ) (h : Option Head) {k : Kind} {n q e : ℕ} → head_at s p ≡ h → on_head s h ≡ Some (layout k n q e)
      → (Laid (length s) p k n q e) × (p < q)
  unfolding lying_at
  head_laid p (Some h) f g =
      let w = head_within s bytes p f in
      placed_laid s p h.kind h.size h.payload (body_of h.kind h.size) w.small (omega (arith, w.after)) refl g
  head_laid p None f g = absurd (none-some _ g)

  -- what lies at a place: its payload begins past the place
  pub stored_laid : (p : ℕ) {k : Kind} {n q e : ℕ} → stored_at s p ≡ Some (layout k n q e) → (Laid (length s) p k n q e) × (p < q)
  unfolding stored_at
  stored_laid p g = head_laid p (head_at s p) refl g

  target_laid : (p past t : ℕ) (x : Option Layout) {k : Kind} {n q e : ℕ} → p < past → past ≤ length s → stored_at s t ≡ x
      → on_target past x ≡ Some (layout k n q e) → (Laid (length s) p k n q e) × (is_pointer k ≡ false)
  target_laid p past t (Some l) {k} {n} {q} {e} h m f g =
      ⊎_elim
      (λ c. absurd (none-some _ c.1))
      (λ c. let d = same_layout {k = l.kind} {n = l.size} {q = l.payload} {e = past} c.1 in
      let u : stored_at s t ≡ Some (layout k n q l.next) = rw (d.0, d.1, d.2) at f in
      let v : is_pointer k ≡ false = rw d.0 at c.0 in
      (record { lies = (stored_laid t u).0.lies; after = omega arith; end = omega arith }, v))
      (chosen (is_pointer l.kind) g)
  target_laid p past t None h m f g = absurd (none-some _ g)

  link_laid : (p q₀ n₀ : ℕ) (x : Option Link) {k : Kind} {n q e : ℕ} → p < q₀ → link_at s n₀ q₀ ≡ x
      → on_link s x ≡ Some (layout k n q e) → (Laid (length s) p k n q e) × (is_pointer k ≡ false)
  link_laid p q₀ n₀ (Some l) h f g =
      let a = link_after s n₀ q₀ f in
      target_laid p l.next l.target (stored_at s l.target) (omega (arith, a.0)) a.1 refl g
  link_laid p q₀ n₀ None h f g = absurd (none-some _ g)

  on_laid : (p : ℕ) (x : Option Layout) {k : Kind} {n q e : ℕ} → stored_at s p ≡ x → on_stored s x ≡ Some (layout k n q e)
      → (Laid (length s) p k n q e) × (is_pointer k ≡ false)
  on_laid p (Some l) {k} {n} {q} {e} f g =
      ⊎_elim
      (λ c. link_laid p l.payload l.size (link_at s l.size l.payload) (stored_laid p f).1 refl c.1)
      (λ c. let u : stored_at s p ≡ Some (layout k n q e) = f ∙ c.1 in
      let v : is_pointer k ≡ false = rw ((same_layout {k = l.kind} {n = l.size} {q = l.payload} {e = l.next} c.1).0) at c.0 in
      ((stored_laid p u).0, v))
      (chosen (is_pointer l.kind) g)
  on_laid p None f g = absurd (none-some _ g)

  -- what a place leads to is no pointer, and lies in the section; what follows begins past the place
  pub resolved_laid : (p : ℕ) {k : Kind} {n q e : ℕ} → resolved_at s p ≡ Some (layout k n q e)
      → (Laid (length s) p k n q e) × (is_pointer k ≡ false)
  unfolding resolved_at
  resolved_laid p g = on_laid p (stored_at s p) refl g

-- a number of at most so many bytes
pub lies_up_to : {len : ℕ} {k : Kind} {n q : ℕ} (most : ℕ) → Lies len k n q → body_of k n ≡ up_to most n → (n ≤ most) × (q + n ≤ len)
lies_up_to {len} {k} {n} {q} most l e =
    let c = cond_some (leb n most) n l.takes (sym e ∙ l.body) in
    (leb-true n most c.0, omega (arith, l.inside))

-- a number of exactly so many bytes
pub lies_exactly : {len : ℕ} {k : Kind} {n q : ℕ} (bytes : ℕ) → Lies len k n q → body_of k n ≡ exactly bytes n → q + bytes ≤ len
lies_exactly {len} {k} {n} {q} bytes l e =
    let c = cond_some (eqb n bytes) n l.takes (sym e ∙ l.body) in
    omega (arith, l.inside, eqb-true n bytes c.0)

-- a text or bytes
pub lies_whole : {len : ℕ} {k : Kind} {n q : ℕ} → Lies len k n q → body_of k n ≡ Some n → q + n ≤ len
lies_whole {len} {k} {n} {q} l e =
    let t = same_Some n l.takes (sym e ∙ l.body) in
    omega (arith, l.inside)

-- Laws of keys and of lists of bytes that are the same.
use Prim.Native.Nat.{ℕ, ◌+◌, ◌≤◌, ◌<◌}
use mathlib.Core.Path.{◌≡◌, refl, ap}
use mathlib.Core.Bool.{true}
use mathlib.Core.List.{List}
use mir.Syntax.{w8}
use mir.Val.{Fits}
use lib.ListN.{length, get_or}
use Rattle.std.specs.Prelude.{Option, Some, None, Decides, bytes_eq}
use Rattle.std.proofs.lemmas.Option.{none-some, cond_some}
use Rattle.std.proofs.lemmas.Bool.Decides.{same_from_decides}
use Rattle.std.proofs.lemmas.Slice.Eq.{bytes_eq-Decides, compares_Decides}
use Rattle.control.specs.Control.{is_type}
use Rattle.control.specs.declared.Kind.{Kind}
use Rattle.control.specs.declared.Kind.TheVariants as kind
use Rattle.control.proofs.KindLaws.{kind_is}
use Rattle.stored.specs.Stored.{body_of, resolved_at}
use Rattle.stored.specs.declared.Layout.{Layout}
use Rattle.stored.proofs.StoredLaws.{resolved_laid, lies_whole}
use Rattle.key.specs.Keys.{same_bytes, name, name_on, name_at}
use Rattle.key.specs.declared.Name.{Name}

-- they are the same exactly if they are equal
same_decides : (x y : List ℕ) → Decides (same_bytes x y) (x ≡ y)
unfolding same_bytes
same_decides = compares_Decides same_bytes (record { empty = refl; shorter = λ y ys. refl; longer = λ x xs. refl; heads = λ x y xs ys. refl })

pub same_equal : (x y : List ℕ) → same_bytes x y ≡ true → x ≡ y
same_equal x y = (same_decides x y).0

pub same_whole : (x : List ℕ) → same_bytes x x ≡ true
same_whole x = (same_decides x x).1 refl

-- what `==` says of two slices
pub same_compared : (x y : List ℕ) → bytes_eq x y ≡ same_bytes x y
same_compared x y = same_from_decides (bytes_eq x y) (same_bytes x y) (bytes_eq-Decides x y) (same_decides x y)

-- a key's bytes lie in the section, and its value begins past the key
pub record Named (length at p n e : ℕ) : Type 0 where
  pub inside : p + n ≤ length
  pub small : n ≤ 16843036
  pub after : at < e
  pub end : e ≤ length

name_on_lem : (s : List ℕ) → ((i : ℕ) → get_or s i 0 < 256) → (at : ℕ) (x : Option Layout) {y : Name} → resolved_at s at ≡ x → name_on x ≡ Some y → Named (length s) at y.from y.size y.next
name_on_lem s bytes at (Some l) {y} g h =
    let c = cond_some (is_type l.kind 2) (name l.payload l.size l.next) y h in
    let r = (resolved_laid s bytes at g).0 in
    let t = lies_whole r.lies (ap (λ (k : Kind). body_of k l.size) (kind_is kind.Text l.kind c.0)) in
    rw (← c.1) (record { inside = t; small = r.lies.small; after = r.after; end = r.end })
name_on_lem s bytes at None {y} g h = absurd (none-some y h)

pub name_within : (s : List ℕ) → ((i : ℕ) → get_or s i 0 < 256) → (at : ℕ) {x : Name} → name_at s at ≡ Some x → Named (length s) at x.from x.size x.next
unfolding name_at
name_within s bytes at h = name_on_lem s bytes at (resolved_at s at) refl h

pub name_inside : (s : List ℕ) → ((i : ℕ) → Fits w8 (get_or s i 0)) → (at : ℕ) (x : Name) → name_at s at ≡ Some x → x.from + x.size ≤ length s
name_inside s bytes at x e = (name_within s (λ i. (bytes i).fits) at {x = x} e).inside

-- Texts and bytes as parts of the image.
use Prim.Native.Nat.{ℕ, ◌+◌, ◌≤◌}
use mathlib.Core.Path.{◌≡◌, refl, sym, ap, ◌∙◌}
use mathlib.Core.Bool.{Bool, true, false}
use mathlib.Core.List.{List}
use native.Mathlib.Omega.{arith}
use lib.ListN.{length}
use Rattle.std.specs.Prelude.{Option, Some, None, Result, Ok, Err}
use Rattle.refusal.specs.declared.Refusal.{Refusal}
use Rattle.stored.specs.Stored.{resolved_at}
use Rattle.value.specs.Value.{read_at}
use Rattle.value.specs.Parts.{size_of, size_read, payload_of}
use Rattle.value.specs.declared.Value.{Value}
use Rattle.value.specs.declared.Value.TheVariants as value
use Rattle.handle.specs.declared.Handle.{Handle}
use Rattle.handle.proofs.HandleLaws.{fit}
use Rattle.section.specs.Section.{section_of, barred_of, gated}
use Rattle.section.proofs.SectionLaws.{free}
use Rattle.path.specs.declared.Cursor.{Cursor}
use Rattle.maxminddb.specs.Entries.{read_of, placed, part_of}
use Rattle.promises.specs.Parts.{Gives, sized, Reads, Payload}

-- what has a size is a text, or bytes
sized_of : (bytes : Bool) (v : Result Value Refusal) (n : ℕ) → size_read bytes v ≡ Some n → v ≡ Ok (sized bytes n)
sized_of bytes (Ok (value.Map k)) n e = cc
sized_of bytes (Ok (value.Array k)) n e = cc
sized_of true (Ok (value.Text k)) n e = cc
sized_of false (Ok (value.Text k)) n e = cc
sized_of true (Ok (value.Bytes k)) n e = cc
sized_of false (Ok (value.Bytes k)) n e = cc
sized_of bytes (Ok (value.U16 k)) n e = cc
sized_of bytes (Ok (value.U32 k)) n e = cc
sized_of bytes (Ok (value.U64 k)) n e = cc
sized_of bytes (Ok (value.U128 k l)) n e = cc
sized_of bytes (Ok (value.I32 k)) n e = cc
sized_of bytes (Ok (value.Boolean k)) n e = cc
sized_of bytes (Ok (value.Double k l)) n e = cc
sized_of bytes (Ok (value.Float k l)) n e = cc
sized_of bytes (Err r) n e = cc

size_of_lem : (bytes : Bool) (n : ℕ) → size_of bytes (sized bytes n) ≡ Some n
size_of_lem true n = refl
size_of_lem false n = refl

module _ (s : List ℕ) (h : Handle) (c : Cursor) (bytes : Bool) where
  some : (r : Reads s h c bytes) → Payload s h c bytes r (part_of s h c bytes)
  unfolding part_of
  some r = simp (r.is, size_of_lem bytes r.size)

  -- the data section never starts at 0
  based : Reads s h c bytes → 16 ≤ h.base
  unfolding read_of
  based r = by (barred_of h (length s) c.place) refl r.is
    where
      by :
          (x : Result (Unit {0}) Refusal) → barred_of h (length s) c.place ≡ x
          → gated x Err (read_at (section_of s h) c.place c.charge) ≡ Ok (sized bytes r.size) → 16 ≤ h.base
      by (Ok passed) e f = omega (arith, (fit h (length s) (free h (length s) c.place e).0).based)
      by (Err n) e f = cc

  nothing : (Reads s h c bytes → ⊥) → part_of s h c bytes ≡ (0, 0)
  unfolding part_of
  nothing n = by (size_read bytes (read_of s h c)) refl
    where
      by : (x : Option ℕ) → size_read bytes (read_of s h c) ≡ x → placed (h.base + payload_of (resolved_at (section_of s h) c.place)) x ≡ (0, 0)
      by (Some k) e = absurd (n (record { size = k; is = sized_of bytes (read_of s h c) k e }))
      by None e = refl

  -- TEXT AND BYTES
  pub part : Gives (Reads s h c bytes) (Payload s h c bytes) (part_of s h c bytes)
  part =
      record {
        some = some;
        none = (
          (λ e r. let z : h.base + payload_of (resolved_at (section_of s h) c.place) ≡ 0 = ap (λ (x : ℕ × ℕ). x.0) (sym (some r) ∙ e) in omega (arith, based r)),
          nothing,
        );
      }

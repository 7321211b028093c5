-- Where a part lies that reading finds.
use Prim.Native.Nat.{ℕ, ◌+◌, ◌≤◌, ◌<◌}
use mathlib.Core.Path.{◌≡◌, refl}
use mathlib.Core.Bool.{Bool}
use mathlib.Core.List.{List}
use native.Mathlib.Omega.{arith}
use lib.ListN.{length, get_or}
use mir.Syntax.{w8}
use mir.Val.{Fits}
use Rattle.std.specs.Prelude.{Option, Some, None, Ok, option_map}
use Rattle.handle.specs.Handle.{image_bound}
use Rattle.handle.specs.declared.Handle.{Handle}
use Rattle.handle.proofs.HandleLaws.{Fit, fit}
use Rattle.section.specs.Section.{section_of, barred_of}
use Rattle.section.proofs.SectionLaws.{free, section_length, section_bytes}
use Rattle.stored.specs.Stored.{resolved_at}
use Rattle.value.specs.Value.{read_at}
use Rattle.value.specs.Parts.{size_read, payload_of, span_of, part_at}
use Rattle.value.proofs.PartLaws.{part_ends}
use Rattle.path.specs.declared.Cursor.{Cursor}
use Rattle.maxminddb.specs.Entries.{read_of, part_found}

-- counted from the image's first byte
abbrev pub from_image : ℕ → ℕ × ℕ → ℕ × ℕ
from_image base x = (base + x.0, x.1)

moved : (base p : ℕ) (x : Option ℕ) → span_of (base + p) x ≡ option_map (from_image base) (span_of p x)
moved base p (Some n) = refl
moved base p None = refl

module _ (image : List ℕ) (h : Handle) (c : Cursor) (b : Bool) (unbarred : barred_of h (length image) c.place ≡ Ok tt) where
  pub part_from_image : part_found image h c b ≡ option_map (from_image h.base) (part_at (section_of image h) c.place c.charge b)
  unfolding part_found read_of part_at
  part_from_image = rw unbarred (moved h.base (payload_of (resolved_at (section_of image h) c.place)) (size_read b (read_at (section_of image h) c.place c.charge)))

  pub part_inside : ((i : ℕ) → Fits w8 (get_or image i 0)) → (x : ℕ × ℕ) → part_at (section_of image h) c.place c.charge b ≡ Some x → h.base + x.0 ≤ image_bound
  part_inside bytes x e =
      let f : Fit h (length image) = fit h (length image) (free h (length image) c.place unbarred).0 in
      let w = part_ends (section_of image h) (section_bytes image h bytes) c.place c.charge b x e in
      omega (arith, w, section_length image h, f.marked, f.whole, f.short)

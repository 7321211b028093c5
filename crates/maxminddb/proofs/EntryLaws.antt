-- Laws of the entries: a part of the data section is a part of the image, and what a lookup depends on.
use Prim.Native.Nat.{ℕ, ◌+◌, ◌*◌, ◌/◌}
use mathlib.Core.Path.{◌≡◌, refl}
use mathlib.Core.Bool.{Bool, true, false, cond}
use mathlib.Core.List.{List, []}
use native.Mathlib.Nat.{add_assoc}
use native.Mathlib.Omega.{arith}
use lib.ListN.{length, get_or}
use Rattle.std.specs.Prelude.{Option, Some, None, Result, Ok, Err, unwrap_or}
use mir.Syntax.{w8}
use mir.Val.{Fits}
use Rattle.std.specs.Borrow.{Bor}
use Rattle.refusal.specs.declared.Refusal.{Refusal}
use Rattle.refusal.specs.declared.Refusal.TheVariants as refusal
use Rattle.handle.specs.Handle.{fits_of}
use Rattle.handle.specs.declared.Handle.{Handle}
use Rattle.handle.proofs.HandleLaws.{Fit, fit}
use Rattle.tree.proofs.RecordLaws.{Same}
use Rattle.lookup.specs.Lookup.{asked_of, Fitting}
use Rattle.lookup.specs.declared.Address.{Address}
use Rattle.lookup.specs.declared.Way.{Way}
use Rattle.lookup.proofs.LookupLaws.{asked_fitting, found_same}
use Rattle.section.specs.Section.{section_of, barred_of, lent_section}
use Rattle.section.proofs.SectionLaws.{part_of_image, section_length, section_bytes}
use Rattle.stored.specs.Stored.{resolved_at}
use Rattle.value.specs.Value.{read_at}
use Rattle.value.specs.Parts.{size_read, payload_of, span_of, part_at, parts, spanned}
use Rattle.value.proofs.PartLaws.{part_within, handed_out}
use Rattle.path.specs.declared.Cursor.{Cursor}
use Rattle.maxminddb.specs.Entries.{on_asked, lookup_of, part_found, placed, part_of, read_of}

-- the section's part, seen from the image
lent : (image : Bor (List ℕ)) (h : Handle) (p : ℕ) (x : Option ℕ)
    → ((n : ℕ) → x ≡ Some n → spanned (section_of image.now h) (p, n) ≡ spanned image.now (h.base + p, n))
    → parts (lent_section image h) (span_of p x) ≡ parts image (span_of (h.base + p) x)
lent image h p (Some n) g = simp (g n refl, add_assoc)
lent image h p None g = refl

module _ (image : List ℕ) (bytes : (i : ℕ) → Fits w8 (get_or image i 0)) (h : Handle) (c : Cursor) (b : Bool) where
  part_seen : {n : ℕ} → size_read b (read_at (section_of image h) c.place c.charge) ≡ Some n
      → spanned (section_of image h) (payload_of (resolved_at (section_of image h) c.place), n) ≡ spanned image (h.base + payload_of (resolved_at (section_of image h) c.place), n)
  part_seen {n} e =
      let l = part_within (section_of image h) (section_bytes image h bytes) c.place c.charge b e in
      part_of_image image h (payload_of (resolved_at (section_of image h) c.place)) n (omega (arith, l, section_length image h))

-- what is handed out of the section is a part of the image
pub lent_part : (image : Bor (List ℕ)) → ((i : ℕ) → Fits w8 (get_or image.now i 0)) → (h : Handle) (c : Cursor) (b : Bool) → barred_of h (length image.now) c.place ≡ Ok tt
    → parts (lent_section image h) (part_at (section_of image.now h) c.place c.charge b) ≡ parts image (part_found image.now h c b)
unfolding part_at part_found read_of
lent_part image bytes h c b free =
    rw free (lent image h (payload_of (resolved_at (section_of image.now h) c.place)) (size_read b (read_at (section_of image.now h) c.place c.charge)) (λ n g. part_seen image.now bytes h c b g))

-- no part where reading is barred
pub part_barred : (image : List ℕ) (h : Handle) (c : Cursor) (b : Bool) (r : Refusal) → barred_of h (length image) c.place ≡ Err r → part_of image h c b ≡ (0, 0)
unfolding part_of read_of
part_barred image h c b r e = rw e

pub found_barred : (image : List ℕ) (h : Handle) (c : Cursor) (b : Bool) (r : Refusal) → barred_of h (length image) c.place ≡ Err r → part_found image h c b ≡ None
unfolding part_found read_of
found_barred image h c b r e = rw e

placed_found : (p : ℕ) (x : Option ℕ) → placed p x ≡ unwrap_or (span_of p x) (0, 0)
placed_found p (Some n) = refl
placed_found p None = refl

-- the part, or the image's first 0 bytes
pub part_of_found : (image : List ℕ) (h : Handle) (c : Cursor) (b : Bool) → part_of image h c b ≡ unwrap_or (part_found image h c b) (0, 0)
unfolding part_of part_found
part_of_found image h c b = placed_found (h.base + payload_of (resolved_at (section_of image h) c.place)) (size_read b (read_of image h c))

pub shown : (image : Bor (List ℕ)) (h : Handle) (c : Cursor) (b : Bool) {o : Option (Bor (List ℕ))} {z r : Bor (List ℕ)}
    → o ≡ parts image (part_found image.now h c b) → r ≡ unwrap_or o z → z.now ≡ [] → z.ref_ptr ≡ image.ref_ptr
    → (r.now ≡ spanned image.now (part_of image.now h c b)) × (r.ref_ptr ≡ (image.ref_ptr.0, image.ref_ptr.1 + (part_of image.now h c b).0))
shown image h c b d e f g = rw (part_of_found image.now h c b) (handed_out image (part_found image.now h c b) d e f g)

-- the way of an address in an image that the handle fits
pub way_fits : (h : Handle) (n : ℕ) (a : Address) (w : Way) → fits_of h n ≡ true → asked_of h a ≡ Ok w → Fitting w
way_fits h n a w f e = asked_fitting h n (fit h n f) a w e

-- a lookup depends on the tree's bytes, the handle and the image's length, and on nothing else
pub lookup_same : (s t : List ℕ) (h : Handle) (a : Address) → length s ≡ length t → Same (h.nodes * (h.size / 4)) s t → lookup_of s h a ≡ lookup_of t h a
unfolding lookup_of
lookup_same s t h a e same = go (fits_of h (length t)) refl
  where
    asks : (x : Result Way Refusal) → Fit h (length t) → on_asked s h x ≡ on_asked t h x
    asks (Ok w) f = found_same s t h (length t) f same w
    asks (Err r) f = refl

    go : (b : Bool) → fits_of h (length t) ≡ b
        → cond (fits_of h (length s)) (on_asked s h (asked_of h a)) (Err refusal.Handle) ≡ cond (fits_of h (length t)) (on_asked t h (asked_of h a)) (Err refusal.Handle)
    go true f = rw (e, f) (asks (asked_of h a) (fit h (length t) f))
    go false f = rw (e, f)

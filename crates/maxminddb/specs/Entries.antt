-- What each entry point answers: docs/SCOPE.md.
use Rattle.std.specs.Prelude.{ℕ, ◌+◌, List, Bool, cond, length, Option, Some, None, Result, Ok, Err}
use Rattle.refusal.specs.declared.Refusal.{Refusal}
use Rattle.refusal.specs.declared.Refusal.TheVariants as refusal
use Rattle.handle.specs.Handle.{fits_of}
use Rattle.handle.specs.declared.Handle.{Handle}
use Rattle.section.specs.Section.{section_of, barred_of, gated}
use Rattle.tree.specs.declared.Found.{Found}
use Rattle.lookup.specs.Lookup.{asked_of, found_from}
use Rattle.lookup.specs.declared.Address.{Address}
use Rattle.lookup.specs.declared.Way.{Way}
use Rattle.value.specs.Value.{read_at}
use Rattle.value.specs.Parts.{size_read, payload_of, span_of}
use Rattle.value.specs.declared.Value.{Value}
use Rattle.stored.specs.Stored.{resolved_at}
use Rattle.path.specs.Steps.{Step, key_step, index_step}
use Rattle.path.specs.declared.Cursor.{Cursor}

-- lookup: 9, 10, 11
abbrev pub on_asked : List ℕ → Handle → Result Way Refusal → Result Found Refusal
on_asked image h (Ok w) = found_from image h w
on_asked image h (Err r) = Err r

unfoldable pub lookup_of : List ℕ → Handle → Address → Result Found Refusal
lookup_of image h a = cond (fits_of h (length image)) (on_asked image h (asked_of h a)) (Err refusal.Handle)

-- a value: 9, 15, 14
unfoldable pub read_of : List ℕ → Handle → Cursor → Result Value Refusal
read_of image h c = gated (barred_of h (length image) c.place) Err (read_at (section_of image h) c.place c.charge)

-- where a text or bytes lie in the image, and how many, where there are any
unfoldable pub part_found : List ℕ → Handle → Cursor → Bool → Option (ℕ × ℕ)
part_found image h c bytes = span_of (h.base + payload_of (resolved_at (section_of image h) c.place)) (size_read bytes (read_of image h c))

-- none is the image's first 0 bytes
abbrev pub placed : ℕ → Option ℕ → ℕ × ℕ
placed p (Some n) = (p, n)
placed p None = (0, 0)

unfoldable pub part_of : List ℕ → Handle → Cursor → Bool → ℕ × ℕ
part_of image h c bytes = placed (h.base + payload_of (resolved_at (section_of image h) c.place)) (size_read bytes (read_of image h c))

-- steps: 9, 15, 14
unfoldable pub key_of : List ℕ → Handle → Cursor → List ℕ → Step
key_of image h c key = gated (barred_of h (length image) c.place) Err (key_step (section_of image h) c key)

unfoldable pub index_of : List ℕ → Handle → Cursor → ℕ → Bool → Step
index_of image h c index backward =
    gated (barred_of h (length image) c.place) Err (index_step (section_of image h) c index backward)

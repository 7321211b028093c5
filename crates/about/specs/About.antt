-- The texts of an image's metadata, as parts of the image.
use Rattle.std.specs.Prelude.{ℕ, ◌+◌, List, cond, length, take, drop, leb, Option, Some, None, Result, Ok, Err}
use Rattle.entries.specs.Entries.{language_of, description_of}
use Rattle.metadata.specs.declared.Metadata.{Metadata}
use Rattle.metadata.specs.declared.Part.{Part}
use Rattle.refusal.specs.declared.Refusal.{Refusal}
use Rattle.opening.specs.Opening.{open_of}
use Rattle.opening.specs.declared.Reader.{Reader}
use Rattle.about.specs.declared.Wanted.{Wanted}
use Rattle.about.specs.declared.Wanted.TheVariants as wanted

-- the bytes from a place on, so many
abbrev pub spanned : List ℕ → ℕ × ℕ → List ℕ
spanned s x = take x.1 (drop x.0 s)

-- a span that lies in n bytes
abbrev pub cut_of : ℕ → ℕ → ℕ → ℕ × ℕ
cut_of n from size = cond (leb (from + size) n) (from, size) (0, 0)

-- where the text that is asked for lies in the metadata section
abbrev pub wanted_of : List ℕ → Metadata → Wanted → ℕ → Option Part
wanted_of s m wanted.DatabaseType i = Some m.database
wanted_of s m wanted.Language i = language_of s m i
wanted_of s m wanted.DescriptionLanguage i = (description_of s m i).language
wanted_of s m wanted.Description i = (description_of s m i).text

-- and in the image, whose metadata section starts at `meta` and has n bytes
abbrev pub in_image : ℕ → ℕ → Option Part → ℕ × ℕ
in_image meta n (Some p) = (meta + (cut_of n p.from p.size).0, (cut_of n p.from p.size).1)
in_image meta n None = (0, 0)

abbrev pub text_in : List ℕ → Wanted → ℕ → Result Reader Refusal → ℕ × ℕ
text_in image w i (Ok r) =
    in_image r.handle.meta (length (drop r.handle.meta image)) (wanted_of (drop r.handle.meta image) r.metadata w i)
text_in image w i (Err why) = (0, 0)

-- none is the image's first 0 bytes
unfoldable pub text_of : List ℕ → Wanted → ℕ → ℕ × ℕ
text_of image w i = text_in image w i (open_of image)

-- the same as a struct
abbrev pub part_of : ℕ × ℕ → Part
part_of x = record { from = x.0; size = x.1 }

-- Entries that answer by a part of the image: a text, bytes, and the texts of the metadata. They give no number.
use Rattle.std.specs.Prelude.{ℕ, ◌+◌, ◌≤◌, ◌<◌, ◌≡◌, Bool, true, cond, ◌↔◌, List, length, take, drop, Some, Ok}
use Rattle.text.specs.Utf8.{well_formed}
use Rattle.stored.specs.Stored.{resolved_at}
use Rattle.value.specs.Parts.{payload_of}
use Rattle.value.specs.declared.Value.{Value}
use Rattle.value.specs.declared.Value.TheVariants as value
use Rattle.handle.specs.declared.Handle.{Handle}
use Rattle.section.specs.Section.{section_of}
use Rattle.path.specs.declared.Cursor.{Cursor}
use Rattle.opening.specs.Opening.{open_of}
use Rattle.opening.specs.declared.Reader.{Reader}
use Rattle.entries.specs.Entries.{part}
use Rattle.about.specs.About.{wanted_of}
use Rattle.about.specs.declared.Wanted.{Wanted}
use Rattle.about.specs.declared.Wanted.TheVariants as wanted
use Rattle.maxminddb.specs.Entries.{read_of}

-- x says where the part begins and how long it is: where there is something to give, x is as `Is` says; and it is the image's first 0
-- bytes exactly if there is nothing
pub record Gives (Something : Type 0) (Is : Something → ℕ × ℕ → Type 0) (x : ℕ × ℕ) : Type 0 where
  pub some : (it : Something) → Is it x
  pub none : (x ≡ (0, 0)) ↔ (Something → ⊥)

-- a text of n bytes, or n bytes
abbrev pub sized : Bool → ℕ → Value
sized bytes n = cond bytes (value.Bytes n) (value.Text n)

-- reading gives a text, or bytes
pub record Reads (s : List ℕ) (h : Handle) (c : Cursor) (bytes : Bool) : Type 0 where
  pub size : ℕ
  pub is : read_of s h c ≡ Ok (sized bytes size)

-- its payload in the image
abbrev pub Payload : (s : List ℕ) (h : Handle) (c : Cursor) (bytes : Bool) → Reads s h c bytes → ℕ × ℕ → Type 0
Payload s h c bytes r x = x ≡ (h.base + payload_of (resolved_at (section_of s h) c.place), r.size)

-- an index that is not past the last; there is one database type
abbrev pub Counted : Reader → Wanted → ℕ → Type 0
Counted r wanted.DatabaseType i = Unit
Counted r wanted.Language i = i < r.metadata.languages.size
Counted r wanted.DescriptionLanguage i = i < r.metadata.description.size
Counted r wanted.Description i = i < r.metadata.description.size

-- the image opens, and its metadata has the text
pub record Has (s : List ℕ) (w : Wanted) (i : ℕ) : Type 0 where
  pub reader : Reader
  pub opens : open_of s ≡ Ok reader
  pub counted : Counted reader w i

-- where the text lies in the metadata section, which starts past the marker: the part is whole in the image, and UTF-8
pub record MetadataText (s : List ℕ) (w : Wanted) (i : ℕ) (it : Has s w i) (x : ℕ × ℕ) : Type 0 where
  pub from : ℕ
  pub size : ℕ
  pub lies : wanted_of (drop it.reader.handle.meta s) it.reader.metadata w i ≡ Some (part from size)
  pub is : x ≡ (it.reader.handle.meta + from, size)
  pub inside : it.reader.handle.meta + from + size ≤ length s
  pub utf8 : well_formed (take size (drop (it.reader.handle.meta + from) s)) ≡ true

-- The languages and the descriptions of a metadata section s, by index.
use Rattle.std.specs.Prelude.{ℕ, ◌+◌, ◌*◌, cond, List, ltb, Option, Some, None}
use Rattle.fields.specs.Fields.{texts_at}
use Rattle.fields.specs.declared.Got.{Got}
use Rattle.metadata.specs.Metadata.{nothing_charged}
use Rattle.metadata.specs.declared.Metadata.{Metadata}
use Rattle.metadata.specs.declared.Part.{Part}
use Rattle.entries.specs.declared.Described.{Described}

-- where a text lies in the section
abbrev pub part : ℕ → ℕ → Part
part from size = record { from = from; size = size }

abbrev pub span_of : Option Got → Option Part
span_of (Some x) = Some (part x.place x.value)
span_of None = None

-- the last of n texts from a place
abbrev pub last_of : List ℕ → ℕ → ℕ → Option Part
last_of s from n = span_of (texts_at s n from nothing_charged)

-- the language at an index
unfoldable pub language_of : List ℕ → Metadata → ℕ → Option Part
language_of s m i = cond (ltb i m.languages.size) (last_of s m.languages.from (i + 1)) None

-- the description at an index: a pair's two texts follow those of the pairs before it
unfoldable pub description_of : List ℕ → Metadata → ℕ → Described
description_of s m i =
    cond (ltb i m.description.size)
    (record { language = last_of s m.description.from (i * 2 + 1); text = last_of s m.description.from (i * 2 + 2) })
    (record { language = None; text = None })

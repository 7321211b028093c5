-- Small images, put together from their parts.
use Prim.Native.Nat.{ℕ, ◌+◌}
use mathlib.Core.List.{List, [], ◌∷◌, ◌++◌}
use lib.ListN.{length}
use Rattle.tree.specs.Marker.{marker}
use Rattle.metadata.specs.Names.{bytes}
use Prim.Native.String.{String}

-- a text of less than 29 bytes
abbrev pub text : String → List ℕ
text t = (64 + length (bytes t)) ∷ bytes t

-- u16 and u32 of one byte, u64 of two
abbrev pub u16 : ℕ → List ℕ
u16 n = 161 ∷ n ∷ []

abbrev pub u32 : ℕ → List ℕ
u32 n = 193 ∷ n ∷ []

abbrev pub u64 : ℕ → ℕ → List ℕ
u64 high low = 2 ∷ 2 ∷ high ∷ low ∷ []

-- 2^63
abbrev pub late : List ℕ
late = 8 ∷ 2 ∷ 128 ∷ 0 ∷ 0 ∷ 0 ∷ 0 ∷ 0 ∷ 0 ∷ 0 ∷ []

-- one node of 24-bit records, the separator, data E0 (an empty map), the marker, metadata
abbrev pub tree : List ℕ
tree = 0 ∷ 0 ∷ 17 ∷ 0 ∷ 0 ∷ 1 ∷ []

abbrev pub zeros : List ℕ
zeros = 0 ∷ 0 ∷ 0 ∷ 0 ∷ 0 ∷ 0 ∷ 0 ∷ 0 ∷ 0 ∷ 0 ∷ 0 ∷ 0 ∷ 0 ∷ 0 ∷ 0 ∷ 0 ∷ []

abbrev pub image : List ℕ → List ℕ
image metadata = tree ++ (zeros ++ (224 ∷ (marker ++ metadata)))

-- the nine fields, in the order of their names but for the languages
abbrev pub versions : List ℕ → List ℕ → List ℕ
versions major build =
    text "binary_format_major_version" ++ (major ++ (text "binary_format_minor_version" ++ (u16 0 ++ (text "build_epoch" ++ build))))

abbrev pub names : List ℕ → List ℕ → List ℕ
names type description = text "database_type" ++ (type ++ (text "description" ++ description))

abbrev pub numbers : List ℕ → List ℕ → List ℕ → List ℕ
numbers version nodes size = text "ip_version" ++ (version ++ (text "node_count" ++ (nodes ++ (text "record_size" ++ size))))

abbrev pub spoken : List ℕ → List ℕ
spoken languages = text "languages" ++ languages

-- the texts of image A: a type, a map of one description, an array of one language
abbrev pub type : List ℕ
type = text "A"

abbrev pub description : List ℕ
description = 225 ∷ (text "en" ++ text "d")

abbrev pub english : List ℕ
english = 1 ∷ 4 ∷ text "en"

abbrev pub fields : List ℕ → List ℕ → List ℕ → List ℕ → List ℕ → List ℕ
fields major build version nodes size =
    versions major build ++ (names type description ++ (spoken english ++ numbers version nodes size))

-- image A with these values
unfoldable pub with : List ℕ → List ℕ → List ℕ → List ℕ → List ℕ → List ℕ
with major build version nodes size = image (233 ∷ fields major build version nodes size)

-- the versions, the build time and the numbers of image A
abbrev pub versions_a : List ℕ
versions_a = versions (u16 2) (u64 3 232)

abbrev pub numbers_a : List ℕ
numbers_a = numbers (u16 4) (u32 1) (u16 24)

abbrev pub fields_a : List ℕ
fields_a = fields (u16 2) (u64 3 232) (u16 4) (u32 1) (u16 24)

unfoldable pub image_a : List ℕ
image_a = image (233 ∷ fields_a)

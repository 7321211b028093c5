-- What is asked of an image s: opening, its age, the words that verification needs.
use Rattle.std.specs.Prelude.{ℕ, ◌+◌, ◌-◌, ◌*◌, ◌/◌, ◌^◌, ◌<◌, ◌≡◌, ◌⊎◌, List, [], ◌∷◌, ◌++◌, length, Some, None}
use Rattle.tree.proofs.MarkerLaws.{Stands}
use Rattle.metadata.specs.Metadata.{metadata_of}
use Rattle.metadata.specs.declared.Metadata.{Metadata}
use Rattle.opening.specs.Opening.{metadata_section}
use Rattle.opening.proofs.OpeningLaws.{LastMarker}
use Rattle.order.specs.Order.{Table, Refuses}

-- 24: the image is longer than 2,147,483,647 bytes
abbrev pub TooLong : List ℕ → Type 0
TooLong s = 2147483647 < length s

-- 1: the image has no marker: its 14 bytes stand nowhere
abbrev pub NoMarker : List ℕ → Type 0
NoMarker s = (i : ℕ) → Stands s i → ⊥

-- 2: the metadata, past the marker's last occurrence, does not decode into the fields
pub record Undecodable (s : List ℕ) : Type 0 where
  pub marker : ℕ
  pub last : LastMarker s marker
  pub wrong : metadata_of (metadata_section s marker) ≡ None

-- a property of the marker's start and of the fields that what lies past it is decoded into
pub record Fields (s : List ℕ) (P : ℕ → Metadata → Type 0) : Type 0 where
  pub marker : ℕ
  pub metadata : Metadata
  pub last : LastMarker s marker
  pub decoded : metadata_of (metadata_section s marker) ≡ Some metadata
  pub holds : P marker metadata

-- 3: format major version not 2
abbrev pub OtherFormat : List ℕ → Type 0
OtherFormat s = Fields s (λ marker m. m.major ≡ 2 → ⊥)

-- 4: IP version neither 4 nor 6
abbrev pub OtherIpVersion : List ℕ → Type 0
OtherIpVersion s = Fields s (λ marker m. (m.version ≡ 4) ⊎ (m.version ≡ 6) → ⊥)

-- 5: node count 0
abbrev pub NoNodes : List ℕ → Type 0
NoNodes s = Fields s (λ marker m. m.nodes ≡ 0)

-- 6: build time above 2^63 - 1
abbrev pub LateBuild : List ℕ → Type 0
LateBuild s = Fields s (λ marker m. 2 ^ 63 - 1 < m.build)

-- 7: record size not 24, 28 or 32
abbrev pub OtherRecordSize : List ℕ → Type 0
OtherRecordSize s = Fields s (λ marker m. (m.size ≡ 24) ⊎ ((m.size ≡ 28) ⊎ (m.size ≡ 32)) → ⊥)

-- 8: the tree and its 16 separator bytes end past the marker's start
abbrev pub TreeTooLong : List ℕ → Type 0
TreeTooLong s = Fields s (λ marker m. marker < m.nodes * m.size / 4 + 16)

-- open: 24, 1, 2, 3, 4, 5, 6, 7, 8
abbrev pub open_table : List ℕ → Table
open_table s =
    (Refuses 24, TooLong s)
    ∷ (Refuses 1, NoMarker s)
    ∷ (Refuses 2, Undecodable s)
    ∷ (Refuses 3, OtherFormat s)
    ∷ (Refuses 4, OtherIpVersion s)
    ∷ (Refuses 5, NoNodes s)
    ∷ (Refuses 6, LateBuild s)
    ∷ (Refuses 7, OtherRecordSize s)
    ∷ (Refuses 8, TreeTooLong s)
    ∷ []

-- 23: the time given for an age is above 2^63 - 1
abbrev pub time_row : ℕ → Table
time_row time = (Refuses 23, 2 ^ 63 - 1 < time) ∷ []

-- age: 24, 1 to 8, 23
abbrev pub age_table : List ℕ → ℕ → Table
age_table s time = open_table s ++ time_row time

-- the words that verification needs: 24, 1 to 8
abbrev pub scratch_words_table : List ℕ → Table
scratch_words_table s = open_table s

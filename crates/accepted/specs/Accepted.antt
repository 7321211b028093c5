-- What an accepted image is, and what verification leaves in the scratch: docs/SCOPE.md, "Verification".
use Rattle.std.specs.Prelude.{ℕ, ◌*◌, ◌≤◌, ◌<◌, ◌≡◌, true, false, ◌⊎◌, List, [], ◌∷◌, ◌++◌, Some, Ok, Err, map, length, get_or, replicate, eqb}
use Rattle.refusal.specs.Refusals.{number_of}
use Rattle.refusal.specs.declared.Refusal.{Refusal}
use Rattle.refusal.specs.declared.Refusal.TheVariants as refusal
use Rattle.handle.specs.declared.Handle.{Handle}
use Rattle.section.specs.Section.{section_of}
use Rattle.opening.specs.Opening.{open_of}
use Rattle.opening.specs.declared.Reader.{Reader}
use Rattle.marks.specs.Marks.{contains, size_of, Below}
use Rattle.tree.specs.Lookup.{found}
use Rattle.place.specs.Kinds.{is_alias}
use Rattle.place.specs.declared.Place.{Place}
use Rattle.place.specs.declared.Network.{Network}
use Rattle.place.specs.declared.Outcome.{Outcome}
use Rattle.place.specs.declared.Outcome.TheVariants.{Given}
use Rattle.walk.specs.declared.Walk.{Walk}
use Rattle.walk.specs.Starts.{whole_range, begin_of}
use Rattle.fullwalk.specs.FullWalk as full
use Rattle.fullwalk.specs.FullWalk.{width_of, Walked, lookup}
use Rattle.recording.specs.Recording.{options, offsets_of}
use Rattle.verify.specs.Verify.{metadata_in, separator_of, Out, cleared, scratch_words_of}
use Rattle.accepted.specs.Visited.{Visited, FaultyAt, OffsetOf, Unaliased}
use Rattle.accepted.specs.Values.{Usable, Reached}

-- every element of an image is a byte
abbrev pub Bytes : List ℕ → Type 0
Bytes s = (i : ℕ) → get_or s i 0 < 256

-- 24, 1 to 8 and 22: the scratch is not touched
abbrev pub Untouching : ℕ → Type 0
Untouching number = (number ≡ 24) ⊎ ((1 ≤ number) × (number ≤ 8)) ⊎ (number ≡ 22)

-- what is left in the scratch: after those it is as it was, after any other answer the needed words are 0 and the rest as it was
pub record Leaves (s ws : List ℕ) (o : Out) : Type 0 where
  pub untouched : (r : Refusal) → o.answer ≡ Err r → Untouching (number_of r) → o.scratch ≡ ws
  pub clears : ((r : Refusal) → o.answer ≡ Err r → Untouching (number_of r) → ⊥)
      → (k : ℕ) × (scratch_words_of s ≡ Ok k) × (k ≤ length ws) × (o.scratch ≡ cleared k ws)

-- the walk of verification: all addresses, networks without data included, aliases skipped
abbrev pub verify_walk : List ℕ → Handle → Walk
verify_walk s h = (begin_of s h (whole_range h) options).walk

-- the refusals of that walk: 11, 12, 19 and 21
pub data Walking : Refusal → Type 0 where
  met_bad_record : Walking refusal.Record
  met_too_deep : Walking refusal.TooDeep
  too_many : Walking refusal.TooManyNetworks
  budget_spent : Walking refusal.Budget

-- the offsets of networks, in their order; a network without data has none
unfoldable pub offsets_in : List Network → List ℕ
offsets_in [] = []
offsets_in (n ∷ l) = offsets_of n.offset ++ offsets_in l

-- what is found of an image whose opening gave the handle h, n being the number that acceptance reports
pub record Checked (s : List ℕ) (h : Handle) (n : ℕ) : Type 0 where
  -- the separator is 16 bytes 0
  pub separated : separator_of s h.base ≡ replicate 16 0
  -- the walk comes to its end and hands out networks alone, at most 3 times node count, however it is cut
  pub networks : List Network
  pub walked : Walked s h (verify_walk s h) (map Given networks)
  pub uncut : {l : List Outcome} → Walked s h (verify_walk s h) l → l ≡ map Given networks
  pub few : length networks ≤ 3 * h.nodes
  -- no path is faulty at a place that the walk visits, aliases apart
  pub faultless : (p : Place) → Visited s h p → is_alias h (width_of h) p ≡ false → FaultyAt s h p → ⊥
  -- the networks' offsets are those of the places that the walk visits, aliases apart
  pub known : (o : ℕ) → contains (offsets_in networks) o ≡ true → OffsetOf s h o
  pub covered : (o : ℕ) → OffsetOf s h o → contains (offsets_in networks) o ≡ true
  -- they are inside the data section, and n is the size of their set
  pub inside : Below (length (section_of s h)) (offsets_in networks)
  pub counted : n ≡ size_of (contains (offsets_in networks)) (length (section_of s h))
  -- an address whose way meets no alias, as no IPv4 address's does (`unaliased`), has no faulty path, and looking it up gives one of
  -- these offsets or no data
  pub sure : (x : ℕ) → Unaliased s h x → full.FaultyAt s h x → ⊥
  pub found : (x : ℕ) → Unaliased s h x → (o len : ℕ) → lookup s h x ≡ Some (found (Some o) len) → contains (offsets_in networks) o ≡ true
  -- verification reaches the value at each of them, those inside it and those behind pointers: all can be passed over and read,
  -- and every text is UTF-8
  pub reaches : (o : ℕ) → contains (offsets_in networks) o ≡ true → Reached (section_of s h) (contains (offsets_in networks)) o
  pub usable : (p : ℕ) → Reached (section_of s h) (contains (offsets_in networks)) p → Usable (section_of s h) p
  -- and so it is with the metadata, from its first value on
  pub metadata_usable : (p : ℕ) → Reached (metadata_in s h) (eqb 0) p → Usable (metadata_in s h) p

-- WHAT AN ACCEPTED IMAGE IS: it opens, neither its database type nor its description is empty, and the rest
pub record Whole (s : List ℕ) (n : ℕ) : Type 0 where
  pub reader : Reader
  pub opened : open_of s ≡ Ok reader
  pub named : 1 ≤ reader.metadata.database.size
  pub described : 1 ≤ reader.metadata.description.size
  pub checked : Checked s reader.handle n

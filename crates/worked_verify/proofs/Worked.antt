-- Small images, verified by computation.
use Prim.Native.Nat.{ℕ, zero, suc, ◌+◌, ◌/◌, ◌%◌}
use mathlib.Core.Path.{◌≡◌, refl}
use mathlib.Core.List.{List, [], ◌∷◌, ◌++◌, map}
use lib.ListN.{replicate}
use Rattle.std.specs.Prelude.{Ok, Err}
use Rattle.refusal.specs.declared.Refusal.TheVariants as refusal
use Rattle.number.specs.Bytes.{be_at}
use Rattle.control.specs.Control.{kind_of, size_at, sized_at, head_at}
use Rattle.control.specs.Pointers.{link_at}
use Rattle.stored.specs.Stored.{lying_at, stored_at, resolved_at}
use Rattle.text.specs.Utf8.{run}
use Rattle.handle.specs.Handle.{fits_of}
use Rattle.tree.specs.Record.{record_at}
use Rattle.tree.specs.Lookup.{down, answer_of}
use Rattle.tree.specs.Marker.{marker, agree, last_below, marker_of}
use Rattle.metadata.specs.Names.{bytes, field_of}
use Rattle.marks.specs.Marks.{contains, distinct}
use Rattle.graph.specs.Visit.{by_kind, visit_at}
use Rattle.graph.specs.Graph.{leave, target_at, many_at, past, on_visit, skip_at}
use Rattle.sweep.specs.Sweep.{onward, sweep_at, data_accepted, metadata_accepted}
use Rattle.place.specs.Kinds as kinds
use Rattle.place.specs.Shape.{newest_out}
use Rattle.place.specs.Turns.{child_key, turn_of}
use Rattle.walk.specs.Starts.{first_of, begin_of}
use Rattle.walk.specs.Calls.{out_of_shape, goes, next_of}
use Rattle.recording.specs.Recording.{toured, tour_of}
use Rattle.charge.specs.Charge.{entered, paid}
use Rattle.key.specs.Keys.{same_bytes, name_at}
use Rattle.skip.specs.Skip as skip
use Rattle.fields.specs.Fields.{text_at, many, past_at, value_at}
use Rattle.metadata.specs.Metadata.{key_at, pair_at, all_seen, whole_of, gather, metadata_of}
use Rattle.opening.specs.Opening.{open_of}
use Rattle.worked_opening.proofs.Images.{text, u16, u32, u64, zeros, image, names, fields, fields_a, spoken, type, description, english, versions_a, numbers_a, image_a}
use Rattle.verify.specs.Verify.{Verified, all_zero, database_of, verdict_of, verify_of, out}

-- image A of docs/SCOPE.md needs 6 words, and 3 places of budget: the node and its two records
pub a_verified :
    (verify_of image_a (replicate 8 7) 3 ≡ out (Ok 1) (replicate 6 0 ++ 7 ∷ 7 ∷ []))
    × (verify_of image_a (replicate 6 7) 2 ≡ out (Err refusal.Budget) (replicate 6 0))
    × (verify_of image_a (replicate 6 7) 0 ≡ out (Err refusal.Budget) (replicate 6 0))
    × (verify_of image_a (replicate 5 7) 3 ≡ out (Err refusal.Scratch) (replicate 5 7))
unfolding image_a bytes verify_of verdict_of database_of all_zero open_of marker_of last_below agree metadata_of resolved_at entered paid gather pair_at key_at name_at field_of same_bytes value_at text_at many past_at all_seen whole_of tour_of toured next_of goes out_of_shape newest_out turn_of kinds.kind_of kinds.is_alias child_key answer_of begin_of first_of fits_of down record_at be_at distinct contains metadata_accepted data_accepted onward sweep_at leave target_at many_at past on_visit skip_at by_kind visit_at stored_at lying_at head_at sized_at size_at kind_of link_at run
a_verified = (refl, refl, refl, refl)

-- ---- other images, with words enough

pub record Case : Type 0 where
  pub image : List ℕ
  pub budget : ℕ
  pub gives : Verified

abbrev pub case : List ℕ → ℕ → Verified → Case
case s budget v = record { image = s; budget = budget; gives = v }

abbrev pub verdict : Case → Verified
verdict c = (verify_of c.image (replicate 20 7) c.budget).answer

-- image A with another type and description
abbrev pub named : List ℕ → List ℕ → List ℕ
named type description = image (233 ∷ (versions_a ++ (names type description ++ (spoken english ++ numbers_a))))

-- a tree of 24-bit records, a separator, a data section, and image A's metadata with an IP version and a node count
abbrev pub made : ℕ → ℕ → List ℕ → List ℕ → List ℕ → List ℕ
made version nodes tree separator section =
    tree ++ (separator ++ (section ++ (marker ++ (233 ∷ fields (u16 2) (u64 3 232) (u16 version) (u32 nodes) (u16 24)))))

-- a node, each of its records in two bytes
abbrev pub node : ℕ → ℕ → ℕ → ℕ → List ℕ
node high low high' low' = 0 ∷ high ∷ low ∷ 0 ∷ high' ∷ low' ∷ []

-- IPv4, one node with these records
abbrev pub single : ℕ → ℕ → List ℕ → List ℕ
single left right section = made 4 1 (node 0 left 0 right) zeros section

-- four nodes below each other: 16 networks without data
abbrev pub doubled : List ℕ
doubled = made 4 4 (node 0 1 0 1 ++ (node 0 2 0 2 ++ (node 0 3 0 3 ++ node 0 4 0 4))) zeros []

-- n nodes from node i on, both records of each lead to the next
unfoldable pub ladder : ℕ → ℕ → List ℕ
ladder zero i = []
ladder (suc n) i = node 0 (i + 1) 0 (i + 1) ++ ladder n (i + 1)

-- n arrays of one element inside each other, with an empty number inside
unfoldable pub nested : ℕ → List ℕ
nested zero = 160 ∷ []
nested (suc n) = 1 ∷ 4 ∷ nested n

-- n pointers from place p on, each to the place past it, and an empty number
unfoldable pub forward : ℕ → ℕ → List ℕ
forward zero p = 160 ∷ []
forward (suc n) p = (32 + (p + 2) / 256) ∷ (p + 2) % 256 ∷ forward n (p + 2)

-- an empty number, a pointer to it, and pointers each to the one before it
unfoldable pub backward : ℕ → ℕ → List ℕ
backward zero p = []
backward (suc n) p = 32 ∷ p ∷ backward n (p + 2)

abbrev pub chain : List ℕ
chain = 160 ∷ 32 ∷ 0 ∷ backward 128 1

unfoldable pub cases : List Case
cases =
    -- an unknown key of the metadata that is no UTF-8; no database type, no description, neither
    case (image (234 ∷ (fields_a ++ (65 ∷ 255 ∷ u16 4)))) 0 (Err refusal.Malformed)
    ∷ case (named (text "") description) 0 (Err refusal.NoDatabaseType)
    ∷ case (named type (224 ∷ [])) 0 (Err refusal.NoDescription)
    ∷ case (named (text "") (224 ∷ [])) 0 (Err refusal.NoDatabaseType)
    -- two networks with one offset, and with two; an alias, which is skipped
    ∷ case (single 17 17 (224 ∷ [])) 3 (Ok 1)
    ∷ case (single 17 18 (224 ∷ 224 ∷ [])) 3 (Ok 2)
    ∷ case (made 6 1 (node 0 17 0 17) zeros (224 ∷ [])) 3 (Ok 1)
    -- the separator's last byte; 11 and 12 come before it
    ∷ case (made 4 1 (node 0 17 0 1) (replicate 15 0 ++ 1 ∷ []) (224 ∷ [])) 3 (Err refusal.Separator)
    ∷ case (made 4 1 (node 0 2 0 1) (replicate 16 1) (224 ∷ [])) 3 (Err refusal.Record)
    ∷ case (made 4 1 (node 0 0 0 1) (replicate 16 1) (224 ∷ [])) 100 (Err refusal.TooDeep)
    -- 12 networks are allowed: the 13th comes with the 27th place, and one place less is 21
    ∷ case doubled 27 (Err refusal.TooManyNetworks)
    ∷ case doubled 26 (Err refusal.Budget)
    -- some 2^96 and 2^42 aliases to pass over
    ∷ case (made 6 97 (ladder 96 0 ++ node 0 113 0 97) zeros (224 ∷ [])) 300 (Err refusal.Budget)
    ∷ case (made 6 42 (ladder 42 0) zeros (224 ∷ [])) 300 (Err refusal.Budget)
    -- a pointer to itself; a pointer to a pointer to a text; a fault that no network leads to
    ∷ case (single 17 1 (32 ∷ 0 ∷ [])) 3 (Err refusal.Malformed)
    ∷ case (single 22 1 (66 ∷ 111 ∷ 107 ∷ 32 ∷ 0 ∷ 32 ∷ 3 ∷ [])) 3 (Ok 1)
    ∷ case (single 17 1 (224 ∷ 32 ∷ 1 ∷ [])) 3 (Ok 1)
    -- verdicts that hang on the order of a hash set: lowest offset first. Offsets 0 and 2, and the second alone
    ∷ case (single 17 19 (32 ∷ 2 ∷ nested 128)) 3 (Err refusal.Malformed)
    ∷ case (single 19 1 (32 ∷ 2 ∷ nested 128)) 3 (Ok 1)
    ∷ case (single 17 19 (forward 129 0)) 3 (Err refusal.Malformed)
    ∷ case (single 19 1 (forward 129 0)) 3 (Ok 1)
    -- offsets 255 and 257, and the second alone
    ∷ case (made 4 1 (node 1 16 1 18) zeros chain) 3 (Ok 2)
    ∷ case (made 4 1 (node 1 18 0 1) zeros chain) 3 (Err refusal.Malformed)
    ∷ []

pub worked : map verdict cases ≡ map (λ c. c.gives) cases
unfolding cases ladder nested forward backward skip.entry_at skip.skip_at skip.many bytes verify_of verdict_of database_of all_zero open_of marker_of last_below agree metadata_of resolved_at entered paid gather pair_at key_at name_at field_of same_bytes value_at text_at many past_at all_seen whole_of tour_of toured next_of goes out_of_shape newest_out turn_of kinds.kind_of kinds.is_alias child_key answer_of begin_of first_of fits_of down record_at be_at distinct contains metadata_accepted data_accepted onward sweep_at leave target_at many_at past on_visit skip_at by_kind visit_at stored_at lying_at head_at sized_at size_at kind_of link_at run
worked = refl

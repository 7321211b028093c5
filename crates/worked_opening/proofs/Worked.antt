-- Image A of docs/SCOPE.md and images close to it, opened by computation.
use Prim.Native.Nat.{ℕ, ◌^◌}
use mathlib.Core.Path.{◌≡◌, refl}
use mathlib.Core.List.{[], ◌∷◌, ◌++◌}
use lib.IntN.{negsuc, pos}
use Rattle.number.specs.Bytes.{be_at}
use Rattle.control.specs.Control.{kind_of, size_at, sized_at, head_at}
use Rattle.control.specs.Pointers.{link_at}
use Rattle.stored.specs.Stored.{lying_at, stored_at, resolved_at}
use Rattle.charge.specs.Charge.{entered, paid}
use Rattle.text.specs.Utf8.{run}
use Rattle.key.specs.Keys.{same_bytes, name_at}
use Rattle.skip.specs.Skip as skip
use Rattle.fields.specs.Fields.{text_at, many, past_at, value_at}
use Rattle.metadata.specs.Names.{bytes, field_of}
use Rattle.metadata.specs.Metadata.{key_at, pair_at, all_seen, whole_of, gather, metadata_of}
use Rattle.tree.specs.Marker.{agree, last_below, marker_of}
use Rattle.tree.specs.Lookup.{down}
use Rattle.tree.specs.Record.{record_at}
use Rattle.opening.specs.Opening.{metadata_section, open_of, age_of}
use Rattle.std.specs.Prelude.{Some, None, Ok, Err}
use Rattle.refusal.specs.declared.Refusal.TheVariants as refusal
use Rattle.handle.specs.declared.Handle.{Handle}
use Rattle.entries.specs.Entries.{part, language_of, description_of}
use Rattle.metadata.specs.declared.Metadata.{Metadata}
use Rattle.opening.specs.declared.Reader.{Reader}
use Rattle.worked_opening.proofs.Images.{text, u16, u32, u64, late, tree, zeros, image, names, spoken, type, description, english, versions_a, numbers_a, with, fields_a, image_a}

abbrev pub handle_with : ℕ → ℕ → ℕ → Handle
handle_with version start4 depth4 = record { version = version; nodes = 1; size = 24; base = 22; meta = 37; start4 = start4; depth4 = depth4 }

-- with the places of the type, the description and the languages
abbrev pub metadata_with : ℕ → ℕ → ℕ → ℕ → Metadata
metadata_with version type description languages =
    record {
      major = 2;
      minor = 0;
      build = 1000;
      database = record { from = type; size = 1 };
      description = record { from = description; size = 1 };
      version = version;
      languages = record { from = languages; size = 1 };
      nodes = 1;
      size = 24;
    }

abbrev pub metadata_a : Metadata
metadata_a = metadata_with 4 92 106 123

abbrev pub reader_a : Reader
reader_a = record { handle = handle_with 4 0 0; metadata = metadata_a }

pub a_opens : open_of image_a ≡ Ok reader_a
unfolding image_a bytes open_of marker_of last_below agree metadata_of resolved_at stored_at lying_at head_at sized_at size_at kind_of be_at link_at entered paid gather pair_at key_at name_at field_of same_bytes value_at text_at many past_at run all_seen whole_of
a_opens = refl

-- A as an IPv6 image: the way of zero bits ends at depth 1 in the left record
pub six_opens :
    open_of (with (u16 2) (u64 3 232) (u16 6) (u32 1) (u16 24)) ≡ Ok (record { handle = handle_with 6 17 1; metadata = metadata_with 6 92 106 123 })
unfolding with down record_at bytes open_of marker_of last_below agree metadata_of resolved_at stored_at lying_at head_at sized_at size_at kind_of be_at link_at entered paid gather pair_at key_at name_at field_of same_bytes value_at text_at many past_at run all_seen whole_of
six_opens = refl

-- each refusal of opening, and 6 before 7; 24 is `open_long` of the crate `opening`
pub refused :
    (open_of (tree ++ zeros) ≡ Err refusal.NoMarker) × (open_of (image []) ≡ Err refusal.Metadata)
    × (open_of (with (u16 3) (u64 3 232) (u16 4) (u32 1) (u16 24)) ≡ Err refusal.FormatVersion)
    × (open_of (with (u16 2) (u64 3 232) (u16 5) (u32 1) (u16 24)) ≡ Err refusal.IpVersion)
    × (open_of (with (u16 2) (u64 3 232) (u16 4) (u32 0) (u16 24)) ≡ Err refusal.NoNodes)
    × (open_of (with (u16 2) late (u16 4) (u32 1) (u16 24)) ≡ Err refusal.BuildTime)
    × (open_of (with (u16 2) late (u16 4) (u32 1) (u16 25)) ≡ Err refusal.BuildTime)
    × (open_of (with (u16 2) (u64 3 232) (u16 4) (u32 1) (u16 25)) ≡ Err refusal.RecordSize)
    × (open_of (with (u16 2) (u64 3 232) (u16 4) (u32 2) (u16 24)) ≡ Err refusal.TreeTooLong)
unfolding with bytes open_of marker_of last_below agree metadata_of resolved_at stored_at lying_at head_at sized_at size_at kind_of be_at link_at entered paid gather pair_at key_at name_at field_of same_bytes value_at text_at many past_at run all_seen whole_of
refused = (refl, refl, refl, refl, refl, refl, refl, refl, refl)

-- a known key twice; a key that is a u16; no languages; database type not UTF-8
pub odd_refused :
    (open_of (image (234 ∷ (fields_a ++ (text "ip_version" ++ u16 4)))) ≡ Err refusal.Metadata)
    × (open_of (image (234 ∷ (fields_a ++ (u16 9 ++ u16 4)))) ≡ Err refusal.Metadata)
    × (open_of (image (232 ∷ (versions_a ++ (names type description ++ numbers_a)))) ≡ Err refusal.Metadata)
    × (open_of (image (233 ∷ (versions_a ++ (names (65 ∷ 255 ∷ []) description ++ (spoken english ++ numbers_a))))) ≡ Err refusal.Metadata)
unfolding skip.entry_at skip.skip_at skip.many bytes open_of marker_of last_below agree metadata_of resolved_at stored_at lying_at head_at sized_at size_at kind_of be_at link_at entered paid gather pair_at key_at name_at field_of same_bytes value_at text_at many past_at run all_seen whole_of
odd_refused = (refl, refl, refl, refl)

-- an unknown key that is not UTF-8; one twice; one whose value, last in the image, is a pointer of class 3 with other bits set
pub odd_opens :
    (open_of (image (234 ∷ (fields_a ++ (65 ∷ 255 ∷ u16 4)))) ≡ Ok reader_a)
    × (open_of (image (235 ∷ (fields_a ++ (text "x" ++ (u16 4 ++ (text "x" ++ u16 4)))))) ≡ Ok reader_a)
    × (open_of (image (234 ∷ (fields_a ++ (text "x" ++ (61 ∷ 0 ∷ 0 ∷ 0 ∷ 0 ∷ []))))) ≡ Ok reader_a)
unfolding skip.entry_at skip.skip_at skip.many bytes open_of marker_of last_below agree metadata_of resolved_at stored_at lying_at head_at sized_at size_at kind_of be_at link_at entered paid gather pair_at key_at name_at field_of same_bytes value_at text_at many past_at run all_seen whole_of
odd_opens = (refl, refl, refl)

-- the whole map behind a pointer; the description and the language behind pointers into the value of an unknown key
pub pointers :
    (open_of (image (32 ∷ 2 ∷ 233 ∷ fields_a)) ≡ Ok (record { handle = handle_with 4 0 0; metadata = metadata_with 4 94 108 125 }))
    × (open_of
    (image (234 ∷ (text "x" ++ (description ++ (versions_a ++ (names type (32 ∷ 3 ∷ []) ++ (spoken (1 ∷ 4 ∷ 32 ∷ 4 ∷ []) ++ numbers_a)))))))
    ≡ Ok (record { handle = handle_with 4 0 0; metadata = metadata_with 4 100 4 127 }))
unfolding skip.entry_at skip.skip_at skip.many bytes open_of marker_of last_below agree metadata_of resolved_at stored_at lying_at head_at sized_at size_at kind_of be_at link_at entered paid gather pair_at key_at name_at field_of same_bytes value_at text_at many past_at run all_seen whole_of
pointers = (refl, refl)

-- the build time is 1,000
pub ages :
    (age_of image_a 999 ≡ Ok (negsuc 0)) × (age_of image_a 1500 ≡ Ok (pos 500))
    × (age_of image_a (2 ^ 63) ≡ Err refusal.Time) × (age_of [] (2 ^ 63) ≡ Err refusal.NoMarker)
unfolding image_a age_of bytes open_of marker_of last_below agree metadata_of resolved_at stored_at lying_at head_at sized_at size_at kind_of be_at link_at entered paid gather pair_at key_at name_at field_of same_bytes value_at text_at many past_at run all_seen whole_of
ages = (refl, refl, refl, refl)

-- texts by index
pub entries :
    (language_of (metadata_section image_a 23) metadata_a 0 ≡ Some (part 124 2)) × (language_of (metadata_section image_a 23) metadata_a 1 ≡ None)
    × (description_of (metadata_section image_a 23) metadata_a 0 ≡ record { language = Some (part 107 2); text = Some (part 110 1) })
unfolding image_a language_of description_of bytes open_of marker_of last_below agree metadata_of resolved_at stored_at lying_at head_at sized_at size_at kind_of be_at link_at entered paid gather pair_at key_at name_at field_of same_bytes value_at text_at many past_at run all_seen whole_of
entries = (refl, refl, refl)

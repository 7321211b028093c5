-- The metadata section s, a map, decoded into the fields of `metadata.rs`.
use Rattle.std.specs.Prelude.{ℕ, zero, suc, ◌-◌, ◌*◌, Bool, true, cond, ◌&&◌, List, [], ◌∷◌, get_or, take, drop, set, Option, Some, None, is_some}
use Rattle.control.specs.Control.{is_type}
use Rattle.stored.specs.Stored.{resolved_at}
use Rattle.stored.specs.declared.Layout.{Layout}
use Rattle.charge.specs.Charge.{entered, paid}
use Rattle.charge.specs.declared.Charge.{Charge}
use Rattle.key.specs.Keys.{name_at}
use Rattle.key.specs.declared.Name.{Name}
use Rattle.skip.specs.Skip.{skipped_at}
use Rattle.skip.specs.declared.Past.{Past}
use Rattle.fields.specs.Fields.{value_at}
use Rattle.fields.specs.declared.Got.{Got}
use Rattle.metadata.specs.Names.{field_of, want_of}
use Rattle.metadata.specs.declared.Key.{Key}
use Rattle.metadata.specs.declared.Pair.{Pair}
use Rattle.metadata.specs.declared.Pair.TheVariants.{Known, Other}
use Rattle.metadata.specs.declared.Field.{Field}
use Rattle.metadata.specs.declared.Part.{Part}
use Rattle.metadata.specs.declared.Metadata.{Metadata}

abbrev pub key : Option ℕ → ℕ → Charge → Key
key field next c = record { field = field; next = next; charge = c }

abbrev pub key_paid : Option ℕ → ℕ → Option Charge → Option Key
key_paid field next (Some c) = Some (key field next c)
key_paid field next None = None

abbrev pub key_on : List ℕ → Charge → Option Name → Option Key
key_on s c (Some x) = key_paid (field_of (take x.size (drop x.from s))) x.next (paid c (x.size - 32))
key_on s c None = None

-- a key is a text; what exceeds 32 bytes of it is charged
unfoldable pub key_at : List ℕ → ℕ → Charge → Option Key
key_at s at c = key_on s c (name_at s at)

abbrev pub known : ℕ → Option Got → Option Pair
known field (Some x) = Some (Known field x)
known field None = None

abbrev pub passed : Option Past → Option Pair
passed (Some x) = Some (Other x)
passed None = None

abbrev pub pair_for : List ℕ → ℕ → Charge → Option ℕ → Option Pair
pair_for s at c (Some field) = known field (value_at s (want_of field) at c)
pair_for s at c None = passed (skipped_at s at c)

abbrev pub pair_on : List ℕ → Option Key → Option Pair
pair_on s (Some k) = pair_for s k.next k.charge k.field
pair_on s None = None

-- a pair of the map: a field's name with a value of the field's kind, or any other, whose value is passed over
unfoldable pub pair_at : List ℕ → ℕ → Charge → Option Pair
pair_at s at c = pair_on s (key_at s at c)

-- a field that was seen
abbrev pub field : ℕ → ℕ → Field
field v p = record { value = v; place = p }

-- the number of a field, and its place
abbrev pub number_in : Option Field → ℕ
number_in (Some f) = f.value
number_in None = 0

abbrev pub place_in : Option Field → ℕ
place_in (Some f) = f.place
place_in None = 0

abbrev pub none_seen : List (Option Field)
none_seen = None ∷ None ∷ None ∷ None ∷ None ∷ None ∷ None ∷ None ∷ None ∷ []

abbrev pub field_at : List (Option Field) → ℕ → Option Field
field_at fs i = get_or fs i None

-- the first n fields were seen
unfoldable pub all_seen : List (Option Field) → ℕ → Bool
all_seen fs zero = true
all_seen fs (suc n) = is_some (field_at fs n) && all_seen fs n

abbrev pub part_of : Option Field → Part
part_of f = record { from = place_in f; size = number_in f }

abbrev pub metadata_from : List (Option Field) → Metadata
metadata_from fs =
    record {
      major = number_in (field_at fs 0);
      minor = number_in (field_at fs 1);
      build = number_in (field_at fs 2);
      database = part_of (field_at fs 3);
      description = part_of (field_at fs 4);
      version = number_in (field_at fs 5);
      languages = part_of (field_at fs 6);
      nodes = number_in (field_at fs 7);
      size = number_in (field_at fs 8);
    }

-- no field may be missing
unfoldable pub whole_of : List (Option Field) → Option Metadata
whole_of fs = cond (all_seen fs 9) (Some (metadata_from fs)) None

-- a pair adds its field, which must be new
abbrev pub after : (ℕ → Charge → List (Option Field) → Option Metadata) → List (Option Field) → Option Pair → Option Metadata
after rest fs (Some (Known i x)) = cond (is_some (field_at fs i)) None (rest x.next x.charge (set fs i (Some (field x.value x.place))))
after rest fs (Some (Other x)) = rest x.next x.charge fs
after rest fs None = None

-- n pairs from a place on
unfoldable pub gather : (ℕ → Charge → Option Pair) → ℕ → ℕ → Charge → List (Option Field) → Option Metadata
gather f zero at c fs = whole_of fs
gather f (suc n) at c fs = after (gather f n) fs (f at c)

abbrev pub nothing_charged : Charge
nothing_charged = record { values = 0; payload = 0 }

abbrev pub map_on : List ℕ → ℕ → ℕ → Option Charge → Option Metadata
map_on s n p (Some c) = gather (pair_at s) n p c none_seen
map_on s n p None = None

abbrev pub section_on : List ℕ → Option Layout → Option Metadata
section_on s (Some l) = cond (is_type l.kind 7) (map_on s l.size l.payload (entered nothing_charged (l.size * 2))) None
section_on s None = None

-- the value at the section's start is a map, behind at most one pointer; entering it charges it and its pairs
unfoldable pub metadata_of : List ℕ → Option Metadata
metadata_of s = section_on s (resolved_at s 0)

-- A value that a cursor leads to: reading it, and steps into it.
use Rattle.std.specs.Prelude.{ℕ, zero, suc, ◌-◌, ◌*◌, ◌≤◌, ◌<◌, ◌≡◌, Bool, true, cond, ◌⊎◌, List, [], ◌∷◌, length, take, drop, Some}
use Rattle.control.specs.declared.Kind.{Kind}
use Rattle.control.specs.declared.Kind.TheVariants as kind
use Rattle.charge.specs.Charge.{most_values, most_payload, room_left, since_entry, paid}
use Rattle.charge.specs.declared.Charge.{Charge}
use Rattle.key.specs.Keys.{name, name_at}
use Rattle.skip.specs.Skip.{past, many, skipped_at}
use Rattle.path.specs.Steps.{inside, inside_at}
use Rattle.stored.specs.Stored.{layout, resolved_at}
use Rattle.text.specs.Utf8.{well_formed}
use Rattle.handle.specs.declared.Handle.{Handle}
use Rattle.section.specs.Section.{data_length, section_of}
use Rattle.path.specs.declared.Cursor.{Cursor}
use Rattle.order.specs.Order.{Table, Refuses}
use Rattle.promises.specs.Handles.{NoFit}

-- there is room for a map or an array with so many children: 65,536 values in one operation, the first of which counts 1
abbrev pub Enterable : Charge → ℕ → Type 0
Enterable c count = count ≤ room_left (since_entry c.values) most_values

-- there is room for a text or bytes of this size: 2,097,152 bytes in one operation, once something was entered
abbrev pub Payable : Charge → ℕ → Type 0
Payable c size = (c.values ≡ 0) ⊎ (size ≤ room_left c.payload most_payload)

-- the limits leave room for a value of this kind and size, and a text is UTF-8
abbrev pub Allowed : List ℕ → Charge → Kind → ℕ → ℕ → Type 0
Allowed s c kind.Pointer n p = ⊥
Allowed s c kind.Text n p = Payable c n × (well_formed (take n (drop p s)) ≡ true)
Allowed s c kind.Double n p = Unit
Allowed s c kind.Bytes n p = Payable c n
Allowed s c kind.U16 n p = Unit
Allowed s c kind.U32 n p = Unit
Allowed s c kind.Map n p = Enterable c (n * 2)
Allowed s c kind.I32 n p = Unit
Allowed s c kind.U64 n p = Unit
Allowed s c kind.U128 n p = Unit
Allowed s c kind.Array n p = Enterable c n
Allowed s c kind.Boolean n p = Unit
Allowed s c kind.Float n p = Unit
Allowed s c kind.Unknown n p = ⊥

-- a value can be read: it lies whole in the section, behind at most one pointer, and is allowed
pub record Readable (s : List ℕ) (place : ℕ) (c : Charge) : Type 0 where
  pub kind : Kind
  pub size : ℕ
  pub payload : ℕ
  pub next : ℕ
  pub lies : resolved_at s place ≡ Some (layout kind size payload next)
  pub allowed : Allowed s c kind size payload

-- a value or a path: 9, 15, 14; what 14 means is the entry's own
abbrev pub value_table : List ℕ → Handle → Cursor → Type 0 → Table
value_table s h c Malformed =
    (Refuses 9, NoFit s h)
    ∷ (Refuses 15, data_length h ≤ c.place)
    ∷ (Refuses 14, Malformed)
    ∷ []

-- read: 14 where no value can be read
abbrev pub read_table : List ℕ → Handle → Cursor → Table
read_table s h c = value_table s h c (Readable (section_of s h) c.place c.charge → ⊥)

-- a key of a map that may be compared: where its bytes lie, how many they are, where its value begins, and what is charged then
pub record Key : Type 0 where
  pub from : ℕ
  pub size : ℕ
  pub value : ℕ
  pub charge : Charge

-- it is a text, behind at most one pointer, and within the limits
abbrev pub IsKey : List ℕ → ℕ → Charge → Key → Type 0
IsKey s place c k = (name_at s place ≡ Some (name k.from k.size k.value)) × (paid c k.size ≡ Some k.charge)

abbrev pub bytes_of : List ℕ → Key → List ℕ
bytes_of s k = take k.size (drop k.from s)

-- the key that is looked for, and its value begins inside the section
abbrev pub Lands : List ℕ → List ℕ → Key → Type 0
Lands s key k = (bytes_of s k ≡ key) × (k.value < length s)

-- another key, and its value can be passed over to where the rest is
abbrev pub Passes : List ℕ → List ℕ → Key → (ℕ → Charge → Type 0) → Type 0
Passes s key k Rest = (bytes_of s k ≡ key → ⊥) × ((next : ℕ) × ((d : Charge) × ((skipped_at s k.value k.charge ≡ Some (past next d)) × Rest next d)))

-- n pairs from a place on can be searched: up to the first equal key, or to the end, where it is absent
abbrev pub Searchable : List ℕ → List ℕ → ℕ → ℕ → Charge → Type 0
Searchable s key zero place c = Unit
Searchable s key (suc n) place c = (k : Key) × (IsKey s place c k × (Lands s key k ⊎ Passes s key k (Searchable s key n)))

-- a map lies there and may be entered, and its pairs can be searched
pub record KeyStepped (s : List ℕ) (c : Cursor) (key : List ℕ) : Type 0 where
  pub first : ℕ
  pub pairs : ℕ
  pub charge : Charge
  pub map : inside_at s c 7 ≡ Some (inside first pairs charge)
  pub search : Searchable s key pairs first charge

-- the elements before one can be passed over, and it begins inside the section
pub record Reaches (s : List ℕ) (first before : ℕ) (c : Charge) : Type 0 where
  pub place : ℕ
  pub charge : Charge
  pub passed : many (skipped_at s) before (Some (past first c)) ≡ Some (past place charge)
  pub inside : place < length s

-- an array lies there and may be entered, and the element can be reached, unless the index is past the last
pub record IndexStepped (s : List ℕ) (c : Cursor) (index : ℕ) (backward : Bool) : Type 0 where
  pub first : ℕ
  pub elements : ℕ
  pub charge : Charge
  pub array : inside_at s c 11 ≡ Some (inside first elements charge)
  pub reach : index < elements → Reaches s first (cond backward (elements - 1 - index) index) charge

-- steps: 14 where there is no way into the value
abbrev pub step_key_table : List ℕ → Handle → Cursor → List ℕ → Table
step_key_table s h c key = value_table s h c (KeyStepped (section_of s h) c key → ⊥)

abbrev pub step_index_table : List ℕ → Handle → Cursor → ℕ → Bool → Table
step_index_table s h c index backward = value_table s h c (IndexStepped (section_of s h) c index backward → ⊥)

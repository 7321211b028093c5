-- More values worked by hand, as theorems by computation.
use Prim.Native.Nat.{ℕ, zero, suc}
use mathlib.Core.Path.{◌≡◌, refl}
use mathlib.Core.Bool.{true, false}
use mathlib.Core.List.{List, [], ◌∷◌}
use lib.IntN.{pos, negsuc}
use Rattle.std.specs.Prelude.{Some, None, Ok, Err}
use lib.Ieee.{binary32, binary64, of_bits}
use Rattle.number.specs.Bytes.{be_at}
use Rattle.refusal.specs.declared.Refusal.TheVariants.{Malformed}
use Rattle.control.specs.Control.{kind_of, size_at, sized_at, head_at}
use Rattle.control.specs.Pointers.{link_at, behind_at}
use Rattle.control.specs.declared.Kind.TheVariants as kind
use Rattle.charge.specs.Charge.{entered, paid}
use Rattle.stored.specs.Stored.{layout, lying_at, stored_at, resolved_at}
use Rattle.text.specs.Utf8.{run}
use Rattle.value.specs.Value.{read_at}
use Rattle.value.specs.Empty.{empty_at}
use Rattle.value.specs.declared.Value.{Value}
use Rattle.value.specs.declared.Value.TheVariants as value
use Rattle.skip.specs.Skip.{past, entry_at, many, skip_at, skipped_at}
use Rattle.key.specs.Keys.{same_bytes, name_at}
use Rattle.path.specs.Steps.{cursor, inside_at, pair_at, find_from, key_step, index_step}
use Rattle.claims.specs.Cases.{charged, Reads}

-- a short one is widened with zeros, and the lowest
pub signed :
    Reads (0x03 ∷ 0x01 ∷ 0xff ∷ 0xff ∷ 0xff ∷ []) (Ok (value.I32 (pos 16777215)))
    × Reads (0x04 ∷ 0x01 ∷ 0x80 ∷ 0x00 ∷ 0x00 ∷ 0x00 ∷ []) (Ok (value.I32 (negsuc 2147483647)))
unfolding read_at resolved_at stored_at lying_at head_at sized_at size_at kind_of be_at
signed = (refl, refl)

-- each other kind
pub kinds :
    Reads (0xe0 ∷ []) (Ok (value.Map 0))
    × Reads (0x02 ∷ 0x04 ∷ []) (Ok (value.Array 2))
    × Reads (0x82 ∷ 0x01 ∷ 0x02 ∷ []) (Ok (value.Bytes 2))
    × Reads (0xa2 ∷ 0x01 ∷ 0x02 ∷ []) (Ok (value.U16 258))
    × Reads (0xc0 ∷ []) (Ok (value.U32 0))
    × Reads (0x02 ∷ 0x02 ∷ 0x01 ∷ 0x00 ∷ []) (Ok (value.U64 256))
    × Reads (0x01 ∷ 0x07 ∷ []) (Ok (value.Boolean true))
    × Reads (0x00 ∷ 0x07 ∷ []) (Ok (value.Boolean false))
unfolding read_at resolved_at stored_at lying_at head_at sized_at size_at kind_of be_at paid entered
kinds = (refl, refl, refl, refl, refl, refl, refl, refl)

-- a number of nine bytes reaches into the upper half
pub halves : Reads (0x09 ∷ 0x03 ∷ 0x01 ∷ 0x00 ∷ 0x00 ∷ 0x00 ∷ 0x00 ∷ 0x00 ∷ 0x00 ∷ 0x00 ∷ 0x02 ∷ []) (Ok (value.U128 1 2))
unfolding read_at resolved_at stored_at lying_at head_at sized_at size_at kind_of be_at
halves = refl

-- a double comes with its bits: -0.0, a NaN with a payload, the smallest subnormal
abbrev double : ℕ → Value
double bits = value.Double (of_bits binary64 bits) bits

pub doubles :
    Reads (0x68 ∷ 0x80 ∷ 0x00 ∷ 0x00 ∷ 0x00 ∷ 0x00 ∷ 0x00 ∷ 0x00 ∷ 0x00 ∷ []) (Ok (double 0x8000000000000000))
    × Reads (0x68 ∷ 0x7f ∷ 0xf8 ∷ 0x00 ∷ 0x00 ∷ 0x00 ∷ 0x00 ∷ 0x12 ∷ 0x34 ∷ []) (Ok (double 0x7ff8000000001234))
    × Reads (0x68 ∷ 0x00 ∷ 0x00 ∷ 0x00 ∷ 0x00 ∷ 0x00 ∷ 0x00 ∷ 0x00 ∷ 0x01 ∷ []) (Ok (double 1))
unfolding read_at resolved_at stored_at lying_at head_at sized_at size_at kind_of be_at
doubles = (refl, refl, refl)

pub float : Reads (0x04 ∷ 0x08 ∷ 0xff ∷ 0xc0 ∷ 0x00 ∷ 0x01 ∷ []) (Ok (value.Float (of_bits binary32 0xffc00001) 0xffc00001))
unfolding read_at resolved_at stored_at lying_at head_at sized_at size_at kind_of be_at
float = refl

-- texts: "ok", F4 8F BF BF; a surrogate half, an overlong, F4 90 80 80
pub texts :
    Reads (0x42 ∷ 0x6f ∷ 0x6b ∷ []) (Ok (value.Text 2))
    × Reads (0x44 ∷ 0xf4 ∷ 0x8f ∷ 0xbf ∷ 0xbf ∷ []) (Ok (value.Text 4))
    × Reads (0x43 ∷ 0xed ∷ 0xa0 ∷ 0x80 ∷ []) (Err Malformed)
    × Reads (0x42 ∷ 0xc0 ∷ 0x80 ∷ []) (Err Malformed)
    × Reads (0x44 ∷ 0xf4 ∷ 0x90 ∷ 0x80 ∷ 0x80 ∷ []) (Err Malformed)
unfolding read_at resolved_at stored_at lying_at head_at sized_at size_at kind_of be_at paid run
texts = (refl, refl, refl, refl, refl)

-- refused: a size that the type does not allow, a payload past the end, types 12 and 262
pub refused :
    Reads (0xa3 ∷ 0x00 ∷ 0x00 ∷ 0x00 ∷ []) (Err Malformed)
    × Reads (0x67 ∷ 0x00 ∷ 0x00 ∷ 0x00 ∷ 0x00 ∷ 0x00 ∷ 0x00 ∷ 0x00 ∷ []) (Err Malformed)
    × Reads (0x45 ∷ []) (Err Malformed)
    × Reads (0x00 ∷ 0x05 ∷ []) (Err Malformed)
    × Reads (0x00 ∷ 0xff ∷ []) (Err Malformed)
unfolding read_at resolved_at stored_at lying_at head_at sized_at size_at kind_of be_at
refused = (refl, refl, refl, refl, refl)

-- "ok", a pointer to it, and a pointer to that pointer: one is followed, two are not
abbrev pointed : List ℕ
pointed = 0x42 ∷ 0x6f ∷ 0x6b ∷ 0x20 ∷ 0x00 ∷ 0x20 ∷ 0x03 ∷ []

pub pointers : (read_at pointed 3 (charged 0 0) ≡ Ok (value.Text 2)) × (read_at pointed 5 (charged 0 0) ≡ Err Malformed)
unfolding read_at resolved_at stored_at lying_at head_at sized_at size_at kind_of link_at be_at paid run
pointers = (refl, refl)

-- the header alone decides what is empty
pub empty :
    (empty_at (0xe0 ∷ []) 0 ≡ Ok true)
    × (empty_at (0x00 ∷ 0x04 ∷ []) 0 ≡ Ok true)
    × (empty_at (0x00 ∷ 0x05 ∷ []) 0 ≡ Ok false)
    × (empty_at (0x45 ∷ []) 0 ≡ Ok false)
    × (empty_at pointed 5 ≡ Err Malformed)
unfolding empty_at behind_at head_at sized_at size_at kind_of link_at be_at
empty = (refl, refl, refl, refl, refl)

-- "a", then a map whose key is a pointer to it: {a: 5}
abbrev behind : List ℕ
behind = 0x41 ∷ 0x61 ∷ 0xe1 ∷ 0x20 ∷ 0x00 ∷ 0xc1 ∷ 0x05 ∷ []

pub key_behind :
    (key_step behind (cursor 2 (charged 0 0)) (0x61 ∷ []) ≡ Ok (Some (cursor 5 (charged 3 1))))
    × (read_at behind 5 (charged 3 1) ≡ Ok (value.U32 5))
    × (key_step behind (cursor 2 (charged 0 0)) (0x62 ∷ []) ≡ Ok None)
    × (key_step behind (cursor 0 (charged 0 0)) (0x61 ∷ []) ≡ Err Malformed)
unfolding key_step inside_at find_from pair_at name_at same_bytes read_at resolved_at stored_at lying_at head_at sized_at size_at kind_of link_at be_at paid entered skip_at entry_at many
key_behind = (refl, refl, refl, refl)

-- [1, 2]: 0 from the start, 0 from the end, and an index that is absent
abbrev list : List ℕ
list = 0x02 ∷ 0x04 ∷ 0xc1 ∷ 0x01 ∷ 0xc1 ∷ 0x02 ∷ []

pub indexes :
    (index_step list (cursor 0 (charged 0 0)) 0 false ≡ Ok (Some (cursor 2 (charged 3 0))))
    × (index_step list (cursor 0 (charged 0 0)) 0 true ≡ Ok (Some (cursor 4 (charged 3 0))))
    × (index_step list (cursor 0 (charged 0 0)) 2 true ≡ Ok None)
unfolding index_step inside_at resolved_at stored_at lying_at head_at sized_at size_at kind_of be_at entered skip_at entry_at many
indexes = (refl, refl, refl)

-- an array that says it has an element and ends: a step would land at the section's end
pub at_end : index_step (0x01 ∷ 0x04 ∷ []) (cursor 0 (charged 0 0)) 0 false ≡ Err Malformed
unfolding index_step inside_at resolved_at stored_at lying_at head_at sized_at size_at kind_of be_at entered skip_at entry_at many
at_end = refl

-- n arrays inside each other around a number
unfoldable pub nested : ℕ → List ℕ
nested zero = 0xa0 ∷ []
nested (suc n) = 0x01 ∷ 0x04 ∷ nested n

-- 128 are passed over, 129 are not
pub levels : (skipped_at (nested 128) 0 (charged 0 0) ≡ Some (past 257 (charged 129 0))) × (skipped_at (nested 129) 0 (charged 0 0) ≡ None)
unfolding nested skip_at entry_at stored_at lying_at head_at sized_at size_at kind_of be_at entered many
levels = (refl, refl)

-- wherever they lie: an array of 65,535 elements may be entered, one of 65,536 not; a map of 32,767 pairs, one of 32,768 not
module _ (s : List ℕ) (at payload next : ℕ) where
  pub array_most : resolved_at s at ≡ Some (layout kind.Array 65535 payload next) → read_at s at (charged 0 0) ≡ Ok (value.Array 65535)
  unfolding read_at entered
  array_most e = rw e

  pub array_over : resolved_at s at ≡ Some (layout kind.Array 65536 payload next) → read_at s at (charged 0 0) ≡ Err Malformed
  unfolding read_at entered
  array_over e = rw e

  pub map_most : resolved_at s at ≡ Some (layout kind.Map 32767 payload next) → read_at s at (charged 0 0) ≡ Ok (value.Map 32767)
  unfolding read_at entered
  map_most e = rw e

  pub map_over : resolved_at s at ≡ Some (layout kind.Map 32768 payload next) → read_at s at (charged 0 0) ≡ Err Malformed
  unfolding read_at entered
  map_over e = rw e

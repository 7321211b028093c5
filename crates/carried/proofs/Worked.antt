-- Walks worked by hand: docs/SCOPE.md, "Bytes and images worked by hand".
use Prim.Native.Nat.{ℕ, zero, suc, ◌+◌, ◌-◌, ◌*◌, ◌^◌}
use mathlib.Core.Path.{◌≡◌, refl}
use mathlib.Core.Bool.{Bool, true, false, ◌&&◌}
use mathlib.Core.List.{List, [], ◌∷◌, ◌++◌}
use lib.ListN.{set, replicate}
use lib.Dec.{eqb}
use Rattle.number.specs.Keys.{number_of, key_of}
use Rattle.number.specs.Bytes.{be_at}
use Rattle.handle.specs.declared.Handle.{Handle}
use Rattle.handle.specs.Handle.{fits_of}
use Rattle.tree.specs.Record.{record_at}
use Rattle.tree.specs.Lookup.{down, answer_of}
use Rattle.tree.specs.Marker.{marker}
use Rattle.control.specs.Control as control
use Rattle.control.specs.Pointers.{behind_at}
use Rattle.value.specs.Empty.{empty_at}
use Rattle.place.specs.Kinds.{is_alias, kind_of}
use Rattle.place.specs.Shape.{newest_out}
use Rattle.place.specs.Turns.{child_key, turn_of}
use Rattle.place.specs.declared.Options.{Options}
use Rattle.place.specs.declared.NetworkKind.{NetworkKind}
use Rattle.place.specs.declared.NetworkKind.TheVariants.{V4, V6, V4InV6Subtree}
use Rattle.std.specs.Prelude.{Option, Some, None, is_none, Err}
use Rattle.refusal.specs.declared.Refusal.TheVariants as refusal
use Rattle.place.specs.declared.Outcome.{Outcome}
use Rattle.place.specs.declared.Outcome.TheVariants.{Given, Failed, Refused, Paused, End}
use Rattle.walk.specs.declared.Range.TheVariants.{Ipv4, Ipv6}
use Rattle.walk.specs.declared.Walk.{Walk}
use Rattle.walk.specs.Walks.{none}
use Rattle.walk.specs.Starts.{first_of, begin_of}
use Rattle.walk.specs.Calls.{out_of_shape, goes, next_of}

-- an image of one node of 24-bit records and the data E0, an empty map, without its metadata
abbrev pub image : ℕ → ℕ → List ℕ
image left right = 0 ∷ 0 ∷ left ∷ 0 ∷ 0 ∷ right ∷ replicate 16 0 ++ 224 ∷ marker

-- its handle
abbrev pub opened : ℕ → ℕ → ℕ → Handle
opened version start4 depth4 = record { version = version; nodes = 1; size = 24; base = 22; meta = 37; start4 = start4; depth4 = depth4 }

abbrev options : Bool → Bool → Bool → Options
options aliased dataless skipempty = record { aliased = aliased; dataless = dataless; skipempty = skipempty }

abbrev pub net : ℕ → ℕ → NetworkKind → Option ℕ → Outcome
net key len kind offset = Given (record { key = key_of key; len = len; kind = kind; offset = offset })

abbrev is_v4 : NetworkKind → Bool
is_v4 V4 = true
is_v4 V6 = false
is_v4 V4InV6Subtree = false

-- the answers of n calls in a row, and the places taken in them
unfoldable pub answers : List ℕ → Handle → ℕ → Walk → List Outcome
answers s h zero w = []
answers s h (suc n) w = (next_of s h w 100).answer ∷ answers s h n (next_of s h w 100).walk

unfoldable pub spent : List ℕ → Handle → ℕ → Walk → ℕ
spent s h zero w = 0
spent s h (suc n) w = (next_of s h w 100).taken + spent s h n (next_of s h w 100).walk

-- 9: image A with left record 0
abbrev whole : Walk
whole = (begin_of (image 0 1) (opened 4 0 0) (Ipv4 0 0) (options false true false)).walk

-- an IPv4 network without data
unfoldable pub is_bare : ℕ → ℕ → Outcome → Bool
is_bare key len (Given n) = eqb (number_of n.key) key && eqb n.len len && is_v4 n.kind && is_none n.offset
is_bare key len (Failed k) = false
is_bare key len (Refused k) = false
is_bare key len Paused = false
is_bare key len End = false

unfoldable pub is_end : Outcome → Bool
is_end (Given n) = false
is_end (Failed k) = false
is_end (Refused k) = false
is_end Paused = false
is_end End = true

-- n networks, the last of them 128.0.0.0/1, each before it half as long and beside it; then End
unfoldable pub halving : List ℕ → Handle → ℕ → Walk → Bool
halving s h zero w = is_end (next_of s h w 100).answer
halving s h (suc n) w = is_bare (2 ^ (31 - n)) (n + 1) (next_of s h w 100).answer && halving s h n (next_of s h w 100).walk

-- 12 first, then 32 networks from 0.0.0.1/32 on, then End
pub endless :
    let c = next_of (image 0 1) (opened 4 0 0) whole 100 in
    (c.answer ≡ Failed refusal.TooDeep) × (halving (image 0 1) (opened 4 0 0) 32 c.walk ≡ true)
unfolding halving is_bare is_end next_of goes out_of_shape newest_out turn_of kind_of is_alias child_key answer_of begin_of first_of fits_of down record_at be_at
endless = (refl, refl)

pub places : spent (image 0 1) (opened 4 0 0) 34 whole ≡ 65
unfolding spent next_of goes out_of_shape newest_out turn_of kind_of is_alias child_key answer_of begin_of first_of fits_of down record_at be_at
places = refl

-- 10: an IPv6 image with both records 17: the default walk gives ::/1 alone; with aliases 8000::/1 too
pub default : answers (image 17 17) (opened 6 17 1) 2 (begin_of (image 17 17) (opened 6 17 1) (Ipv6 (key_of 0) 0) (options false false false)).walk ≡ net 0 1 V6 (Some 0) ∷ End ∷ []
unfolding answers next_of goes out_of_shape newest_out turn_of kind_of is_alias child_key answer_of begin_of first_of fits_of down record_at be_at
default = refl

pub aliases :
    answers (image 17 17) (opened 6 17 1) 3 (begin_of (image 17 17) (opened 6 17 1) (Ipv6 (key_of 0) 0) (options true false false)).walk
    ≡ net 0 1 V6 (Some 0) ∷ net (2 ^ 127) 1 V6 (Some 0) ∷ End ∷ []
unfolding answers next_of goes out_of_shape newest_out turn_of kind_of is_alias child_key answer_of begin_of first_of fits_of down record_at be_at
aliases = refl

-- its default walk over 0:0:0:1::/64 gives nothing: the place has the range's key, an alias
pub nothing : answers (image 17 17) (opened 6 17 1) 1 (begin_of (image 17 17) (opened 6 17 1) (Ipv6 (key_of (2 ^ 64)) 64) (options false false false)).walk ≡ End ∷ []
unfolding answers next_of goes out_of_shape newest_out turn_of kind_of is_alias child_key answer_of begin_of first_of fits_of down record_at be_at
nothing = refl

-- 11: records 1 and 17: 10.0.0.0/8, networks without data included, is ::/1 with no data
pub contained :
    answers (image 1 17) (opened 6 1 1) 2 (begin_of (image 1 17) (opened 6 1 1) (Ipv4 (10 * 2 ^ 24) 8) (options false true false)).walk
    ≡ net 0 1 V6 None ∷ End ∷ []
unfolding answers next_of goes out_of_shape newest_out turn_of kind_of is_alias child_key answer_of begin_of first_of fits_of down record_at be_at
contained = refl

-- 7: image A, and a forged walk of width 32: the newest place is taken, then one of length 33 is out of shape
abbrev forged : Walk
forged =
    record {
      places =
          set (set (replicate 129 none) 0 (record { value = 17; key = key_of 0; len = 33 })) 1
          (record { value = 1; key = key_of 0; len = 1 });
      count = 2;
      width = 32;
      options = options false false false;
    }

pub misshapen :
    let c = next_of (image 17 1) (opened 4 0 0) forged 100 in
    (c.answer ≡ Refused refusal.OutOfShape) × (c.taken ≡ 1) × (c.walk.count ≡ 1)
unfolding next_of goes out_of_shape newest_out turn_of kind_of is_alias child_key answer_of begin_of first_of fits_of down record_at be_at
misshapen = (refl, refl, refl)

-- image A: the empty map is skipped where empty values are, and handed out where they are not
pub empty :
    answers (image 17 1) (opened 4 0 0) 2 (begin_of (image 17 1) (opened 4 0 0) (Ipv4 0 0) (options false true true)).walk
    ≡ net (2 ^ 31) 1 V4 None ∷ End ∷ []
unfolding answers empty_at behind_at control.head_at control.sized_at control.size_at control.kind_of next_of goes out_of_shape newest_out turn_of kind_of is_alias child_key answer_of begin_of first_of fits_of down record_at be_at
empty = refl

pub kept :
    answers (image 17 1) (opened 4 0 0) 3 (begin_of (image 17 1) (opened 4 0 0) (Ipv4 0 0) (options false true false)).walk
    ≡ net 0 1 V4 (Some 0) ∷ net (2 ^ 31) 1 V4 None ∷ End ∷ []
unfolding answers next_of goes out_of_shape newest_out turn_of kind_of is_alias child_key answer_of begin_of first_of fits_of down record_at be_at
kept = refl

-- forged walks of one place
abbrev single : ℕ → ℕ → ℕ → Walk
single value len width =
    record {
      places = set (replicate 129 none) 0 (record { value = value; key = key_of 3; len = len });
      count = 1;
      width = width;
      options = options false true false;
    }

-- a value above 2^32 is 11, and the walk goes on
pub beyond : answers (image 17 1) (opened 4 0 0) 2 (single (2 ^ 40) 5 32) ≡ Failed refusal.Record ∷ End ∷ []
unfolding answers next_of goes out_of_shape newest_out turn_of kind_of is_alias child_key answer_of begin_of first_of fits_of down record_at be_at
beyond = refl

-- width 128 over an IPv4 image is no 13; width 32 over an IPv6 image without IPv4 subtree gives an IPv6 network, its key masked
pub strange :
    (answers (image 17 1) (opened 4 0 0) 1 (single 17 127 128) ≡ net 2 127 V6 (Some 0) ∷ [])
    × (answers (image 17 17) (opened 6 17 1) 1 (single 17 31 32) ≡ net 2 31 V6 (Some 0) ∷ [])
unfolding answers next_of goes out_of_shape newest_out turn_of kind_of is_alias child_key answer_of begin_of first_of fits_of down record_at be_at
strange = (refl, refl)

-- no place waiting is End at any budget; one that waits is Paused at none; a handle that does not fit is 9
pub ends :
    ((next_of (image 17 1) (opened 4 0 0) (single 17 1 32) 0).answer ≡ Paused)
    × ((next_of (image 17 1) (opened 4 1 0) (single 17 1 32) 5).answer ≡ Refused refusal.Handle)
    × ((next_of (image 17 1) (opened 4 0 0) (begin_of (image 17 1) (opened 4 0 0) (Ipv4 0 33) (options true true true)).walk 0).answer ≡ End)
unfolding next_of goes out_of_shape newest_out turn_of kind_of is_alias child_key answer_of begin_of first_of fits_of down record_at be_at
ends = (refl, refl, refl)

-- 9, 16, 10
pub starts :
    ((begin_of (image 17 1) (opened 4 1 0) (Ipv6 (key_of 0) 129) (options true true true)).status ≡ Err refusal.Handle)
    × ((begin_of (image 17 1) (opened 4 0 0) (Ipv6 (key_of 0) 129) (options true true true)).status ≡ Err refusal.PrefixLength)
    × ((begin_of (image 17 1) (opened 4 0 0) (Ipv6 (key_of 0) 128) (options true true true)).status ≡ Err refusal.Ipv6InIpv4)
unfolding next_of goes out_of_shape newest_out turn_of kind_of is_alias child_key answer_of begin_of first_of fits_of down record_at be_at
starts = (refl, refl, refl)

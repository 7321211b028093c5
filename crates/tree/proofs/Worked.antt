-- Cases worked by hand, as theorems about the definitions.
use mathlib.Core.Path.{◌≡◌, refl}
use mathlib.Core.List.{[], ◌∷◌, ◌++◌}
use Rattle.number.specs.Bytes.{be_at}
use Rattle.tree.specs.Record.{record_at}
use Rattle.std.specs.Prelude.{Some, None}
use Rattle.tree.specs.Marker.{marker, agree, last_below, marker_of}

-- the second node of two
pub second : (record_at (0 ∷ 0 ∷ 0 ∷ 0 ∷ 0 ∷ 0 ∷ 0 ∷ 18 ∷ 52 ∷ 86 ∷ 122 ∷ 188 ∷ 222 ∷ 240 ∷ []) 28 1 0 ≡ 118633558)
unfolding record_at be_at
second = refl

-- no marker
pub empty : marker_of [] ≡ None
unfolding marker_of last_below agree
empty = refl

-- 13 bytes of it
pub cut : marker_of (171 ∷ 205 ∷ 239 ∷ 77 ∷ 97 ∷ 120 ∷ 77 ∷ 105 ∷ 110 ∷ 100 ∷ 46 ∷ 99 ∷ 111 ∷ []) ≡ None
unfolding marker_of last_below agree
cut = refl

-- another last byte
pub other : marker_of (171 ∷ 205 ∷ 239 ∷ 77 ∷ 97 ∷ 120 ∷ 77 ∷ 105 ∷ 110 ∷ 100 ∷ 46 ∷ 99 ∷ 111 ∷ 110 ∷ []) ≡ None
unfolding marker_of last_below agree
other = refl

-- at the very start, the very end, both: the last counts
pub start : marker_of (marker ++ 1 ∷ 2 ∷ []) ≡ Some 0
unfolding marker_of last_below agree
start = refl

pub end : marker_of (1 ∷ 2 ∷ 3 ∷ marker) ≡ Some 3
unfolding marker_of last_below agree
end = refl

pub twice : marker_of (marker ++ 0 ∷ marker) ≡ Some 15
unfolding marker_of last_below agree
twice = refl

-- beginnings that overlap: AB CD AB CD EF MaxMind.com
pub again : marker_of (171 ∷ 205 ∷ marker) ≡ Some 2
unfolding marker_of last_below agree
again = refl

-- Worked cases of table 3-7: the edges of what is well formed.
use mathlib.Core.Path.{◌≡◌, refl}
use mathlib.Core.List.{[], ◌∷◌}
use mathlib.Core.Bool.{true, false}
use Rattle.text.specs.Utf8.{run, well_formed, encode, encode_all}

nothing : well_formed [] ≡ true
unfolding run
nothing = refl

euro : well_formed (0xe2 ∷ 0x82 ∷ 0xac ∷ []) ≡ true
unfolding run
euro = refl

euro_encoded : encode 0x20ac ≡ 0xe2 ∷ 0x82 ∷ 0xac ∷ []
unfolding encode
euro_encoded = refl

-- one number of each length
lengths : encode_all (0x7a ∷ 0xdf ∷ 0x6c34 ∷ 0x10ffff ∷ [])
    ≡ 0x7a ∷ 0xc3 ∷ 0x9f ∷ 0xe6 ∷ 0xb0 ∷ 0xb4 ∷ 0xf4 ∷ 0x8f ∷ 0xbf ∷ 0xbf ∷ []
unfolding encode encode_all
lengths = refl

last_scalar : well_formed (0xf4 ∷ 0x8f ∷ 0xbf ∷ 0xbf ∷ []) ≡ true
unfolding run
last_scalar = refl

past_last : well_formed (0xf4 ∷ 0x90 ∷ 0x80 ∷ 0x80 ∷ []) ≡ false
unfolding run
past_last = refl

surrogate : well_formed (0xed ∷ 0xa0 ∷ 0x80 ∷ []) ≡ false
unfolding run
surrogate = refl

overlong_two : well_formed (0xc0 ∷ 0x80 ∷ []) ≡ false
unfolding run
overlong_two = refl

overlong_three : well_formed (0xe0 ∷ 0x80 ∷ 0x80 ∷ []) ≡ false
unfolding run
overlong_three = refl

truncated : well_formed (0xe2 ∷ 0x82 ∷ []) ≡ false
unfolding run
truncated = refl

lone_trailing : well_formed (0x80 ∷ []) ≡ false
unfolding run
lone_trailing = refl

-- When a walk is out of shape, as far as its count, its width and its newest place say.
use Rattle.std.specs.Prelude.{ℕ, Bool, not, ◌&&◌, ◌||◌, eqb, ltb}
use Rattle.number.specs.declared.Key.{Key}
use Rattle.place.specs.declared.Place.{Place}
use Rattle.place.specs.Kinds.{is_ipv4_in_ipv6}

-- count above 129; width not 32 or 128
abbrev pub frame_out : ℕ → ℕ → Bool
frame_out count width = ltb 129 count || not (eqb width 32 || eqb width 128)

-- width 32 and any of a key's upper 96 bits set
abbrev pub key_out : ℕ → Key → Bool
key_out width k = eqb width 32 && not (is_ipv4_in_ipv6 k)

-- newest length above width; width 32 and any of the newest key's upper 96 bits set;
-- or newest internal, its length below width, and count 129
unfoldable pub newest_out : ℕ → ℕ → ℕ → Place → Bool
newest_out nodes count width p =
    ltb width p.len || key_out width p.key
    || (ltb p.value nodes && ltb p.len width && eqb count 129)

-- IPv4 in a tree of IPv6 addresses: aliases, and the kinds of networks.
use Rattle.std.specs.Prelude.{ℕ, ◌-◌, ◌^◌, Bool, cond, not, ◌&&◌, eqb, ltb, leb}
use Rattle.number.specs.declared.Key.{Key}
use Rattle.number.specs.Keys.{number_of}
use Rattle.handle.specs.declared.Handle.{Handle}
use Rattle.place.specs.declared.Place.{Place}
use Rattle.place.specs.declared.Options.{Options}
use Rattle.place.specs.declared.NetworkKind.{NetworkKind}
use Rattle.place.specs.declared.NetworkKind.TheVariants.{V4, V6, V4InV6Subtree}

-- a key whose upper 96 bits are 0: it is not above FFFFFFFF hex
abbrev pub is_ipv4_in_ipv6 : Key → Bool
is_ipv4_in_ipv6 k = leb (number_of k) (2 ^ 32 - 1)

-- the IPv4 start of an IPv6 image is internal
abbrev pub has_ipv4_subtree : Handle → Bool
has_ipv4_subtree h = eqb h.version 6 && ltb h.start4 h.nodes

-- an alias of the IPv4 addresses: IPv4 start isn't 0, the value equals it, width is 128 and the key is above FFFFFFFF hex
unfoldable pub is_alias : Handle → ℕ → Place → Bool
is_alias h width p = not (eqb h.start4 0) && eqb p.value h.start4 && eqb width 128 && not (is_ipv4_in_ipv6 p.key)

-- an alias is skipped unless asked for
abbrev pub is_skipped : Handle → Options → ℕ → Place → Bool
is_skipped h o width p = not o.aliased && is_alias h width p

-- a place of an IPv6 walk inside the IPv4 subtree
abbrev pub in_ipv4_subtree : Handle → Place → Bool
in_ipv4_subtree h p = is_ipv4_in_ipv6 p.key && has_ipv4_subtree h && leb h.depth4 p.len

-- a network of an IPv4 walk, unless the image is IPv6 and has no IPv4 subtree; of an IPv6 walk, inside the IPv4 subtree or not
unfoldable pub kind_of : Handle → ℕ → Place → NetworkKind
kind_of h width p =
    cond (eqb width 32)
    (cond (eqb h.version 6 && not (has_ipv4_subtree h)) V6 V4)
    (cond (in_ipv4_subtree h p) V4InV6Subtree V6)

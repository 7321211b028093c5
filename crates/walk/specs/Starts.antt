-- The start of a walk: a range of addresses, and options.
use Rattle.std.specs.Prelude.{ℕ, Bool, cond, not, ◌&&◌, List, length, eqb, leb, Ok, Err}
use Rattle.refusal.specs.declared.Refusal.{Refusal}
use Rattle.refusal.specs.declared.Refusal.TheVariants as refusal
use Rattle.number.specs.declared.Key.{Key}
use Rattle.number.specs.Keys.{number_of, key_of, masked_to}
use Rattle.handle.specs.declared.Handle.{Handle}
use Rattle.handle.specs.Handle.{fits_of}
use Rattle.tree.specs.Lookup.{down}
use Rattle.tree.specs.declared.Place as tree
use Rattle.place.specs.Kinds.{has_ipv4_subtree}
use Rattle.place.specs.declared.Options.{Options}
use Rattle.walk.specs.declared.Range.{Range}
use Rattle.walk.specs.declared.Range.TheVariants.{Ipv4, Ipv6}
use Rattle.walk.specs.declared.Asked.{Asked}
use Rattle.walk.specs.declared.First.{First}
use Rattle.walk.specs.declared.Started.{Started}
use Rattle.walk.specs.Walks.{walk_from, no_walk}

-- every address of the image's own width
abbrev pub whole_range : Handle → Range
whole_range h = cond (eqb h.version 4) (Ipv4 0 0) (Ipv6 (record { high = 0; low = 0 }) 0)

-- what a range asks: a key of a width, and how many of its bits count
abbrev pub asked_of : Range → Asked
asked_of (Ipv4 addr len) = record { key = record { high = 0; low = addr }; width = 32; len = len }
asked_of (Ipv6 addr len) = record { key = addr; width = 128; len = len }

-- its host bits count as 0
abbrev pub range_key : Asked → Key
range_key a = key_of (masked_to (number_of a.key) a.width a.len)

-- an IPv6 range in an IPv4 image
abbrev pub is_ipv6_in_ipv4 : Handle → ℕ → Bool
is_ipv6_in_ipv4 h width = eqb h.version 4 && eqb width 128

-- an IPv4 range in an IPv6 image that has no IPv4 subtree
abbrev pub lacks_subtree : Handle → ℕ → Bool
lacks_subtree h width = eqb width 32 && eqb h.version 6 && not (has_ipv4_subtree h)

-- where the walk of a width starts in the tree
abbrev pub start_node : Handle → ℕ → ℕ
start_node h width = cond (eqb width 128) 0 h.start4

-- the way down to the range; it may meet a terminal before the range's length is spent
abbrev pub way_to : List ℕ → Handle → Asked → tree.Place
way_to s h a = down s h.size h.nodes (number_of (range_key a)) a.width 0 a.len (start_node h a.width)

-- the first place and the width: where no IPv4 subtree is, the one IPv6 network at IPv4 depth, key 0; else the way's end
unfoldable pub first_of : List ℕ → Handle → Asked → First
first_of s h a =
    cond (lacks_subtree h a.width)
    (record { place = record { value = h.start4; key = record { high = 0; low = 0 }; len = h.depth4 }; width = 128 })
    (record { place = record { value = (way_to s h a).node; key = range_key a; len = (way_to s h a).depth }; width = a.width })

abbrev pub refused_start : Refusal → Started
refused_start e = record { status = Err e; walk = no_walk }

abbrev pub begun_with : First → Options → Started
begun_with f o = record { status = Ok tt; walk = walk_from f.place f.width o }

-- 9, 16, 10 in that order
unfoldable pub begin_of : List ℕ → Handle → Range → Options → Started
begin_of s h r o =
    cond (fits_of h (length s))
    (cond (leb (asked_of r).len (asked_of r).width)
    (cond (is_ipv6_in_ipv4 h (asked_of r).width) (refused_start refusal.Ipv6InIpv4) (begun_with (first_of s h (asked_of r)) o))
    (refused_start refusal.PrefixLength))
    (refused_start refusal.Handle)

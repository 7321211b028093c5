-- What a walk of a range hands out with everything included, by the networks of the whole tree.
use Rattle.std.specs.Prelude.{ℕ, ◌+◌, ◌-◌, ◌^◌, ◌≤◌, ◌<◌, ◌≡◌, Bool, true, cond, ◌&&◌, ◌⊎◌, List, [], ◌∷◌, map, length, eqb, ltb}
use Rattle.number.specs.Keys.{number_of, masked_to}
use Rattle.handle.specs.declared.Handle.{Handle}
use Rattle.tiles.specs.Lists.{All, only}
use Rattle.tiles.specs.Tiles.{Tile, tile, networks}
use Rattle.place.specs.Kinds.{has_ipv4_subtree}
use Rattle.place.specs.declared.NetworkKind.{NetworkKind}
use Rattle.place.specs.declared.NetworkKind.TheVariants.{V4, V6, V4InV6Subtree}
use Rattle.place.specs.declared.Outcome.{Outcome}
use Rattle.place.specs.declared.Outcome.TheVariants.{Given, Failed, Refused, Paused, End}
use Rattle.walk.specs.declared.Range.{Range}
use Rattle.walk.specs.declared.Asked.{Asked}
use Rattle.walk.specs.Starts.{asked_of, lacks_subtree, begin_of}
use Rattle.walk.specs.Calls.{data_section}
use Rattle.fullwalk.specs.FullWalk.{width_of, everything, Walked, length_of, outcome_of}

-- a range's first address, and how many of the last bits are free
abbrev pub lowest : Asked → ℕ
lowest a = masked_to (number_of a.key) a.width a.len

abbrev pub free : Asked → ℕ
free a = a.width - a.len

-- an address is a number of its width, as its type in the code says
abbrev pub Typed : Asked → Type 0
Typed a = number_of a.key < 2 ^ a.width

-- a network shares an address with the block of addresses from x on that has e free bits: each begins before the other's end
abbrev pub meets : ℕ → ℕ → Tile → Bool
meets x e t = ltb t.key (x + 2 ^ e) && ltb x (t.key + 2 ^ t.rest)

abbrev pub Inside : ℕ → ℕ → Tile → Type 0
Inside x e t = (x ≤ t.key) × (t.key + 2 ^ t.rest ≤ x + 2 ^ e)

abbrev pub Contains : ℕ → ℕ → Tile → Type 0
Contains x e t = (t.key ≤ x) × (x + 2 ^ e ≤ t.key + 2 ^ t.rest)

-- an IPv4 range over the IPv4 subtree of an IPv6 image
abbrev pub over_subtree : Handle → Asked → Bool
over_subtree h a = eqb a.width 32 && has_ipv4_subtree h

-- such a walk shows a network of the subtree as one of IPv4, whose length is counted from the subtree
abbrev pub counted : Handle → ℕ → ℕ
counted h len = len - h.depth4

abbrev pub plain : NetworkKind → NetworkKind
plain V4 = V4
plain V6 = V6
plain V4InV6Subtree = V4

abbrev pub from_subtree : Handle → Outcome → Outcome
from_subtree h (Given n) = Given (record { key = n.key; len = counted h n.len; kind = plain n.kind; offset = n.offset })
from_subtree h (Failed k) = Failed k
from_subtree h (Refused k) = Refused k
from_subtree h Paused = Paused
from_subtree h End = End

-- what a walk of a range hands out for a network of the tree: what the full walk does, or that as seen from the subtree
abbrev pub seen_from : Handle → Asked → Outcome → Outcome
seen_from h a o = cond (over_subtree h a) (from_subtree h o) o

module _ (s : List ℕ) (h : Handle) (r : Range) where
  -- the networks of the full list that share an address with the range
  abbrev pub sharing : List Tile
  sharing = only (meets (lowest (asked_of r)) (free (asked_of r))) (networks s h.size h.nodes (width_of h))

  pub record Ranged : Type 0 where
    -- they are what a walk of the range with everything included hands out, whatever the budgets
    pub given :
        {l : List Outcome} → Walked s h (begin_of s h r everything).walk l
        → l ≡ map (λ t. seen_from h (asked_of r) (outcome_of h (length (data_section s h)) t)) sharing
    -- they lie inside the range, or it is one that contains it
    pub placed :
        All (Inside (lowest (asked_of r)) (free (asked_of r))) sharing
        ⊎ ((t : Tile) × ((sharing ≡ t ∷ []) × Contains (lowest (asked_of r)) (free (asked_of r)) t))
    -- an IPv4 range of an IPv6 image without an IPv4 subtree: it is the one network at IPv4 depth, key 0
    pub alone : lacks_subtree h (asked_of r).width ≡ true → sharing ≡ tile 0 (128 - h.depth4) h.start4 ∷ []
    -- over the subtree, the IPv4 depth that is left out of their lengths is in them
    pub deep : over_subtree h (asked_of r) ≡ true → All (λ t. h.depth4 ≤ length_of h (length (data_section s h)) t) sharing

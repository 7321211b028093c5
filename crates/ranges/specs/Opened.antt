-- A full walk of an image, lookups by the public definition.
use Rattle.std.specs.Prelude.{ℕ, ◌^◌, ◌<◌, ◌≡◌, List, map, length, Option, Result, Ok}
use Rattle.number.specs.Keys.{number_of}
use Rattle.handle.specs.declared.Handle.{Handle}
use Rattle.lookup.specs.declared.Address.{Address}
use Rattle.lookup.specs.declared.Address.TheVariants.{V4, V6}
use Rattle.refusal.specs.declared.Refusal.{Refusal}
use Rattle.tree.specs.Lookup.{found}
use Rattle.tree.specs.declared.Found.{Found}
use Rattle.maxminddb.specs.Entries.{lookup_of}
use Rattle.tiles.specs.Lists.{All, Some, Once, Ordered}
use Rattle.tiles.specs.Tiles.{networks}
use Rattle.place.specs.declared.Outcome.{Outcome}
use Rattle.place.specs.declared.Outcome.TheVariants.{Given}
use Rattle.walk.specs.Calls.{data_section}
use Rattle.fullwalk.specs.FullWalk.{width_of, full_walk, Walked, Error, outcome_of, tree_networks, Covers, Precedes, FaultyAt}

-- an address by its key: the upper 96 bits of an IPv4 address's are 0
abbrev pub key_in : Address → ℕ
key_in (V4 low) = low
key_in (V6 high low) = number_of (record { high = high; low = low })

-- what may be looked up: an IPv4 address, which is a number of 32 bits as its type in the code says; an IPv6 address in an IPv6 image
abbrev pub Askable : Handle → Address → Type 0
Askable h (V4 low) = low < 2 ^ 32
Askable h (V6 high low) = h.version ≡ 6

-- a network's length and offset, or no data, as a lookup answers
abbrev pub found_by : ℕ → Option ℕ → Result Found Refusal
found_by len offset = Ok (found offset len)

-- all that a full walk of an image without error has handed out: the networks are the tree's own, they ascend, each address
-- lies in exactly one, and looking it up (an IPv4 address of an IPv6 tree by its key) gives that network's length and offset,
-- or no data
pub record Tiled (image : List ℕ) (h : Handle) (l : List Outcome) : Type 0 where
  pub own : l ≡ map Given (tree_networks image h)
  pub ascend : Ordered (Precedes (width_of h)) (tree_networks image h)
  pub one : (x : ℕ) → x < 2 ^ width_of h → Once (Covers (width_of h) x) (tree_networks image h)
  pub agree :
      All (λ n. (a : Address) → Askable h a → Covers (width_of h) (key_in a) n → lookup_of image h a ≡ found_by n.len n.offset)
      (tree_networks image h)

-- whatever the budgets, if a full walk reaches End, it has handed out one outcome for each of the tree's own networks, in their
-- order; an error was reported exactly if some address's path is faulty; if none was, what it handed out is as said above
pub record Full (image : List ℕ) (h : Handle) : Type 0 where
  pub each :
      {l : List Outcome} → Walked image h (full_walk image h) l
      → l ≡ map (outcome_of h (length (data_section image h))) (networks image h.size h.nodes (width_of h))
  pub error_then : {l : List Outcome} → Walked image h (full_walk image h) l → Some Error l → (x : ℕ) × ((x < 2 ^ width_of h) × FaultyAt image h x)
  pub then_error : {l : List Outcome} → Walked image h (full_walk image h) l → (x : ℕ) → x < 2 ^ width_of h → FaultyAt image h x → Some Error l
  pub clean : {l : List Outcome} → Walked image h (full_walk image h) l → (Some Error l → ⊥) → Tiled image h l

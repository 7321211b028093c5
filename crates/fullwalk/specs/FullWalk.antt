-- A walk of all addresses, carried on to its end, and what it hands out.
use Rattle.std.specs.Prelude.{Option, ℕ, ◌+◌, ◌-◌, ◌^◌, ◌≤◌, ◌<◌, ◌≡◌, true, false, cond, List, [], ◌∷◌, ◌++◌, map, length, eqb, ltb}
use Rattle.std.specs.Prelude as option
use Rattle.refusal.specs.declared.Refusal.TheVariants as refusal
use Rattle.number.specs.Keys.{number_of, key_of}
use Rattle.handle.specs.declared.Handle.{Handle}
use Rattle.tree.specs.Lookup.{found, answer_of}
use Rattle.tree.specs.declared.Found.{Found}
use Rattle.tiles.specs.Lists.{All, Some, Once, Ordered}
use Rattle.tiles.specs.Tiles.{Tile, networks, path, Faulty}
use Rattle.place.specs.Kinds.{kind_of}
use Rattle.place.specs.declared.Options.{Options}
use Rattle.place.specs.declared.Network.{Network}
use Rattle.place.specs.declared.Outcome.{Outcome}
use Rattle.place.specs.declared.Outcome.TheVariants.{Given, Failed, Refused, Paused, End}
use Rattle.walk.specs.declared.Range.{Range}
use Rattle.walk.specs.declared.Range.TheVariants.{Ipv4, Ipv6}
use Rattle.walk.specs.declared.Walk.{Walk}
use Rattle.walk.specs.Starts.{begin_of}
use Rattle.walk.specs.Calls.{data_section, next_of}

-- the width of an image's addresses
abbrev pub width_of : Handle → ℕ
width_of h = cond (eqb h.version 6) 128 32

-- all of them
abbrev pub all_addresses : Handle → Range
all_addresses h = cond (eqb h.version 6) (Ipv6 (key_of 0) 0) (Ipv4 0 0)

-- aliases and networks without data included, empty values kept
abbrev pub everything : Options
everything = record { aliased = true; dataless = true; skipempty = false }

abbrev pub full_walk : List ℕ → Handle → Walk
full_walk s h = (begin_of s h (all_addresses h) everything).walk

-- what a call hands out
abbrev pub handed_out : Outcome → List Outcome
handed_out (Given n) = Given n ∷ []
handed_out (Failed k) = Failed k ∷ []
handed_out (Refused k) = Refused k ∷ []
handed_out Paused = []
handed_out End = []

-- a walk carried on by calls with any budgets until End, and all that they hand out
pub data Walked (s : List ℕ) (h : Handle) : Walk → List Outcome → Type 0 where
  ends : {w : Walk} (b : ℕ) → (next_of s h w b).answer ≡ End → Walked s h w []
  goes_on : {w : Walk} {l : List Outcome} (b : ℕ) → Walked s h (next_of s h w b).walk l → Walked s h w (handed_out (next_of s h w b).answer ++ l)

-- an error was reported
abbrev pub Error : Outcome → Type 0
Error (Given n) = ⊥
Error (Failed k) = Unit
Error (Refused k) = Unit
Error Paused = ⊥
Error End = ⊥

module _ (h : Handle) (room : ℕ) where
  abbrev pub length_of : Tile → ℕ
  length_of t = width_of h - t.rest

  abbrev pub network_for : Tile → Option ℕ → Network
  network_for t offset =
      record {
        key = key_of t.key;
        len = length_of t;
        kind = kind_of h (width_of h) (record { value = t.node; key = key_of t.key; len = length_of t });
        offset = offset;
      }

  -- what is to be handed out for a network of the tree, by what its addresses' paths end in
  abbrev pub shown : Tile → Option Found → Outcome
  shown t (option.Some f) = Given (network_for t f.offset)
  shown t option.None = Failed refusal.Record

  abbrev pub outcome_of : Tile → Outcome
  outcome_of t =
      cond (ltb t.node h.nodes) (Failed refusal.TooDeep)
      (shown t (answer_of h.nodes room t.node (length_of t)))

-- the networks of the whole tree, where no path is faulty
abbrev pub offset_in : Option Found → Option ℕ
offset_in (option.Some f) = f.offset
offset_in option.None = option.None

abbrev pub tree_networks : List ℕ → Handle → List Network
tree_networks s h =
    let room = length (data_section s h) in
    map (λ t. network_for h room t (offset_in (answer_of h.nodes room t.node (length_of h room t)))) (networks s h.size h.nodes (width_of h))

-- an address in a network
abbrev pub Covers : ℕ → ℕ → Network → Type 0
Covers width x n = (number_of n.key ≤ x) × (x < number_of n.key + 2 ^ (width - n.len))

-- one network ends before another begins
abbrev pub Precedes : ℕ → Network → Network → Type 0
Precedes width n m = number_of n.key + 2 ^ (width - n.len) ≤ number_of m.key

-- a network's length and offset, or no data, as a lookup answers
abbrev pub told_by : ℕ → Option ℕ → Option Found
told_by len offset = option.Some (found offset len)

-- the lookup of an address
abbrev pub lookup : List ℕ → Handle → ℕ → Option Found
lookup s h x =
    let p = path s h.size h.nodes (width_of h) x in
    answer_of h.nodes (length (data_section s h)) p.node p.depth

-- what a walk without error has handed out: the networks are the tree's own, they ascend, each address lies in exactly one, and
-- looking it up gives that network's length and offset, or no data
pub record Clean (s : List ℕ) (h : Handle) (l : List Outcome) : Type 0 where
  pub own : l ≡ map Given (tree_networks s h)
  pub ascend : Ordered (Precedes (width_of h)) (tree_networks s h)
  pub one : (x : ℕ) → x < 2 ^ width_of h → Once (Covers (width_of h) x) (tree_networks s h)
  pub agree : All (λ n. (x : ℕ) → Covers (width_of h) x n → lookup s h x ≡ told_by n.len n.offset) (tree_networks s h)

-- the path of an address is faulty
abbrev pub FaultyAt : List ℕ → Handle → ℕ → Type 0
FaultyAt s h x = Faulty h.nodes (length (data_section s h)) (path s h.size h.nodes (width_of h) x)

-- what is claimed of all that a full walk handed out: an error exactly if some address's path is faulty, and what holds if none was
pub record Answers (s : List ℕ) (h : Handle) (l : List Outcome) : Type 0 where
  pub error_then : Some Error l → (x : ℕ) × ((x < 2 ^ width_of h) × FaultyAt s h x)
  pub then_error : (x : ℕ) → x < 2 ^ width_of h → FaultyAt s h x → Some Error l
  pub clean : (Some Error l → ⊥) → Clean s h l

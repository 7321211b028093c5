-- The places of the tree that the walk of verification visits, and where a path is faulty.
use Rattle.std.specs.Prelude.{ℕ, ◌≤◌, ◌<◌, ◌≡◌, false, ◌⊎◌, List, Some, None, length}
use Rattle.number.specs.Keys.{bit_from_top}
use Rattle.handle.specs.declared.Handle.{Handle}
use Rattle.tree.specs.Lookup.{found, answer_of}
use Rattle.place.specs.Kinds.{is_alias}
use Rattle.place.specs.Turns.{child_of}
use Rattle.place.specs.declared.Place.{Place}
use Rattle.walk.specs.Walks.{none}
use Rattle.walk.specs.Calls.{data_section}
use Rattle.fullwalk.specs.FullWalk.{width_of}

module _ (s : List ℕ) (h : Handle) where
  -- an internal node above full width leads to its two children, unless it is an alias, which is skipped
  pub data Leads : Place → Place → Type 0 where
    here : {p : Place} → Leads p p
    below : {p q : Place} (bit : ℕ) → bit < 2 → is_alias h (width_of h) p ≡ false → p.value < h.nodes → p.len < width_of h
        → Leads (child_of s h.size (width_of h) p bit) q → Leads p q

  -- from the root: node 0, key 0, length 0
  abbrev pub Visited : Place → Type 0
  Visited p = Leads none p

  abbrev pub room : ℕ
  room = length (data_section s h)

  -- an internal node at full width, or a record of 11
  abbrev pub FaultyAt : Place → Type 0
  FaultyAt p = ((p.value < h.nodes) × (width_of h ≤ p.len)) ⊎ (answer_of h.nodes room p.value p.len ≡ None)

  -- an offset to which a visited place leads that is no alias
  pub record OffsetOf (o : ℕ) : Type 0 where
    pub place : Place
    pub visited : Visited place
    pub own : is_alias h (width_of h) place ≡ false
    pub length : ℕ
    pub leads : answer_of h.nodes room place.value place.len ≡ Some (found (Some o) length)

  -- the places on the way of an address, one bit a level
  pub data OnWay (address : ℕ) : Place → Type 0 where
    root : OnWay address none
    child : {p : Place} → OnWay address p → p.value < h.nodes → p.len < width_of h
        → OnWay address (child_of s h.size (width_of h) p (bit_from_top address (width_of h) p.len))

  -- no alias on it
  abbrev pub Unaliased : ℕ → Type 0
  Unaliased address = (p : Place) → OnWay address p → is_alias h (width_of h) p ≡ false

-- Where the ways of a walk end, what is handed out there, and what the options leave out.
use Rattle.std.specs.Prelude.{ℕ, zero, suc, ◌-◌, Bool, true, false, cond, not, ◌&&◌, ◌||◌, List, [], ◌∷◌, ◌++◌, map, length, eqb, ltb, Option, Some, None, Result, Ok, Err}
use Rattle.refusal.specs.declared.Refusal.{Refusal}
use Rattle.refusal.specs.declared.Refusal.TheVariants as refusal
use Rattle.number.specs.Keys.{number_of, masked_to}
use Rattle.handle.specs.declared.Handle.{Handle}
use Rattle.tree.specs.Lookup.{answer_of}
use Rattle.tree.specs.declared.Found.{Found}
use Rattle.value.specs.Empty.{empty_at}
use Rattle.tiles.specs.Lists.{only}
use Rattle.tiles.specs.Tiles.{Tile, tile}
use Rattle.place.specs.Kinds.{is_alias}
use Rattle.place.specs.Turns.{child_of, network_of}
use Rattle.place.specs.declared.Place.{Place}
use Rattle.place.specs.declared.Options.{Options}
use Rattle.place.specs.declared.Outcome.{Outcome}
use Rattle.place.specs.declared.Outcome.TheVariants.{Given, Failed}

-- a place where a way ends, and whether the way to it from the walk's start meets an alias place
pub record End : Type 0 where
  pub place : Place
  pub alias : Bool

abbrev pub ending : Place → Bool → End
ending p alias = record { place = p; alias = alias }

-- the ends of the ways below a place with as many bits left, the left ones first, where `met` says whether an alias place was met
-- before it: an internal node leads on to its children while a bit is left, at any other place a way ends
unfoldable pub ends_below : List ℕ → Handle → ℕ → ℕ → Bool → Place → List End
ends_below s h width zero met p = ending p (met || is_alias h width p) ∷ []
ends_below s h width (suc rest) met p =
    let alias = met || is_alias h width p in
    cond (ltb p.value h.nodes)
    (ends_below s h width rest alias (child_of s h.size width p 0) ++ ends_below s h width rest alias (child_of s h.size width p 1))
    (ending p alias ∷ [])

-- the ends of the ways from a walk's first place
abbrev pub ends_from : List ℕ → Handle → ℕ → Place → List End
ends_from s h width p = ends_below s h width (width - p.len) false p

-- the network of the tree that a place shows
abbrev pub tile_at : ℕ → Place → Tile
tile_at width p = tile (masked_to (number_of p.key) width p.len) (width - p.len) p.value

abbrev pub is_empty : Result Bool Refusal → Bool
is_empty (Ok empty) = empty
is_empty (Err e) = false

abbrev pub is_malformed : Result Bool Refusal → Bool
is_malformed (Ok empty) = false
is_malformed (Err e) = true

-- d is the data section
module _ (d : List ℕ) (h : Handle) (width : ℕ) where
  abbrev pub answer_at : Place → Option Found
  answer_at p = answer_of h.nodes (length d) p.value p.len

  -- a network's value, by its header; where there is none, nothing is empty or malformed
  abbrev pub peeked_at : Option ℕ → Result Bool Refusal
  peeked_at (Some offset) = empty_at d offset
  peeked_at None = Ok false

  abbrev pub peeked : Option Found → Result Bool Refusal
  peeked (Some f) = peeked_at f.offset
  peeked None = Ok false

  abbrev pub shown_by : Place → Option Found → Outcome
  shown_by p (Some f) = Given (network_of h width p f.offset)
  shown_by p None = Failed refusal.Record

  -- what a walk of everything hands out where a way ends: a network, 11, or 12 at an internal node
  abbrev pub outcome_at : Place → Outcome
  outcome_at p = cond (ltb p.value h.nodes) (Failed refusal.TooDeep) (shown_by p (answer_at p))

  module _ (o : Options) where
    -- left out are those whose way meets an alias place, unless aliases are asked for; those without data, unless asked for; those
    -- with an empty value, if such are skipped
    abbrev pub left_out : End → Bool
    left_out e =
        not o.aliased && e.alias
        || not o.dataless && eqb e.place.value h.nodes
        || o.skipempty && is_empty (peeked (answer_at e.place))

    -- the others are handed out as in a walk of everything, but for 14 where empty values are skipped and a value is malformed
    abbrev pub shown_at : End → Outcome
    shown_at e = cond (o.skipempty && is_malformed (peeked (answer_at e.place))) (Failed refusal.Malformed) (outcome_at e.place)

    abbrev pub given_of : List End → List Outcome
    given_of l = map shown_at (only (λ e. not (left_out e)) l)

-- What a walk of a range hands out, by its options.
use Rattle.std.specs.Prelude.{ℕ, ◌-◌, ◌≡◌, not, List, map}
use Rattle.number.specs.Keys.{number_of, masked_to}
use Rattle.handle.specs.declared.Handle.{Handle}
use Rattle.tiles.specs.Lists.{only}
use Rattle.tiles.specs.Tiles.{Tile, leaves}
use Rattle.place.specs.declared.Place.{Place}
use Rattle.place.specs.declared.Options.{Options}
use Rattle.place.specs.declared.Outcome.{Outcome}
use Rattle.walk.specs.declared.Range.{Range}
use Rattle.walk.specs.declared.First.{First}
use Rattle.walk.specs.Starts.{asked_of, first_of, begin_of}
use Rattle.walk.specs.Calls.{data_section}
use Rattle.fullwalk.specs.FullWalk.{everything, Walked}
use Rattle.fullwalk.specs.Ends.{End, ends_from, tile_at, outcome_at, left_out, shown_at}

module _ (s : List ℕ) (h : Handle) where
  -- the tree's networks below a place
  abbrev pub below : ℕ → Place → List Tile
  below width p = leaves s h.size h.nodes (width - p.len) p.value (masked_to (number_of p.key) width p.len)

  module _ (r : Range) where
    -- the walk's first place and its width
    abbrev pub first : First
    first = first_of s h (asked_of r)

    -- the ends of the ways from there
    abbrev pub ways : List End
    ways = ends_from s h first.width first.place

    -- what is claimed of the walks of a range that are carried on to their end, whatever the budgets
    pub record Choices : Type 0 where
      -- there is one end of a way for each of the tree's networks below the first place, in their order
      pub tiled : map (λ (e : End). tile_at first.width e.place) ways ≡ below first.width first.place
      -- with everything included there is one outcome for each
      pub whole :
          {l : List Outcome} → Walked s h (begin_of s h r everything).walk l
          → l ≡ map (λ (e : End). outcome_at (data_section s h) h first.width e.place) ways
      -- with other options those that they leave out are missing, and nothing else changes but for 14
      pub chosen :
          (o : Options) {l : List Outcome} → Walked s h (begin_of s h r o).walk l
          → l ≡ map (shown_at (data_section s h) h first.width o) (only (λ e. not (left_out (data_section s h) h first.width o e)) ways)

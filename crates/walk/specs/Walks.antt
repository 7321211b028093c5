-- A walk as one value: its places, how many of them wait, the width, and the options that it was begun with.
use Rattle.std.specs.Prelude.{ℕ, ◌+◌, ◌-◌, false, get_or, set, replicate}
use Rattle.place.specs.declared.Place.{Place}
use Rattle.place.specs.declared.Options.{Options}
use Rattle.walk.specs.declared.Walk.{Walk}

-- the empty place
abbrev pub none : Place
none = record { value = 0; key = record { high = 0; low = 0 }; len = 0 }

-- a walk with one place waiting
abbrev pub walk_from : Place → ℕ → Options → Walk
walk_from p width o = record { places = set (replicate 129 none) 0 p; count = 1; width = width; options = o }

-- the walk of a refused start: width 32, no place waiting, no option
abbrev pub no_walk : Walk
no_walk =
    record {
      places = replicate 129 none;
      count = 0;
      width = 32;
      options = record { aliased = false; dataless = false; skipempty = false };
    }

-- the newest of the waiting places
abbrev pub newest : Walk → Place
newest w = get_or w.places (w.count - 1) none

-- without the newest; its room is empty
abbrev pub taken : Walk → Walk
taken w = record { places = set w.places (w.count - 1) none; count = w.count - 1; width = w.width; options = w.options }

-- with one place more
abbrev pub added : Walk → Place → Walk
added w p = record { places = set w.places w.count p; count = w.count + 1; width = w.width; options = w.options }

-- A walk in words: word 4 i and the three after it are place i, then come count, width and options.
use Rattle.std.specs.Prelude.{ℕ, zero, suc, ◌+◌, ◌*◌, ◌/◌, ◌%◌, Bool, cond, ◌&&◌, List, length, get_or, set, replicate, eqb, leb}
use Rattle.place.specs.declared.Place.{Place}
use Rattle.place.specs.declared.Options.{Options}
use Rattle.walk.specs.declared.Walk.{Walk}
use Rattle.walk.specs.Walks.{none}

-- the options as bits of a number
abbrev pub options_of : ℕ → Options
options_of n = record { aliased = eqb (n % 2) 1; dataless = eqb (n / 2 % 2) 1; skipempty = eqb (n / 4 % 2) 1 }

abbrev pub bit_of : Bool → ℕ → ℕ
bit_of b n = cond b n 0

abbrev pub options_number : Options → ℕ
options_number o = bit_of o.aliased 1 + bit_of o.dataless 2 + bit_of o.skipempty 4

-- how many words a walk takes
abbrev pub walk_words : ℕ
walk_words = 519

-- enough words, and no options but the three
unfoldable pub holds_walk : List ℕ → Bool
holds_walk ws = leb walk_words (length ws) && leb (get_or ws 518 0) 7

-- the place that four words hold
abbrev pub place_at : List ℕ → ℕ → Place
place_at ws i =
    record {
      value = get_or ws (i * 4) 0;
      key = record { high = get_or ws (i * 4 + 1) 0; low = get_or ws (i * 4 + 2) 0 };
      len = get_or ws (i * 4 + 3) 0;
    }

-- n places from place i on, read into their rooms
unfoldable pub places_from : List ℕ → ℕ → ℕ → List Place → List Place
places_from ws zero i ps = ps
places_from ws (suc n) i ps = places_from ws n (i + 1) (set ps i (place_at ws i))

-- the walk that words hold
unfoldable pub walk_of : List ℕ → Walk
walk_of ws =
    record {
      places = places_from ws 129 0 (replicate 129 none);
      count = get_or ws 516 0;
      width = get_or ws 517 0;
      options = options_of (get_or ws 518 0);
    }

-- a place into its four words
abbrev pub put_place : List ℕ → ℕ → Place → List ℕ
put_place ws i p = set (set (set (set ws (i * 4) p.value) (i * 4 + 1) p.key.high) (i * 4 + 2) p.key.low) (i * 4 + 3) p.len

-- n places from place i on, each into its words
unfoldable pub put_from : List Place → ℕ → ℕ → List ℕ → List ℕ
put_from ps zero i ws = ws
put_from ps (suc n) i ws = put_from ps n (i + 1) (put_place ws i (get_or ps i none))

-- words with a walk put into them
unfoldable pub held : List ℕ → Walk → List ℕ
held ws w = set (set (set (put_from w.places 129 0 ws) 516 w.count) 517 w.width) 518 (options_number w.options)

-- Small data sections, worked: each with its recorded places, and whether it is accepted.
use Prim.Native.Nat.{ℕ, zero, suc, ◌+◌}
use mathlib.Core.Path.{◌≡◌, refl}
use mathlib.Core.List.{List, [], ◌∷◌, ◌++◌}
use mathlib.Core.Bool.{Bool, true, false, cond, not, ◌&&◌}
use Rattle.number.specs.Bytes.{be_at}
use Rattle.control.specs.Control.{kind_of, size_at, sized_at, head_at}
use Rattle.control.specs.Pointers.{link_at}
use Rattle.stored.specs.Stored.{lying_at, stored_at}
use Rattle.text.specs.Utf8.{run}
use Rattle.marks.specs.Marks.{contains}
use Rattle.graph.specs.Visit.{by_kind, visit_at}
use Rattle.graph.specs.Graph.{leave, target_at, many_at, past, on_visit, skip_at}
use Rattle.sweep.specs.Sweep.{onward, sweep_at, data_accepted}

record Case : Type 0 where
  section : List ℕ
  recorded : List ℕ
  accepted : Bool

abbrev case : List ℕ → List ℕ → Bool → Case
case s ts b = record { section = s; recorded = ts; accepted = b }

-- n arrays of one element inside each other, with an empty number inside
nested : ℕ → List ℕ
nested zero = 0xa0 ∷ []
nested (suc n) = 0x01 ∷ 0x04 ∷ nested n

-- every other place, n of them
even : ℕ → ℕ → List ℕ
even zero t = []
even (suc n) t = t ∷ even n (t + 2)

cases : List Case
cases =
    -- nothing recorded: nothing is looked at
    case (0xff ∷ []) [] true
    -- an empty map
    ∷ case (0xe0 ∷ []) (0 ∷ []) true
    -- a map whose key is a number
    ∷ case (0xe1 ∷ 0xa1 ∷ 0x01 ∷ 0xa1 ∷ 0x02 ∷ []) (0 ∷ []) true
    -- a key that is no UTF-8
    ∷ case (0xe1 ∷ 0x41 ∷ 0xff ∷ 0xe0 ∷ []) (0 ∷ []) false
    -- a text that is cut off
    ∷ case (0x42 ∷ 0x6f ∷ []) (0 ∷ []) false
    -- a pointer to a pointer to a text
    ∷ case (0x42 ∷ 0x6f ∷ 0x6b ∷ 0x20 ∷ 0x00 ∷ 0x20 ∷ 0x03 ∷ []) (5 ∷ []) true
    -- a pointer to itself, and a map that has a pointer to the map
    ∷ case (0x20 ∷ 0x00 ∷ []) (0 ∷ []) false
    ∷ case (0xe1 ∷ 0x41 ∷ 0x61 ∷ 0x20 ∷ 0x00 ∷ []) (0 ∷ []) false
    -- two pointers to one place
    ∷ case (0x02 ∷ 0x04 ∷ 0x20 ∷ 0x06 ∷ 0x20 ∷ 0x06 ∷ 0xa0 ∷ []) (0 ∷ []) true
    -- a pointer out of the section, and one that is cut off
    ∷ case (0x20 ∷ 0x02 ∷ []) (0 ∷ []) false
    ∷ case (0x20 ∷ []) (0 ∷ []) false
    -- 3D is a pointer of class 3
    ∷ case (0xa0 ∷ 0x3d ∷ 0x00 ∷ 0x00 ∷ 0x00 ∷ 0x00 ∷ []) (1 ∷ []) true
    -- types 12 and 16, and a number of too many bytes
    ∷ case (0x00 ∷ 0x05 ∷ []) (0 ∷ []) false
    ∷ case (0x00 ∷ 0x09 ∷ []) (0 ∷ []) false
    ∷ case (0xa3 ∷ 0x00 ∷ 0x00 ∷ 0x00 ∷ []) (0 ∷ []) false
    -- a fault that no recorded place leads to
    ∷ case (0xe0 ∷ 0x41 ∷ 0xff ∷ []) (0 ∷ []) true
    -- 128 levels, and one more
    ∷ case (nested 128) (0 ∷ []) true
    ∷ case (nested 129) (0 ∷ []) false
    -- a pointer is a level too
    ∷ case (nested 127 ++ 0x20 ∷ 0x00 ∷ []) (255 ∷ []) true
    ∷ case (nested 128 ++ 0x20 ∷ 0x00 ∷ []) (257 ∷ []) false
    -- 41 values are walked for one place, and 860 for all, where 648 are allowed
    ∷ case (nested 40) (0 ∷ []) true
    ∷ case (nested 40) (even 40 0) false
    ∷ []

same : Bool → Bool → Bool
same a b = cond a b (not b)

right : List Case → Bool
right [] = true
right (c ∷ cs) = same (data_accepted c.section (contains c.recorded)) c.accepted && right cs

worked : right cases ≡ true
unfolding cases nested even same right data_accepted onward sweep_at leave target_at many_at past on_visit skip_at by_kind visit_at stored_at lying_at head_at sized_at size_at kind_of link_at be_at run contains
worked = refl

-- The tree walk of verification: all networks of the image in order, those without data included, aliases skipped.
use Rattle.std.specs.Prelude.{ℕ, zero, suc, ◌+◌, ◌-◌, ◌*◌, ◌/◌, ◌<◌, true, false, cond, List, [], ◌∷◌, ◌++◌, Option, Some, None, Result, Ok, Err, get_or, eqb}
use Rattle.refusal.specs.declared.Refusal.{Refusal}
use Rattle.refusal.specs.declared.Refusal.TheVariants as refusal
use Rattle.handle.specs.declared.Handle.{Handle}
use Rattle.marks.specs.Marks.{record_each}
use Rattle.place.specs.declared.Options.{Options}
use Rattle.place.specs.declared.Outcome.{Outcome}
use Rattle.place.specs.declared.Outcome.TheVariants as outcome
use Rattle.walk.specs.declared.Walk.{Walk}
use Rattle.walk.specs.Starts.{whole_range, begin_of}
use Rattle.walk.specs.Calls.{next_of}
use Rattle.walk.specs.Rows.{no_data}

-- how a walk ended: behind its last network, or by a refusal
abbrev pub Recorded : Type 0
Recorded = Result (Unit {0}) Refusal

-- aliases skipped, networks without data included, empty values kept
abbrev pub options : Options
options = record { aliased = false; dataless = true; skipempty = false }

abbrev pub offsets_of : Option ℕ → List ℕ
offsets_of (Some o) = o ∷ []
offsets_of None = []

-- so many words have room for an offset's state
abbrev pub Roomy : ℕ → Option ℕ → Type 0
Roomy n (Some o) = o / 64 * 2 + 1 < n
Roomy n None = Unit

-- the offset in a row's last word
abbrev pub offset_in : ℕ → Option ℕ
offset_in word = cond (eqb word no_data) None (Some word)

-- the offsets of n rows, from a row on
unfoldable pub offsets_from : List ℕ → ℕ → ℕ → List ℕ
offsets_from rows row zero = []
offsets_from rows row (suc n) = offsets_of (offset_in (get_or rows (row * 5 + 4) 0)) ++ offsets_from rows (row + 1) n

-- a network, with its data's offset, or the walk's end
pub data Reply : Type 0 where
  On : Option ℕ → Reply
  Ended : Recorded → Reply

-- what a call's answer says: 11 and 12 end the walk, and 21 where the budget is spent with places still waiting
abbrev pub reply_of : Outcome → Reply
reply_of (outcome.Given n) = On n.offset
reply_of (outcome.Failed r) = Ended (Err r)
reply_of (outcome.Refused r) = Ended (Err r)
reply_of outcome.Paused = Ended (Err refusal.Budget)
reply_of outcome.End = Ended (Ok tt)

-- the offsets of the networks that the walk met, in order, and how it ended
pub record Tour : Type 0 where
  pub offsets : List ℕ
  pub ended : Recorded

abbrev pub on_reply : Reply → Tour → Tour
on_reply (On o) rest = record { offsets = offsets_of o ++ rest.offsets; ended = rest.ended }
on_reply (Ended r) rest = record { offsets = []; ended = r }

abbrev pub too_many_tour : Tour
too_many_tour = record { offsets = []; ended = Err refusal.TooManyNetworks }

-- a walk carried on call by call, with so many more networks allowed and so much of the budget left
unfoldable pub toured : List ℕ → Handle → ℕ → ℕ → Walk → Tour
toured s h zero b w = on_reply (reply_of (next_of s h w b).answer) too_many_tour
toured s h (suc more) b w =
    on_reply (reply_of (next_of s h w b).answer) (toured s h more (b - (next_of s h w b).taken) (next_of s h w b).walk)

-- the whole walk: 19 for more than 3 times node count networks
unfoldable pub tour_of : List ℕ → Handle → ℕ → Tour
tour_of s h budget = toured s h (3 * h.nodes) budget (begin_of s h (whole_range h) options).walk

-- how the walk ended, and the scratch then
pub record Done : Type 0 where
  pub ended : Recorded
  pub words : List ℕ

abbrev pub done : Recorded → List ℕ → Done
done r ws = record { ended = r; words = ws }

abbrev pub marked : Tour → List ℕ → Done
marked t ws = done t.ended (record_each ws t.offsets)

-- Demand 3 of docs/SCOPE.md, whole.
use Rattle.std.specs.Prelude.{ℕ, ◌≡◌, List, Ok}
use Rattle.refusal.specs.declared.Refusal.TheVariants as refusal
use Rattle.handle.specs.declared.Handle.{Handle}
use Rattle.place.specs.declared.Options.{Options}
use Rattle.place.specs.declared.Outcome.TheVariants.{Refused, Paused}
use Rattle.walk.specs.declared.Range.{Range}
use Rattle.walk.specs.declared.Walk.{Walk}
use Rattle.walk.specs.Starts.{asked_of, begin_of}
use Rattle.walk.specs.Calls.{next_of}
use Rattle.carried.specs.Carried.{Carried}
use Rattle.ranges.specs.Opened.{Full}
use Rattle.ranges.specs.Choices.{Choices}
use Rattle.ranges.specs.Ranges.{Typed, Ranged}

-- what is claimed of an image and the handle that opening it gave
pub record Demand (image : List ℕ) (h : Handle) : Type 0 where
  -- a walk begun here and carried on never gets 13, whatever the cuts, budgets and options
  pub shaped : {w : Walk} → Carried image h w → (budget : ℕ) → (next_of image h w budget).answer ≡ Refused refusal.OutOfShape → ⊥
  -- a call that does nothing is impossible: Paused comes only after the budget's places
  pub busy : (w : Walk) (budget : ℕ) → (next_of image h w budget).answer ≡ Paused → (next_of image h w budget).taken ≡ budget
  -- a full walk: errors, networks, lookups
  pub full : Full image h
  -- a range's networks are those of the full list inside it, or the one that contains it
  pub ranges : (r : Range) (o : Options) → Typed (asked_of r) → (begin_of image h r o).status ≡ Ok tt → Ranged image h r
  -- what other options leave out
  pub options : (r : Range) (o : Options) → Typed (asked_of r) → (begin_of image h r o).status ≡ Ok tt → Choices image h r

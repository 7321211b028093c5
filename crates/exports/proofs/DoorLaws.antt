-- Laws of the functions for C.
use Prim.Native.Nat.{ℕ}
use mathlib.Core.Path.{◌≡◌, ap, ◌∙◌}
use mathlib.Core.Bool.{true, false}
use mathlib.Core.List.{List}
use lib.ListN.{length}
use Rattle.refusal.specs.declared.Refusal.TheVariants as refusal
use Rattle.handle.specs.declared.Handle.{Handle}
use Rattle.handle.specs.Handle.{fits_of}
use Rattle.place.specs.declared.Outcome.TheVariants.{Refused}
use Rattle.walk.specs.Calls.{next_of}
use Rattle.answers.specs.Answers.{called_of}
use Rattle.words.proofs.Kept.{held_same}
use Rattle.walk.proofs.RowLaws as row_laws
use Rattle.words.specs.Words.{holds_walk, walk_of}
use Rattle.exports.specs.Doors.{handed, next_door, rowed, rowed_in, rows_door}

-- a handle that does not fit leaves the walk's words, and the rows
module _ (s : List ℕ) (h : Handle) (ws : List ℕ) (b : ℕ) (holds : holds_walk ws ≡ true) (unfit : fits_of h (length s) ≡ false) where
  pub next_refused : next_door s h ws b ≡ handed (called_of (Refused refusal.Handle) 0) ws
  unfolding next_door next_of
  next_refused = rw (holds, unfit, held_same ws holds)

  pub rows_refused : (out : List ℕ) → rows_door s h ws out b ≡ rowed (record { status = 9; rows = 0; taken = 0 }) ws out
  unfolding rows_door
  rows_refused out = simp holds (ap (rowed_in ws) (row_laws.rows_refused s h unfit (walk_of ws) b out) ∙ rw (held_same ws holds))

-- What each answer says: that it answers, or the number that it refuses with, docs/SCOPE.md, "The refusal numbers". An answer's values stand in its Ok.
use Rattle.std.specs.Prelude.{ℕ, ℤ, Option, Result, Ok, Err}
use Rattle.refusal.specs.Refusals.{number_of}
use Rattle.refusal.specs.declared.Refusal.{Refusal}
use Rattle.order.specs.Order.{Verdict, Answers, Refuses, Ends, Pauses}
use Rattle.opening.specs.declared.Reader.{Reader}
use Rattle.tree.specs.declared.Found.{Found}
use Rattle.value.specs.declared.Value.{Value}
use Rattle.path.specs.declared.Cursor.{Cursor}
use Rattle.place.specs.declared.Outcome.{Outcome}
use Rattle.place.specs.declared.Outcome.TheVariants as outcome

-- whatever is answered, and the number of a refusal
abbrev pub verdict : {A : Type 0} → Result A Refusal → Verdict
verdict (Ok answer) = Answers
verdict (Err r) = Refuses (number_of r)

-- open: a handle and the metadata
abbrev pub open_verdict : Result Reader Refusal → Verdict
open_verdict opened = verdict opened

-- age: a signed number of seconds
abbrev pub age_verdict : Result ℤ Refusal → Verdict
age_verdict aged = verdict aged

-- lookup: an offset and a length, or a length alone
abbrev pub lookup_verdict : Result Found Refusal → Verdict
lookup_verdict found = verdict found

-- read: a number, a size, or the exact bits of a double or a float
abbrev pub read_verdict : Result Value Refusal → Verdict
read_verdict value = verdict value

-- a step: a cursor, or absent, which is an answer
abbrev pub step_verdict : Result (Option Cursor) Refusal → Verdict
step_verdict step = verdict step

-- the start of a walk
abbrev pub start_verdict : Result (Unit {0}) Refusal → Verdict
start_verdict status = verdict status

-- a walk's call: a network, a place that failed (11, 12, 14), a refused call (9, 13), Paused, End
abbrev pub next_verdict : Outcome → Verdict
next_verdict (outcome.Given network) = Answers
next_verdict (outcome.Failed r) = Refuses (number_of r)
next_verdict (outcome.Refused r) = Refuses (number_of r)
next_verdict outcome.Paused = Pauses
next_verdict outcome.End = Ends

-- verification: the number of distinct offsets
abbrev pub verify_verdict : Result ℕ Refusal → Verdict
verify_verdict offsets = verdict offsets

-- the words that it needs
abbrev pub words_verdict : Result ℕ Refusal → Verdict
words_verdict count = verdict count

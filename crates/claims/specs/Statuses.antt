-- What C is told: a status is 0 for the answer asked for, a refusal's number, 256 for an absent step, 257 for Paused, 258 for End.
use Rattle.std.specs.Prelude.{ℕ, ◌≤◌, ◌<◌, ◌/◌, ◌≡◌, Bool, true, false, cond, ◌↔◌, List, ◌∷◌, length, eqb, Option, None, Result, Ok}
use Rattle.refusal.specs.declared.Refusal.{Refusal}
use Rattle.order.specs.Order.{Verdict, Answers, Refuses, Ends, Pauses, Table, First}
use Rattle.handle.specs.declared.Handle.{Handle}
use Rattle.handle.proofs.HandleLaws.{Fit}
use Rattle.path.specs.declared.Cursor.{Cursor}
use Rattle.walk.specs.declared.Walk.{Walk}
use Rattle.walk.specs.Calls.{next_of}
use Rattle.maxminddb.specs.Answers.{next_verdict}
use Rattle.promises.specs.Handles.{NoFit}
use Rattle.promises.specs.Walks.{Stop, call_table}
use Rattle.promises.specs.Verifying.{Networks}
use Rattle.words.specs.Words.{holds_walk, walk_of, held}
use Rattle.answers.specs.Answers.{refused, absent, paused, end}
use Rattle.answers.specs.declared.ErmFound.{ErmFound}
use Rattle.answers.specs.declared.ErmValue.{ErmValue}
use Rattle.exports.specs.declared.ErmFilled.{ErmFilled}

abbrev pub status_of_verdict : Verdict → ℕ
status_of_verdict Answers = 0
status_of_verdict (Refuses number) = number
status_of_verdict Ends = end
status_of_verdict Pauses = paused

-- the refusal numbers are 1 to 24
abbrev pub Numbered : Verdict → Type 0
Numbered Answers = Unit
Numbered (Refuses number) = (1 ≤ number) × (number ≤ 24)
Numbered Ends = Unit
Numbered Pauses = Unit

-- THE SHAPE FOR C: the status is that of the verdict w exactly if w is that of the first row whose property holds
abbrev pub Shows : Table → ℕ → Type 0
Shows table status = (w : Verdict) → Numbered w → (status ≡ status_of_verdict w) ↔ First table w

-- 13 first, exactly where what C wrote does not pass
abbrev pub door : Bool → Table → Table
door passes table = (Refuses 13, passes ≡ false) ∷ table

-- a lookup refuses in its offset, and a value in its kind
abbrev pub found_status : ErmFound → ℕ
found_status r = cond (eqb r.offset refused) r.second 0

abbrev pub value_status : ErmValue → ℕ
value_status r = cond (eqb r.kind 0) r.low 0

-- a step's status: 256 exactly if it is absent, else as in the table
pub record ShowsStep (table : Table) (d : Result (Option Cursor) Refusal) (status : ℕ) : Type 0 where
  pub absent : (status ≡ absent) ↔ (d ≡ Ok None)
  pub others : (d ≡ Ok None → ⊥) → Shows table status

-- a walk's call: 13 first, where the words hold no walk, then as where the entry's call ends
pub record ShowsCall (s : List ℕ) (h : Handle) (ws : List ℕ) (b status : ℕ) : Type 0 where
  pub before : ℕ
  pub left : ℕ
  pub at : Walk
  pub stop : Stop s h (walk_of ws) b before left at
  pub shows : Shows (door (holds_walk ws) (call_table s h left at)) status

-- rows for which there is room: each a network of a single call; 0 exactly where the room is full, else what the next call comes to
pub record Filling (s : List ℕ) (h : Handle) (w : Walk) (b room rows status : ℕ) : Type 0 where
  pub left : ℕ
  pub at : Walk
  pub few : rows ≤ room
  pub networks : Networks s h rows b w left at
  pub full : (status ≡ 0) ↔ (rows ≡ room)
  pub stops : rows < room → status ≡ status_of_verdict (next_verdict (next_of s h at left).answer)

-- many rows: 13 first, then 9, also where there is no room for a row
pub record ShowsRows (s : List ℕ) (h : Handle) (ws out : List ℕ) (b : ℕ) (r : ErmFilled) : Type 0 where
  pub no_walk : holds_walk ws ≡ false → r.status ≡ 13
  pub no_fit : holds_walk ws ≡ true → NoFit s h → r.status ≡ 9
  pub fills : holds_walk ws ≡ true → Fit h (length s) → Filling s h (walk_of ws) b (length out / 5) r.rows r.status

-- the walk's words afterwards: as they were, where what C wrote does not pass, else with the entry's walk put into them
abbrev pub Keeps : Bool → List ℕ → Walk → List ℕ → Type 0
Keeps passes ws w after = (passes ≡ false → after ≡ ws) × (passes ≡ true → after ≡ held ws w)

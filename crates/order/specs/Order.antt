-- What decides an answer: a table of properties in the order in which they are looked at.
use Rattle.std.specs.Prelude.{ℕ, ◌≡◌, ◌⊎◌, ◌↔◌, List, [], ◌∷◌}

-- how a call ends: it answers, or it refuses with a number; a walk's call may also end in End or in Paused
pub data Verdict : Type 0 where
  Answers : Verdict
  Refuses : ℕ → Verdict
  Ends : Verdict
  Pauses : Verdict

-- a verdict in each row, and when it is given
abbrev pub Table : Type 1
Table = List (Verdict × Type 0)

-- the verdict of the first row whose property holds; an answer, where none holds
abbrev pub First : Table → Verdict → Type 0
First [] v = v ≡ Answers
First (row ∷ rows) v = (row.1 × (v ≡ row.0)) ⊎ ((row.1 → ⊥) × First rows v)

-- no row's property holds
abbrev pub None : Table → Type 0
None [] = Unit
None (row ∷ rows) = (row.1 → ⊥) × None rows

-- no row answers
abbrev pub Refusing : Table → Type 0
Refusing [] = Unit
Refusing (row ∷ rows) = (row.0 ≡ Answers → ⊥) × Refusing rows

-- THE SHAPE OF EVERY PROMISE: the verdict is w exactly if w is that of the first row whose property holds
abbrev pub Exactly : Table → Verdict → Type 0
Exactly table v = (w : Verdict) → (v ≡ w) ↔ First table w

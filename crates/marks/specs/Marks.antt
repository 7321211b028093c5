-- The scratch, a list of 64-bit words: for each place of a section one of four states, in two bits. Word 2k has the lower bits of
-- the 64 places from 64k on, word 2k + 1 their upper bits.
use Rattle.std.specs.Prelude.{ℕ, zero, suc, ◌+◌, ◌-◌, ◌*◌, ◌/◌, ◌%◌, ◌^◌, ◌<◌, min, List, [], ◌∷◌, Bool, false, cond, ◌||◌, get_or, set, eqb}
use Rattle.std.specs.Int.Bits.{bit_or}
use Rattle.std.specs.Int.Count.{count_trailing_zeros}
use Rattle.marks.specs.declared.Mark.{Mark}
use Rattle.marks.specs.declared.Mark.TheVariants as mark

abbrev pub free : ℕ
free = 0

abbrev pub recorded : ℕ
recorded = 1

abbrev pub validated : ℕ
validated = 2

abbrev pub active : ℕ
active = 3

-- the number that the two bits of a state make
abbrev pub number_of : Mark → ℕ
number_of mark.Free = free
number_of mark.Recorded = recorded
number_of mark.Validated = validated
number_of mark.Active = active

-- bit s of the word w
unfoldable pub bit : ℕ → ℕ → ℕ
bit w s = w / 2 ^ s % 2

-- the words with v as bit s of word k
unfoldable pub put : List ℕ → ℕ → ℕ → ℕ → List ℕ
put ws k s v = set ws k (bit_or (get_or ws k 0 - bit (get_or ws k 0) s * 2 ^ s) (v * 2 ^ s))

unfoldable pub lower : List ℕ → ℕ → ℕ
lower ws t = bit (get_or ws (t / 64 * 2) 0) (t % 64)

unfoldable pub upper : List ℕ → ℕ → ℕ
upper ws t = bit (get_or ws (t / 64 * 2 + 1) 0) (t % 64)

-- the state of place t
unfoldable pub state_at : List ℕ → ℕ → ℕ
state_at ws t = lower ws t + 2 * upper ws t

-- the words with place t in another state
unfoldable pub set_state : List ℕ → ℕ → ℕ → List ℕ
set_state ws t state = put (put ws (t / 64 * 2) (t % 64) (state % 2)) (t / 64 * 2 + 1) (t % 64) (state / 2)

-- a place that is recorded or active
abbrev pub marked : List ℕ → ℕ → Bool
marked ws t = eqb (lower ws t) 1

-- past t and the places after it in its word that are not marked
unfoldable pub next_marked : List ℕ → ℕ → ℕ
next_marked ws t = t + 1 + min (count_trailing_zeros 64 (get_or ws (t / 64 * 2) 0 / 2 ^ (t % 64) / 2)) (63 - t % 64)

-- how many numbers below m a set has
unfoldable pub size_of : (ℕ → Bool) → ℕ → ℕ
size_of set zero = 0
size_of set (suc m) = cond (set m) 1 0 + size_of set m

-- the words after each place of a list is recorded, in the list's order
unfoldable pub record_each : List ℕ → List ℕ → List ℕ
record_each ws [] = ws
record_each ws (t ∷ ts) = record_each (set_state ws t recorded) ts

unfoldable pub contains : List ℕ → ℕ → Bool
contains [] t = false
contains (x ∷ xs) t = eqb t x || contains xs t

-- how many distinct numbers a list has
unfoldable pub distinct : List ℕ → ℕ
distinct [] = 0
distinct (x ∷ xs) = cond (contains xs x) 0 1 + distinct xs

-- each number of a list is below m
unfoldable pub Below : ℕ → List ℕ → Type 0
Below m [] = Unit
Below m (x ∷ xs) = (x < m) × Below m xs

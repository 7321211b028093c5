-- Verification of an image s, with the words ws lent and a budget of places.
use Rattle.std.specs.Prelude.{ℕ, zero, suc, ◌+◌, ◌-◌, ◌*◌, ◌≤◌, ◌<◌, ◌≡◌, false, ◌⊎◌, List, [], ◌∷◌, ◌++◌, length, get_or, Ok, Err}
use Rattle.refusal.specs.Refusals.{number_of}
use Rattle.refusal.specs.declared.Refusal.{Refusal}
use Rattle.refusal.specs.declared.Refusal.TheVariants as refusal
use Rattle.handle.specs.declared.Handle.{Handle}
use Rattle.section.specs.Section.{section_of}
use Rattle.opening.specs.Opening.{open_of}
use Rattle.opening.specs.declared.Reader.{Reader}
use Rattle.marks.specs.Marks.{contains, distinct}
use Rattle.sweep.specs.Sweep.{data_accepted, metadata_accepted}
use Rattle.recording.specs.Recording.{options, tour_of}
use Rattle.place.specs.declared.Network.{Network}
use Rattle.place.specs.declared.Outcome.{Outcome}
use Rattle.place.specs.declared.Outcome.TheVariants as outcome
use Rattle.walk.specs.declared.Walk.{Walk}
use Rattle.walk.specs.Starts.{whole_range, begin_of}
use Rattle.walk.specs.Calls.{next_of}
use Rattle.verify.specs.Verify.{Out, metadata_in, words_of, cleared}
use Rattle.maxminddb.specs.Answers.{verify_verdict}
use Rattle.order.specs.Order.{Table, Refuses, Exactly}
use Rattle.promises.specs.Images.{open_table}

-- a property of what opening gives
pub record Opened (s : List ℕ) (P : Reader → Type 0) : Type 0 where
  pub reader : Reader
  pub opens : open_of s ≡ Ok reader
  pub holds : P reader

-- 22: the scratch is too short; it needs two words for every 64 bytes, begun ones too, of the longer of data section and metadata
abbrev pub ScratchTooShort : List ℕ → List ℕ → Reader → Type 0
ScratchTooShort s ws r = length ws < words_of s r.handle

-- 14: the metadata's value graph, over the crate's sets
abbrev pub BadMetadata : List ℕ → Reader → Type 0
BadMetadata s r = metadata_accepted (metadata_in s r.handle) ≡ false

-- 17, 18: the database type is empty; the description is empty
abbrev pub NoType : Reader → Type 0
NoType r = r.metadata.database.size ≡ 0

abbrev pub NoDescription : Reader → Type 0
NoDescription r = r.metadata.description.size ≡ 0

-- the walk of verification: over all networks, those without data included, aliases skipped
abbrev pub begun : List ℕ → Handle → Walk
begun s h = (begin_of s h (whole_range h) options).walk

-- so many calls hand out a network each, and lead from one walk, with so much of the budget left, to another
abbrev pub Networks : List ℕ → Handle → ℕ → ℕ → Walk → ℕ → Walk → Type 0
Networks s h zero b w c v = (b ≡ c) × (w ≡ v)
Networks s h (suc k) b w c v =
    ((n : Network) × ((next_of s h w b).answer ≡ outcome.Given n)) × Networks s h k (b - (next_of s h w b).taken) (next_of s h w b).walk c v

-- a call that comes after at most so many networks answers so
pub record Then (s : List ℕ) (h : Handle) (most b : ℕ) (w : Walk) (a : Outcome) : Type 0 where
  pub networks : ℕ
  pub few : networks ≤ most
  pub left : ℕ
  pub at : Walk
  pub handed : Networks s h networks b w left at
  pub answers : (next_of s h at left).answer ≡ a

-- so many calls hand out a network each
pub record Many (s : List ℕ) (h : Handle) (networks b : ℕ) (w : Walk) : Type 0 where
  pub left : ℕ
  pub at : Walk
  pub handed : Networks s h networks b w left at

-- 11, 12, as the walk comes to them
abbrev pub WalkFails : List ℕ → ℕ → Refusal → Reader → Type 0
WalkFails s budget e r = Then s r.handle (3 * r.handle.nodes) budget (begun s r.handle) (outcome.Failed e)

-- 19: more than three times node count networks
abbrev pub TooMany : List ℕ → ℕ → Reader → Type 0
TooMany s budget r = Many s r.handle (suc (3 * r.handle.nodes)) budget (begun s r.handle)

-- 21: the budget of places is spent and places still wait
abbrev pub BudgetSpent : List ℕ → ℕ → Reader → Type 0
BudgetSpent s budget r = Then s r.handle (3 * r.handle.nodes) budget (begun s r.handle) outcome.Paused

-- 20: a separator byte is not 0
abbrev pub BadSeparator : List ℕ → Reader → Type 0
BadSeparator s r = (i : ℕ) × ((i < 16) × (get_or s (r.handle.base - 16 + i) 0 ≡ 0 → ⊥))

-- 14: the value graph of the data section, from the set of the networks' offsets, lowest first, over the crate's sets
abbrev pub BadData : List ℕ → ℕ → Reader → Type 0
BadData s budget r = data_accepted (section_of s r.handle) (contains (tour_of s r.handle budget).offsets) ≡ false

-- after opening: 22, 14, 17, 18, then the walk's 11, 12, 19, 21, of which one comes, then 20, 14
abbrev pub verify_rows : List ℕ → List ℕ → ℕ → Table
verify_rows s ws budget =
    (Refuses 22, Opened s (ScratchTooShort s ws))
    ∷ (Refuses 14, Opened s (BadMetadata s))
    ∷ (Refuses 17, Opened s NoType)
    ∷ (Refuses 18, Opened s NoDescription)
    ∷ (Refuses 11, Opened s (WalkFails s budget refusal.Record))
    ∷ (Refuses 12, Opened s (WalkFails s budget refusal.TooDeep))
    ∷ (Refuses 19, Opened s (TooMany s budget))
    ∷ (Refuses 21, Opened s (BudgetSpent s budget))
    ∷ (Refuses 20, Opened s (BadSeparator s))
    ∷ (Refuses 14, Opened s (BadData s budget))
    ∷ []

-- verify: 24, 1 to 8, and these
abbrev pub verify_table : List ℕ → List ℕ → ℕ → Table
verify_table s ws budget = open_table s ++ verify_rows s ws budget

-- 24, 1 to 8, 22
abbrev pub Early : ℕ → Type 0
Early n = (n ≡ 24) ⊎ (((1 ≤ n) × (n ≤ 8)) ⊎ (n ≡ 22))

-- the answer, and the scratch: untouched after 24, 1 to 8 and 22; after any other answer the words it needs are 0 and the rest is untouched
pub record Verifies (s ws : List ℕ) (budget : ℕ) (x : Out) : Type 0 where
  pub verdict : Exactly (verify_table s ws budget) (verify_verdict x.answer)
  pub offsets : (n : ℕ) → x.answer ≡ Ok n → Opened s (λ r. n ≡ distinct (tour_of s r.handle budget).offsets)
  pub untouched : (e : Refusal) → x.answer ≡ Err e → Early (number_of e) → x.scratch ≡ ws
  pub zeroed :
      ((e : Refusal) → x.answer ≡ Err e → Early (number_of e) → ⊥)
      → Opened s (λ r. (words_of s r.handle ≤ length ws) × (x.scratch ≡ cleared (words_of s r.handle) ws))

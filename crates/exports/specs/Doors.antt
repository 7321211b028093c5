-- What the functions for C answer, where they take more than the entry does or write lent words.
use Rattle.std.specs.Prelude.{ℕ, ◌^◌, ◌-◌, Bool, cond, ◌&&◌, List, length, eqb, leb, Result, Ok, Err}
use Rattle.refusal.specs.declared.Refusal.{Refusal}
use Rattle.refusal.specs.declared.Refusal.TheVariants.{OutOfShape}
use Rattle.handle.specs.declared.Handle.{Handle}
use Rattle.lookup.specs.declared.Address.{Address}
use Rattle.lookup.specs.declared.Address.TheVariants as address
use Rattle.place.specs.declared.Outcome.TheVariants.{Refused}
use Rattle.walk.specs.declared.Range.{Range}
use Rattle.walk.specs.declared.Range.TheVariants as range
use Rattle.walk.specs.declared.Started.{Started}
use Rattle.walk.specs.declared.Called.{Called}
use Rattle.walk.specs.Starts.{begin_of}
use Rattle.walk.specs.Calls.{next_of}
use Rattle.verify.specs.Verify.{Out}
use Rattle.maxminddb.specs.Entries.{lookup_of}
use Rattle.answers.specs.Answers.{found_of, status_of, called_of, halted_of, verified_of}
use Rattle.answers.specs.declared.ErmFound.{ErmFound}
use Rattle.answers.specs.declared.ErmCalled.{ErmCalled}
use Rattle.answers.specs.declared.ErmVerified.{ErmVerified}
use Rattle.walk.specs.Rows.{Poured, rows_of}
use Rattle.exports.specs.declared.ErmFilled.{ErmFilled}
use Rattle.words.specs.Words.{walk_words, options_of, holds_walk, walk_of, held}

-- a width is 32 or 128, and an address of width 32 has its upper 96 bits 0
abbrev pub in_shape : ℕ → ℕ → ℕ → Bool
in_shape width high low = cond (eqb width 32) (eqb high 0 && leb low (2 ^ 32 - 1)) (eqb width 128)

abbrev pub address_of : ℕ → ℕ → ℕ → Address
address_of width high low = cond (eqb width 32) (address.V4 low) (address.V6 high low)

-- 13 for what is no address
abbrev pub shaped : ℕ → ℕ → ℕ → Result Address Refusal
shaped width high low = cond (in_shape width high low) (Ok (address_of width high low)) (Err OutOfShape)

-- the addresses that share their first bits with one
abbrev pub range_around : Address → ℕ → Range
range_around (address.V4 low) len = range.Ipv4 low len
range_around (address.V6 high low) len = range.Ipv6 (record { high = high; low = low }) len

abbrev pub range_of : ℕ → ℕ → ℕ → ℕ → Range
range_of width high low len = range_around (address_of width high low) len

-- 13 first, then the entry's own
unfoldable pub lookup_door : List ℕ → Handle → ℕ → ℕ → ℕ → ErmFound
lookup_door s h width high low =
    cond (in_shape width high low) (found_of (lookup_of s h (address_of width high low))) (found_of (Err OutOfShape))

-- a status, and the walk's words then
pub record Begun : Type 0 where
  pub status : ℕ
  pub walk : List ℕ

abbrev pub begun : ℕ → List ℕ → Begun
begun status ws = record { status = status; walk = ws }

abbrev pub begun_in : List ℕ → Started → Begun
begun_in ws started = begun (status_of started.status) (held ws started.walk)

-- 13 first, which leaves the words; then the entry's own, whose walk is put into them
unfoldable pub within_door : List ℕ → Handle → ℕ → ℕ → ℕ → ℕ → ℕ → List ℕ → Begun
within_door s h width high low len options ws =
    cond (leb walk_words (length ws) && leb options 7 && in_shape width high low)
    (begun_in ws (begin_of s h (range_of width high low len) (options_of options)))
    (begun (status_of (Err OutOfShape)) ws)

-- an answer, and the walk's words then
pub record Handed : Type 0 where
  pub answer : ErmCalled
  pub walk : List ℕ

abbrev pub handed : ErmCalled → List ℕ → Handed
handed answer ws = record { answer = answer; walk = ws }

abbrev pub handed_in : List ℕ → Called → Handed
handed_in ws c = handed (called_of c.answer c.taken) (held ws c.walk)

-- 13 first, where the words hold no walk; then the entry's own
unfoldable pub next_door : List ℕ → Handle → List ℕ → ℕ → Handed
next_door s h ws budget =
    cond (holds_walk ws) (handed_in ws (next_of s h (walk_of ws) budget)) (handed (called_of (Refused OutOfShape) 0) ws)

-- the answer of many rows, and the lent words then
pub record Rowed : Type 0 where
  pub answer : ErmFilled
  pub walk : List ℕ
  pub rows : List ℕ

abbrev pub rowed : ErmFilled → List ℕ → List ℕ → Rowed
rowed answer ws out = record { answer = answer; walk = ws; rows = out }

abbrev pub rowed_in : List ℕ → Poured → Rowed
rowed_in ws p =
    rowed (record { status = halted_of p.filled.halt; rows = p.filled.rows; taken = p.filled.taken }) (held ws p.filled.walk) p.buffer

-- 13 first, where the words hold no walk
unfoldable pub rows_door : List ℕ → Handle → List ℕ → List ℕ → ℕ → Rowed
rows_door s h ws out budget =
    cond (holds_walk ws) (rowed_in ws (rows_of s h (walk_of ws) budget out)) (rowed (record { status = status_of (Err OutOfShape); rows = 0; taken = 0 }) ws out)

-- a verdict, and the scratch then
pub record Checked : Type 0 where
  pub answer : ErmVerified
  pub scratch : List ℕ

abbrev pub checked : ErmVerified → List ℕ → Checked
checked answer ws = record { answer = answer; scratch = ws }

abbrev pub verify_door : Out → Checked
verify_door o = checked (verified_of o.answer) o.scratch

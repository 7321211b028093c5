-- Many networks in one call: single calls one after the other, each network a row of a lent buffer.
use Rattle.std.specs.Prelude.{ℕ, zero, suc, ◌+◌, ◌-◌, ◌*◌, ◌/◌, ◌^◌, cond, List, [], ◌∷◌, length, set, Option, Some, None}
use Rattle.refusal.specs.declared.Refusal.TheVariants as refusal
use Rattle.handle.specs.declared.Handle.{Handle}
use Rattle.handle.specs.Handle.{fits_of}
use Rattle.place.specs.declared.Network.{Network}
use Rattle.place.specs.declared.NetworkKind.{NetworkKind}
use Rattle.place.specs.declared.NetworkKind.TheVariants.{V4, V6, V4InV6Subtree}
use Rattle.place.specs.declared.Outcome.{Outcome}
use Rattle.place.specs.declared.Outcome.TheVariants as outcome
use Rattle.walk.specs.declared.Walk.{Walk}
use Rattle.walk.specs.declared.rows.Halt.{Halt}
use Rattle.walk.specs.declared.rows.Halt.TheVariants as halt
use Rattle.walk.specs.declared.rows.Filled.{Filled}
use Rattle.walk.specs.Calls.{next_of}

-- a row has five words: the key's halves, the length, the kind, and the offset, or 2^64 - 1 where there is no data
abbrev pub kind_number : NetworkKind → ℕ
kind_number V4 = 1
kind_number V6 = 2
kind_number V4InV6Subtree = 3

abbrev pub no_data : ℕ
no_data = 2 ^ 64 - 1

abbrev pub offset_word : Option ℕ → ℕ
offset_word (Some place) = place
offset_word None = no_data

abbrev pub put : List ℕ → ℕ → Network → List ℕ
put out row n =
    set (set (set (set (set out (row * 5) n.key.high) (row * 5 + 1) n.key.low) (row * 5 + 2) n.len) (row * 5 + 3) (kind_number n.kind))
    (row * 5 + 4) (offset_word n.offset)

-- networks in consecutive rows
unfoldable pub put_all : List ℕ → ℕ → List Network → List ℕ
put_all out row [] = out
put_all out row (n ∷ l) = put_all (put out row n) (row + 1) l

-- the networks that single calls hand out, the places that they take in all, why they end, and the walk then
pub record Run : Type 0 where
  pub networks : List Network
  pub taken : ℕ
  pub halt : Halt
  pub walk : Walk

abbrev pub ended : ℕ → Halt → Walk → Run
ended t e w = record { networks = []; taken = t; halt = e; walk = w }

-- a network is the first of those that the rest hands out; any other answer ends the run
abbrev pub on_answer : Outcome → ℕ → Walk → Run → Run
on_answer (outcome.Given n) t w rest = record { networks = n ∷ rest.networks; taken = t + rest.taken; halt = rest.halt; walk = rest.walk }
on_answer (outcome.Failed refused) t w rest = ended t (halt.Failed refused) w
on_answer (outcome.Refused refused) t w rest = ended t (halt.Refused refused) w
on_answer outcome.Paused t w rest = ended t halt.Paused w
on_answer outcome.End t w rest = ended t halt.End w

-- as many calls as there is room for rows, each with what is left of the budget
unfoldable pub run_of : List ℕ → Handle → ℕ → ℕ → Walk → Run
run_of s h zero b w = ended 0 halt.Full w
run_of s h (suc room) b w =
    on_answer (next_of s h w b).answer (next_of s h w b).taken (next_of s h w b).walk
    (run_of s h room (b - (next_of s h w b).taken) (next_of s h w b).walk)

-- what the call answers, and the buffer then
pub record Poured : Type 0 where
  pub filled : Filled
  pub buffer : List ℕ

abbrev pub poured : Filled → List ℕ → Poured
poured f out = record { filled = f; buffer = out }

-- a run behind as many rows and places
abbrev pub pouring : ℕ → ℕ → Run → List ℕ → Poured
pouring row t r out =
    poured (record { rows = row + length r.networks; taken = t + r.taken; halt = r.halt; walk = r.walk }) (put_all out row r.networks)

-- 9 first, also where there is no room for a row
unfoldable pub rows_of : List ℕ → Handle → Walk → ℕ → List ℕ → Poured
rows_of s h w b out =
    pouring 0 0 (cond (fits_of h (length s)) (run_of s h (length out / 5) b w) (ended 0 (halt.Refused refusal.Handle) w)) out

-- A walk's call, by its budget.
use Rattle.std.specs.Prelude.{ℕ, zero, suc, ◌+◌, ◌-◌, Bool, cond, ◌&&◌, ◌||◌, List, length, take, drop, eqb, ltb}
use Rattle.refusal.specs.declared.Refusal.TheVariants as refusal
use Rattle.handle.specs.declared.Handle.{Handle}
use Rattle.handle.specs.Handle.{fits_of}
use Rattle.place.specs.Shape.{frame_out, newest_out}
use Rattle.place.specs.Turns.{child_of, turn_of}
use Rattle.place.specs.declared.Outcome.{Outcome}
use Rattle.place.specs.declared.Outcome.TheVariants.{Refused, Paused, End}
use Rattle.place.specs.declared.Turn.{Turn}
use Rattle.place.specs.declared.Turn.TheVariants.{Passed, Out, Opened}
use Rattle.walk.specs.declared.Walk.{Walk}
use Rattle.walk.specs.declared.Called.{Called}
use Rattle.walk.specs.Walks.{newest, taken, added}

-- the data section: from the data start up to the marker, which is 14 bytes before the metadata
abbrev pub data_section : List ℕ → Handle → List ℕ
data_section s h = take (h.meta - 14 - h.base) (drop h.base s)

-- out of shape, with none waiting too
unfoldable pub out_of_shape : ℕ → Walk → Bool
out_of_shape nodes w =
    frame_out w.count w.width || (ltb 0 w.count && newest_out nodes w.count w.width (newest w))

-- what taking the newest comes to
abbrev pub turn_at : List ℕ → Handle → Walk → Turn
turn_at s h w = turn_of (data_section s h) h w.options w.width (newest w)

-- the walk afterwards: an internal node puts back its right child, then its left
abbrev pub after : List ℕ → Handle → Walk → Turn → Walk
after s h w Opened =
    added (added (taken w) (child_of s h.size w.width (newest w) 1)) (child_of s h.size w.width (newest w) 0)
after s h w Passed = taken w
after s h w (Out o) = taken w

-- one place taken
abbrev pub stepped : List ℕ → Handle → Walk → Walk
stepped s h w = after s h w (turn_at s h w)

abbrev pub called : Outcome → ℕ → Walk → Called
called a t w = record { answer = a; taken = t; walk = w }

-- none waiting, End; out of shape, 13; else what else says
abbrev pub gate : ℕ → ℕ → Walk → Called → Called
gate nodes t w other =
    cond (eqb w.count 0) (called End t w) (cond (out_of_shape nodes w) (called (Refused refusal.OutOfShape) t w) other)

-- what a taken place hands out ends the call
abbrev pub ends : Turn → (Outcome → Called) → Called → Called
ends (Out a) out on = out a
ends Passed out on = on
ends Opened out on = on

-- a call with n places left to take and t taken
unfoldable pub goes : List ℕ → Handle → ℕ → ℕ → Walk → Called
goes s h zero t w = gate h.nodes t w (called Paused t w)
goes s h (suc n) t w =
    gate h.nodes t w
    (ends (turn_at s h w) (λ a. called a (t + 1) (stepped s h w)) (goes s h n (t + 1) (stepped s h w)))

-- 9 first; it leaves the walk as it was
unfoldable pub next_of : List ℕ → Handle → Walk → ℕ → Called
next_of s h w b = cond (fits_of h (length s)) (goes s h b 0 w) (called (Refused refusal.Handle) 0 w)

-- Laws of many networks in one call.
use Prim.Native.Nat.{ℕ, zero, suc, ◌+◌, ◌-◌, ◌/◌, ◌<◌, ◌≤◌}
use mathlib.Core.Path.{◌≡◌, refl, ap, sym, ◌∙◌}
use mathlib.Core.Bool.{Bool, true, false, cond}
use mathlib.Core.List.{List, ◌∷◌}
use native.Mathlib.Omega.{arith}
use lib.ListN.{length}
use lib.Dec.{eqb}
use Rattle.handle.specs.declared.Handle.{Handle}
use Rattle.handle.specs.Handle.{fits_of}
use Rattle.place.specs.declared.Network.{Network}
use Rattle.place.specs.declared.Outcome.{Outcome}
use Rattle.place.specs.declared.Outcome.TheVariants as outcome
use Rattle.place.specs.declared.Turn.{Turn}
use Rattle.place.specs.declared.Turn.TheVariants.{Passed, Out, Opened}
use Rattle.refusal.specs.declared.Refusal.TheVariants as refusal
use Rattle.walk.specs.declared.Walk.{Walk}
use Rattle.walk.specs.declared.Called.{Called}
use Rattle.walk.specs.declared.rows.Halt.{Halt}
use Rattle.walk.specs.declared.rows.Halt.TheVariants as halt
use Rattle.walk.specs.Calls.{out_of_shape, turn_at, stepped, called, gate, ends, goes, next_of}
use Rattle.walk.specs.Rows.{put, put_all, Run, ended, on_answer, run_of, poured, pouring, rows_of}

-- a call behind k places more
abbrev later : ℕ → Called → Called
later k c = called c.answer (k + c.taken) c.walk

gate_later : (k nodes t : ℕ) (w : Walk) (c : Called) → later k (gate nodes t w c) ≡ gate nodes (k + t) w (later k c)
gate_later k nodes t w c = by (eqb w.count 0) (out_of_shape nodes w)
  where
    by :
        (a b : Bool)
        → later k (cond a (called outcome.End t w) (cond b (called (outcome.Refused refusal.OutOfShape) t w) c))
        ≡ cond a (called outcome.End (k + t) w) (cond b (called (outcome.Refused refusal.OutOfShape) (k + t) w) (later k c))
    by true b = refl
    by false true = refl
    by false false = refl

ends_later :
    (k t : ℕ) (w : Walk) (turn : Turn) (c : Called)
    → later k (ends turn (λ a. called a (t + 1) w) c) ≡ ends turn (λ a. called a (k + t + 1) w) (later k c)
ends_later k t w (Out a) c = let e : k + (t + 1) ≡ k + t + 1 = omega arith in ap (λ (n : ℕ). called a n w) e
ends_later k t w Passed c = refl
ends_later k t w Opened c = refl

-- a run behind t places
abbrev pub behind : ℕ → Run → Run
behind t r = record { networks = r.networks; taken = t + r.taken; halt = r.halt; walk = r.walk }

module _ (s : List ℕ) (h : Handle) where
  goes_later : (k n t : ℕ) (w : Walk) → goes s h n (k + t) w ≡ later k (goes s h n t w)
  unfolding goes
  goes_later k zero t w = sym (gate_later k h.nodes t w (called outcome.Paused t w))
  goes_later k (suc n) t w =
      let e : k + t + 1 ≡ k + (t + 1) = omega arith in
      sym
      (gate_later k h.nodes t w (ends (turn_at s h w) (λ a. called a (t + 1) (stepped s h w)) (goes s h n (t + 1) (stepped s h w)))
      ∙ ap (gate h.nodes (k + t) w) (
      ends_later k t (stepped s h w) (turn_at s h w) (goes s h n (t + 1) (stepped s h w))
      ∙ ap (ends (turn_at s h w) (λ a. called a (k + t + 1) (stepped s h w))) (sym (goes_later k n (t + 1) (stepped s h w)) ∙ ap (λ (m : ℕ). goes s h n m (stepped s h w)) (sym e))
      ))

  -- the run of a walk with room for m rows, where t places of the budget b are taken in the call that is under way
  unfoldable pub going : ℕ → ℕ → ℕ → Walk → Run
  going b zero t w = ended t halt.Full w
  going b (suc m) t w =
      on_answer (goes s h (b - t) t w).answer (goes s h (b - t) t w).taken (goes s h (b - t) t w).walk
      (run_of s h m (b - (goes s h (b - t) t w).taken) (goes s h (b - t) t w).walk)

  -- what the call under way comes to decides
  pub going_by :
      (b m t : ℕ) (w : Walk) (a : Outcome) (k : ℕ) (v : Walk) → goes s h (b - t) t w ≡ called a k v
      → going b (suc m) t w ≡ on_answer a k v (run_of s h m (b - k) v)
  unfolding going
  going_by b m t w a k v e = rw e

  pub going_on :
      (b m t : ℕ) (w : Walk) (k : ℕ) (v : Walk) → goes s h (b - t) t w ≡ goes s h (b - k) k v → going b (suc m) t w ≡ going b (suc m) k v
  unfolding going
  going_on b m t w k v e = rw e

  module _ (fits : fits_of h (length s) ≡ true) where
    -- a run that begins with a call anew
    pub going_anew : (b m t : ℕ) (w : Walk) → going b m t w ≡ behind t (run_of s h m (b - t) w)
    unfolding going run_of next_of
    going_anew b zero t w = let e : t ≡ t + 0 = omega arith in ap (λ (n : ℕ). ended n halt.Full w) e
    going_anew b (suc m) t w =
        let c = goes s h (b - t) 0 w in
        let z : t + 0 ≡ t = omega arith in
        let l : goes s h (b - t) t w ≡ later t c = ap (λ (n : ℕ). goes s h (b - t) n w) (sym z) ∙ goes_later t (b - t) 0 w in
        let e : b - (t + c.taken) ≡ b - t - c.taken = omega arith in
        simp fits (rw l (rw e (by c.answer c.taken c.walk (run_of s h m (b - t - c.taken) c.walk))))
      where
        by : (a : Outcome) (k : ℕ) (v : Walk) (r : Run) → on_answer a (t + k) v r ≡ behind t (on_answer a k v r)
        by (outcome.Given n) k v r =
            let e : t + k + r.taken ≡ t + (k + r.taken) = omega arith in
            ap (λ (i : ℕ). record { networks = n ∷ r.networks; taken = i; halt = r.halt; walk = r.walk }) e
        by (outcome.Failed i) k v r = refl
        by (outcome.Refused i) k v r = refl
        by outcome.Paused k v r = refl
        by outcome.End k v r = refl

    pub going_first : (b m : ℕ) (w : Walk) → going b m 0 w ≡ run_of s h m b w
    going_first b m w =
        let r = run_of s h m b w in
        let z : b - 0 ≡ b = omega arith in
        let e : 0 + r.taken ≡ r.taken = omega arith in
        going_anew b m 0 w ∙ ap (λ (n : ℕ). behind 0 (run_of s h m n w)) z
        ∙ ap (λ (i : ℕ). record { networks = r.networks; taken = i; halt = r.halt; walk = r.walk }) e

    -- a network is a row, and the next call begins
    pub going_row :
        (b m t : ℕ) (w : Walk) (n : Network) (k : ℕ) (v : Walk) → goes s h (b - t) t w ≡ called (outcome.Given n) k v
        → (row : ℕ) (out : List ℕ) → pouring row 0 (going b (suc m) t w) out ≡ pouring (row + 1) 0 (going b m k v) (put out row n)
    unfolding put_all
    going_row b m t w n k v e row out =
        let r = run_of s h m (b - k) v in
        let i : row + suc (length r.networks) ≡ row + 1 + length r.networks = omega arith in
        rw (going_by b m t w (outcome.Given n) k v e, going_anew b m k v) (
        ap (λ (j : ℕ). record { filled = record { rows = j; taken = 0 + (k + r.taken); halt = r.halt; walk = r.walk }; buffer = put_all (put out row n) (row + 1) r.networks }) i
        )

  -- the end of a run
  pub going_end : (row t : ℕ) (e : Halt) (w : Walk) (out : List ℕ) → pouring row 0 (ended t e w) out ≡ record { filled = record { rows = row; taken = t; halt = e; walk = w }; buffer = out }
  unfolding put_all
  going_end row t e w out =
      let i : row + 0 ≡ row = omega arith in
      let j : 0 + t ≡ t = omega arith in
      rw (i, j)

  -- with rows left: what the call under way comes to ends the run
  pub rows_stop :
      (b t : ℕ) (w : Walk) (a : Outcome) (k : ℕ) (v : Walk) → goes s h (b - t) t w ≡ called a k v
      → (e : Halt) → ((r : Run) → on_answer a k v r ≡ ended k e v) → (row space : ℕ) → row < space → (out : List ℕ)
      → pouring row 0 (going b (space - row) t w) out ≡ poured (record { rows = row; taken = k; halt = e; walk = v }) out
  rows_stop b t w a k v g e stops row space less out =
      let m : space - row ≡ suc (space - (row + 1)) = omega arith in
      rw m (ap (λ (r : Run). pouring row 0 r out) (going_by b (space - (row + 1)) t w a k v g ∙ stops _) ∙ going_end row k e v out)

  -- or goes on with the next place
  pub rows_on :
      (b t : ℕ) (w : Walk) (k : ℕ) (v : Walk) → goes s h (b - t) t w ≡ goes s h (b - k) k v → (row space : ℕ) → row < space → (out : List ℕ)
      → pouring row 0 (going b (space - row) t w) out ≡ pouring row 0 (going b (space - row) k v) out
  rows_on b t w k v g row space less out =
      let m : space - row ≡ suc (space - (row + 1)) = omega arith in
      rw m (ap (λ (r : Run). pouring row 0 r out) (going_on b (space - (row + 1)) t w k v g))

  -- no row left
  pub rows_full :
      (b t : ℕ) (w : Walk) (row space : ℕ) → space ≤ row → (out : List ℕ)
      → pouring row 0 (going b (space - row) t w) out ≡ poured (record { rows = row; taken = t; halt = halt.Full; walk = w }) out
  unfolding going
  rows_full b t w row space all out =
      let m : space - row ≡ 0 = omega arith in
      rw m (going_end row t halt.Full w out)

  module _ (fits : fits_of h (length s) ≡ true) where
    -- or is a network, which is a row
    pub rows_row :
        (b t : ℕ) (w : Walk) (n : Network) (k : ℕ) (v : Walk) → goes s h (b - t) t w ≡ called (outcome.Given n) k v
        → (row space : ℕ) → row < space → (out : List ℕ)
        → pouring row 0 (going b (space - row) t w) out ≡ pouring (row + 1) 0 (going b (space - (row + 1)) k v) (put out row n)
    rows_row b t w n k v g row space less out =
        let m : space - row ≡ suc (space - (row + 1)) = omega arith in
        rw m (going_row fits b (space - (row + 1)) t w n k v g row out)

    pub rows_start : (w : Walk) (b : ℕ) (out : List ℕ) → rows_of s h w b out ≡ pouring 0 0 (going b (length out / 5) 0 w) out
    unfolding rows_of
    rows_start w b out = simp fits (ap (λ (r : Run). pouring 0 0 r out) (sym (going_first fits b (length out / 5) w)))

  pub rows_refused :
      fits_of h (length s) ≡ false → (w : Walk) (b : ℕ) (out : List ℕ)
      → rows_of s h w b out ≡ poured (record { rows = 0; taken = 0; halt = halt.Refused refusal.Handle; walk = w }) out
  unfolding rows_of
  rows_refused bad w b out = simp bad (going_end 0 0 (halt.Refused refusal.Handle) w out)

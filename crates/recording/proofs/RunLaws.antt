-- Laws of the tree walk of verification in runs of many networks, whose offsets stand in rows.
use Prim.Native.Nat.{ℕ, zero, suc, ◌+◌, ◌-◌, ◌*◌, ◌/◌, ◌<◌, ◌≤◌}
use mathlib.Core.Path.{◌≡◌, refl, sym, ap, ◌∙◌, subst}
use mathlib.Core.Bool.{true}
use mathlib.Core.Logic.{◌⊎◌, ⊎_elim}
use mathlib.Core.List.{List, [], ◌∷◌, ◌++◌}
use native.Mathlib.Nat.{zero-add}
use native.Mathlib.Omega.{arith}
use lib.ListN.{length, get_or, set, length-set, length-take, length-drop}
use lib.Seq.{get_or-set_same, get_or-set_other}
use borrow.Author.Tests.{ne_eqb}
use Rattle.std.specs.Prelude.{Option, Some, None, Ok, Err}
use Rattle.refusal.specs.declared.Refusal.{Refusal}
use Rattle.refusal.specs.declared.Refusal.TheVariants as refusal
use Rattle.handle.specs.declared.Handle.{Handle}
use Rattle.handle.specs.Handle.{fits_of}
use Rattle.handle.proofs.HandleLaws.{fit}
use Rattle.marks.specs.Marks.{record_each, Below}
use Rattle.place.specs.declared.Network.{Network}
use Rattle.place.specs.declared.Outcome.{Outcome}
use Rattle.place.specs.declared.Outcome.TheVariants as outcome
use Rattle.walk.specs.declared.Walk.{Walk}
use Rattle.walk.specs.declared.rows.Halt.{Halt}
use Rattle.walk.specs.declared.rows.Halt.TheVariants as halt
use Rattle.walk.specs.Calls.{data_section, next_of}
use Rattle.walk.specs.Rows.{no_data, kind_number, offset_word, put, put_all, Run, on_answer, run_of, Poured, poured, pouring, rows_of}
use Rattle.carried.proofs.Paused.{within_budget}
use Rattle.recording.specs.Recording.{Recorded, offsets_of, Roomy, offset_in, offsets_from, On, reply_of, Tour, on_reply, too_many_tour, toured, done, marked}
use Rattle.recording.proofs.TourLaws.{Inside, Told, told_next, marked_offset}

-- ---- a walk by its runs

-- the networks of a run, with so many more allowed, and what follows with those that are left
unfoldable tour_on : ℕ → List Network → (ℕ → Tour) → Tour
tour_on more [] rest = rest more
tour_on zero (n ∷ l) rest = on_reply (On n.offset) too_many_tour
tour_on (suc more) (n ∷ l) rest = on_reply (On n.offset) (tour_on more l rest)

abbrev pub ending : Recorded → Tour
ending r = record { offsets = []; ended = r }

-- a run that ended for want of room is carried on
abbrev pub on_halt : Halt → Tour → Tour
on_halt halt.Full rest = rest
on_halt (halt.Failed r) rest = ending (Err r)
on_halt (halt.Refused r) rest = ending (Err r)
on_halt halt.Paused rest = ending (Err refusal.Budget)
on_halt halt.End rest = ending (Ok tt)

module _ (s : List ℕ) (h : Handle) where
  abbrev following : ℕ → Halt → Walk → ℕ → Tour
  following b e w more = on_halt e (toured s h more b w)

  -- a run that gives the same as what follows its first call
  abbrev Runs : Tour → ℕ → ℕ → Run → Type 0
  Runs t more b r = t ≡ tour_on more r.networks (following (b - r.taken) r.halt r.walk)

  run_over : (a : Outcome) (b t : ℕ) (v : Walk) (r : Run) → Runs (on_reply (reply_of a) too_many_tour) 0 b (on_answer a t v r)
  unfolding tour_on
  run_over (outcome.Given n) b t v r = refl
  run_over (outcome.Failed e) b t v r = refl
  run_over (outcome.Refused e) b t v r = refl
  run_over outcome.Paused b t v r = refl
  run_over outcome.End b t v r = refl

  run_on : (a : Outcome) (more b t : ℕ) (v : Walk) (r : Run) (x : Tour) → Runs x more (b - t) r → Runs (on_reply (reply_of a) x) (suc more) b (on_answer a t v r)
  unfolding tour_on
  run_on (outcome.Given n) more b t v r x e =
      let q : b - t - r.taken ≡ b - (t + r.taken) = omega arith in
      ap (on_reply (On n.offset)) (e ∙ ap (λ (k : ℕ). tour_on more r.networks (following k r.halt r.walk)) q)
  run_on (outcome.Failed f) more b t v r x e = refl
  run_on (outcome.Refused f) more b t v r x e = refl
  run_on outcome.Paused more b t v r x e = refl
  run_on outcome.End more b t v r x e = refl

  tour_run : (room more b : ℕ) (w : Walk) → Runs (toured s h more b w) more b (run_of s h room b w)
  unfolding toured tour_on run_of
  tour_run zero more b w = let q : b ≡ b - 0 = omega arith in ap (λ (k : ℕ). toured s h more k w) q
  tour_run (suc room) zero b w =
      run_over (next_of s h w b).answer b (next_of s h w b).taken (next_of s h w b).walk (run_of s h room (b - (next_of s h w b).taken) (next_of s h w b).walk)
  tour_run (suc room) (suc more) b w =
      run_on (next_of s h w b).answer more b (next_of s h w b).taken (next_of s h w b).walk (run_of s h room (b - (next_of s h w b).taken) (next_of s h w b).walk) _
      (tour_run room more (b - (next_of s h w b).taken) (next_of s h w b).walk)

-- ---- what a run hands out

unfoldable Each : ℕ → List Network → Type 0
Each len [] = Unit
Each len (n ∷ l) = Inside len n.offset × Each len l

module _ (s : List ℕ) (h : Handle) where
  abbrev len : ℕ
  len = length (data_section s h)

  -- offsets inside the data section, no more networks than room, as many if there is none left, no more places than the budget
  record Bounded (room b : ℕ) (r : Run) : Type 0 where
    inside : Each len r.networks
    few : length r.networks ≤ room
    filled : r.halt ≡ halt.Full → length r.networks ≡ room
    paid : r.taken ≤ b

  bounded_next : (a : Outcome) (room b t : ℕ) (v : Walk) (r : Run) → Told len a → t ≤ b → Bounded room (b - t) r → Bounded (suc room) b (on_answer a t v r)
  unfolding Each
  bounded_next (outcome.Given n) room b t v r i p k =
      record { inside = (i, k.inside); few = omega (arith, k.few); filled = λ e. ap suc (k.filled e); paid = omega (arith, k.paid) }
  bounded_next (outcome.Failed e) room b t v r i p k =
      record { inside = tt; few = omega arith; filled = λ e. absurd (cc); paid = p }
  bounded_next (outcome.Refused e) room b t v r i p k =
      record { inside = tt; few = omega arith; filled = λ e. absurd (cc); paid = p }
  bounded_next outcome.Paused room b t v r i p k =
      record { inside = tt; few = omega arith; filled = λ e. absurd (cc); paid = p }
  bounded_next outcome.End room b t v r i p k =
      record { inside = tt; few = omega arith; filled = λ e. absurd (cc); paid = p }

  bounded : (room b : ℕ) (w : Walk) → Bounded room b (run_of s h room b w)
  unfolding run_of Each
  bounded zero b w = record { inside = tt; few = omega arith; filled = λ e. refl; paid = omega arith }
  bounded (suc room) b w =
      bounded_next (next_of s h w b).answer room b (next_of s h w b).taken (next_of s h w b).walk (run_of s h room (b - (next_of s h w b).taken) (next_of s h w b).walk)
      (told_next s h w b) (within_budget s h w b) (bounded room (b - (next_of s h w b).taken) (next_of s h w b).walk)

-- ---- its rows

unfoldable Holds : List ℕ → ℕ → List Network → Type 0
Holds rows row [] = Unit
Holds rows row (n ∷ l) = (offset_in (get_or rows (row * 5 + 4) 0) ≡ n.offset) × Holds rows (row + 1) l

module _ (out : List ℕ) (row : ℕ) (n : Network) where
  abbrev one : List ℕ
  one = set out (row * 5) n.key.high

  abbrev two : List ℕ
  two = set one (row * 5 + 1) n.key.low

  abbrev three : List ℕ
  three = set two (row * 5 + 2) n.len

  abbrev four : List ℕ
  four = set three (row * 5 + 3) (kind_number n.kind)

  put_length : length (put out row n) ≡ length out
  put_length = simp length-set

  put_last : row * 5 + 5 ≤ length out → get_or (put out row n) (row * 5 + 4) 0 ≡ offset_word n.offset
  put_last room =
      let e : length four ≡ length out = simp length-set in
      get_or-set_same four (row * 5 + 4) (offset_word n.offset) 0 (omega (arith, e))

  put_below : (j : ℕ) → j < row * 5 → get_or (put out row n) j 0 ≡ get_or out j 0
  put_below j less =
      get_or-set_other four (row * 5 + 4) j (offset_word n.offset) 0 (λ e. omega arith) ∙ get_or-set_other three (row * 5 + 3) j (kind_number n.kind) 0 (λ e. omega arith)
      ∙ get_or-set_other two (row * 5 + 2) j n.len 0 (λ e. omega arith) ∙ get_or-set_other one (row * 5 + 1) j n.key.low 0 (λ e. omega arith)
      ∙ get_or-set_other out (row * 5) j n.key.high 0 (λ e. omega arith)

all_below : (l : List Network) (out : List ℕ) (row j : ℕ) → j < row * 5 → get_or (put_all out row l) j 0 ≡ get_or out j 0
unfolding put_all
all_below [] out row j less = refl
all_below (n ∷ l) out row j less = all_below l (put out row n) (row + 1) j (omega arith) ∙ put_below out row n j less

offset_back : (m : ℕ) (o : Option ℕ) → m ≤ no_data → Inside m o → offset_in (offset_word o) ≡ o
offset_back m (Some x) u i = simp (ne_eqb x no_data (λ e. omega arith))
offset_back m None u i = refl

holds_all : (m : ℕ) → m ≤ no_data → (l : List Network) (out : List ℕ) (row : ℕ) → Each m l → (row + length l) * 5 ≤ length out → Holds (put_all out row l) row l
unfolding put_all Each Holds
holds_all m u [] out row e room = tt
holds_all m u (n ∷ l) out row e room =
    let k = put_length out row n in (
      ap offset_in (all_below l (put out row n) (row + 1) (row * 5 + 4) (omega arith) ∙ put_last out row n (omega arith)) ∙ offset_back m n.offset u e.0,
      holds_all m u l (put out row n) (row + 1) e.1 (omega (arith, k)),
    )

-- ---- a row's offset, and those of the rows behind it

pub row_first : (rows : List ℕ) (row n : ℕ) → row < n → offsets_from rows row (n - row) ≡ offsets_of (offset_in (get_or rows (row * 5 + 4) 0)) ++ offsets_from rows (row + 1) (n - (row + 1))
unfolding offsets_from
row_first rows row n less = let e : n - row ≡ suc (n - (row + 1)) = omega arith in rw e

pub row_none : (rows : List ℕ) (row n : ℕ) → n ≤ row → offsets_from rows row (n - row) ≡ []
unfolding offsets_from
row_none rows row n le = let e : n - row ≡ 0 = omega arith in rw e

pub recorded_first : (ws : List ℕ) (o : Option ℕ) (l : List ℕ) → record_each ws (offsets_of o ++ l) ≡ record_each (record_each ws (offsets_of o)) l
unfolding record_each
recorded_first ws (Some x) l = refl
recorded_first ws None l = refl

-- words that have a place for each offset
pub roomy_first : (n : ℕ) (o : Option ℕ) (l : List ℕ) → Below (n / 2 * 64) (offsets_of o ++ l) → Roomy n o × Below (n / 2 * 64) l
unfolding Below
roomy_first n (Some x) l b = let i : x < n / 2 * 64 = b.0 in (omega arith, b.1)
roomy_first n None l b = (tt, b)

-- the offsets of the rows are those of the networks
module _ (rows : List ℕ) where
  below_first : (m k : ℕ) (o : Option ℕ) (l : List ℕ) → m ≤ k → Inside m o → Below k l → Below k (offsets_of o ++ l)
  unfolding Below
  below_first m k (Some x) l u i b = (omega arith, b)
  below_first m k None l u i b = b

  rows_below :
      (m k : ℕ) → m ≤ k → (l : List Network) (row n : ℕ) → Holds rows row l → Each m l → n ≤ length l → Below k (offsets_from rows row n)
  unfolding Holds Each offsets_from Below
  rows_below m k u l row zero q e le = tt
  rows_below m k u [] row (suc n) q e le = absurd (omega arith)
  rows_below m k u (x ∷ l) row (suc n) q e le =
      rw q.0 (below_first m k x.offset (offsets_from rows (row + 1) n) u e.0 (rows_below m k u l (row + 1) n q.1 e.1 (omega arith)))

  module _ (rest : ℕ → Tour) where
    rows_within :
        (l : List Network) (row more : ℕ) (ws : List ℕ) → Holds rows row l → length l ≤ more
        → marked (rest (more - length l)) (record_each ws (offsets_from rows row (length l))) ≡ marked (tour_on more l rest) ws
    unfolding Holds tour_on offsets_from record_each
    rows_within [] row more ws q le = let z : more - 0 ≡ more = omega arith in rw z
    rows_within (n ∷ l) row zero ws q le = absurd (omega arith)
    rows_within (n ∷ l) row (suc more) ws q le =
        let z : suc more - suc (length l) ≡ more - length l = omega arith in
        rw (z, q.0, recorded_first ws n.offset (offsets_from rows (row + 1) (length l))) (
        rows_within l (row + 1) more (record_each ws (offsets_of n.offset)) q.1 (omega arith) ∙ marked_offset ws n.offset (tour_on more l rest)
        )

    rows_over :
        (l : List Network) (row more : ℕ) (ws : List ℕ) → Holds rows row l → more < length l
        → done too_many_tour.ended (record_each ws (offsets_from rows row (suc more))) ≡ marked (tour_on more l rest) ws
    unfolding Holds tour_on offsets_from record_each
    rows_over [] row more ws q less = absurd (omega arith)
    rows_over (n ∷ l) row zero ws q less =
        ap (λ (o : Option ℕ). done too_many_tour.ended (record_each ws (offsets_of o ++ []))) q.0
        ∙ ap (done too_many_tour.ended) (recorded_first ws n.offset []) ∙ marked_offset ws n.offset too_many_tour
    rows_over (n ∷ l) row (suc more) ws q less =
        rw (q.0, recorded_first ws n.offset (offsets_from rows (row + 1) (suc more))) (
        rows_over l (row + 1) more (record_each ws (offsets_of n.offset)) q.1 (omega arith) ∙ marked_offset ws n.offset (tour_on more l rest)
        )

-- ---- one call of the walk's loop

module _ (s : List ℕ) (h : Handle) (b : ℕ) (w : Walk) (room : ℕ) where
  pub record Swept (p : Poured) : Type 0 where
    pub few : p.filled.rows ≤ room
    pub full : p.filled.halt ≡ halt.Full → p.filled.rows ≡ room
    pub paid : p.filled.taken ≤ b
    pub below : (k n : ℕ) → length (data_section s h) ≤ k → n ≤ p.filled.rows → Below k (offsets_from p.buffer 0 n)
    -- a network more than allowed
    pub over :
        (more : ℕ) (ws : List ℕ) → more < p.filled.rows
        → done too_many_tour.ended (record_each ws (offsets_from p.buffer 0 (more + 1))) ≡ marked (toured s h more b w) ws
    -- or none
    pub within :
        (more : ℕ) (ws : List ℕ) → p.filled.rows ≤ more
        → marked (on_halt p.filled.halt (toured s h (more - p.filled.rows) (b - p.filled.taken) p.filled.walk)) (record_each ws (offsets_from p.buffer 0 p.filled.rows))
        ≡ marked (toured s h more b w) ws

  -- by why the call ended
  pub halted :
      (p : Poured) → Swept p → (e : Halt) → p.filled.halt ≡ e → (more : ℕ) (ws : List ℕ) → p.filled.rows ≤ more
      → marked (on_halt e (toured s h (more - p.filled.rows) (b - p.filled.taken) p.filled.walk)) (record_each ws (offsets_from p.buffer 0 p.filled.rows))
      ≡ marked (toured s h more b w) ws
  halted p k e q more ws le = rw q at (k.within more ws le)

  -- by a refusal, of a place or of the walk
  pub halted_by :
      (p : Poured) → Swept p → (r : Refusal) → ((p.filled.halt ≡ halt.Failed r) ⊎ (p.filled.halt ≡ halt.Refused r)) → (more : ℕ) (ws : List ℕ) → p.filled.rows ≤ more
      → marked (ending (Err r)) (record_each ws (offsets_from p.buffer 0 p.filled.rows)) ≡ marked (toured s h more b w) ws
  halted_by p k r d more ws le = ⊎_elim (λ e. halted p k _ e more ws le) (λ e. halted p k _ e more ws le) d

  module _ (fits : fits_of h (length s) ≡ true) (out : List ℕ) (space : length out / 5 ≡ room) where
    abbrev run : Run
    run = run_of s h room b w

    short : length (data_section s h) ≤ no_data
    short = let f = fit h (length s) fits in simp (length-take, length-drop) (omega (arith, f.short))

    held : Holds (put_all out 0 run.networks) 0 run.networks
    held = let k = bounded s h room b w in holds_all _ short run.networks out 0 k.inside (omega (arith, k.few, space))

    rows_swept : Swept (poured (record { rows = length run.networks; taken = run.taken; halt = run.halt; walk = run.walk }) (put_all out 0 run.networks))
    rows_swept =
        let k = bounded s h room b w in
        record {
          few = k.few;
          full = k.filled;
          paid = k.paid;
          below = λ m n u le. rows_below _ _ m u run.networks 0 n held k.inside le;
          over = λ more ws less. let e : more + 1 ≡ suc more = omega arith in rw e (rows_over _ _ run.networks 0 more ws held less ∙ ap (λ (t : Tour). marked t ws) (sym (tour_run s h room more b w)));
          within = λ more ws le. rows_within _ _ run.networks 0 more ws held le ∙ ap (λ (t : Tour). marked t ws) (sym (tour_run s h room more b w));
        }

    pub swept : (p : Poured) → p ≡ rows_of s h w b out → Swept p
    unfolding rows_of
    swept p e =
        let q : p ≡ pouring 0 0 run out = e ∙ simp (fits, space) in
        subst Swept (sym q) (rw (zero-add (length run.networks), zero-add run.taken) rows_swept)

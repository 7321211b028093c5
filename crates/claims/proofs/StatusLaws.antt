-- A status tells one verdict.
use Prim.Native.Nat.{ℕ, zero, suc, ◌-◌, ◌+◌}
use mathlib.Core.Path.{◌≡◌, refl, sym, subst, ap, ◌∙◌}
use mathlib.Core.Bool.{Bool, true, false, cond, ◌&&◌, and-eq-true_iff}
use mathlib.Core.Logic.{inl, inr}
use mathlib.Core.List.{List, [], ◌∷◌}
use native.Mathlib.Omega.{arith}
use lib.ListN.{length}
use lib.IntN.{ℤ}
use Rattle.std.specs.Prelude.{Option, Some, None, Result, Ok, Err}
use Rattle.refusal.specs.declared.Refusal.{Refusal}
use Rattle.refusal.specs.declared.Refusal.TheVariants as refusal
use Rattle.refusal.specs.Refusals.{number_of}
use lib.Dec.{eqb, leb}
use borrow.Author.Tests.{leb-true, ne_eqb}
use Rattle.order.specs.Order.{Verdict, Answers, Refuses, Ends, Pauses, Table, First, Exactly}
use Rattle.order.proofs.OrderLaws.{exactly, refuses_not}
use Rattle.handle.specs.Handle.{fits_of}
use Rattle.handle.specs.declared.Handle.{Handle}
use Rattle.handle.proofs.HandleLaws.{Fit, fit}
use Rattle.path.specs.declared.Cursor.{Cursor}
use Rattle.opening.specs.declared.Reader.{Reader}
use Rattle.value.specs.declared.Value.{Value}
use Rattle.value.specs.declared.Value.TheVariants as value
use Rattle.lookup.specs.Lookup.{asked_of, numbered, end_of, found_from}
use Rattle.lookup.specs.declared.Address.{Address}
use Rattle.lookup.specs.declared.Way.{Way}
use Rattle.tree.specs.declared.Found.{Found}
use Rattle.section.specs.Section.{data_length}
use Rattle.walk.specs.declared.Walk.{Walk}
use Rattle.walk.specs.Calls.{next_of}
use Rattle.walk.specs.Rows.{on_answer, run_of}
use Rattle.place.specs.declared.Outcome.{Outcome}
use Rattle.place.specs.declared.Outcome.TheVariants as outcome
use Rattle.maxminddb.specs.Answers.{open_verdict, age_verdict, lookup_verdict, read_verdict, step_verdict, start_verdict, next_verdict, words_verdict, verify_verdict}
use Rattle.maxminddb.specs.Entries.{on_asked, lookup_of}
use Rattle.promises.specs.Walks.{call_table}
use Rattle.promises.proofs.Calls as calls
use Rattle.promises.proofs.Offsets.{Told, none, offset, neither, told}
use Rattle.answers.specs.Answers.{refused, paused, end, opened_of, aged_of, found_of, valued_of, stepped_of, status_of, called_of, halted_of, scratch_of, verified_of}
use Rattle.words.specs.Words.{held}
use Rattle.claims.specs.Statuses.{status_of_verdict, Numbered, Shows, door, found_status, value_status, ShowsStep, Filling, Keeps}

-- every row's number is one of 1 to 24
abbrev pub AllNumbered : Table → Type 0
AllNumbered [] = Unit
AllNumbered (row ∷ rows) = Numbered row.0 × AllNumbered rows

pub number : (n : ℕ) → (leb 1 n && leb n 24) ≡ true → Numbered (Refuses n)
number n e = let p = (and-eq-true_iff (leb 1 n) (leb n 24)).0 e in (leb-true 1 n p.0, leb-true n 24 p.1)

numbered_first : (t : Table) → AllNumbered t → (v : Verdict) → First t v → Numbered v
numbered_first [] n v f = rw f tt
numbered_first (row ∷ rows) n v (inl p) = subst Numbered (sym p.1) n.0
numbered_first (row ∷ rows) n v (inr p) = numbered_first rows n.1 v p.1

-- the verdict that a status tells
abbrev told_by : ℕ → Verdict
told_by status = cond (eqb status 0) Answers (cond (eqb status paused) Pauses (cond (eqb status end) Ends (Refuses status)))

told_back : (v : Verdict) → Numbered v → told_by (status_of_verdict v) ≡ v
told_back Answers n = refl
told_back (Refuses k) n =
    let a : k ≡ 0 → ⊥ = λ e. omega (arith, e, n.0) in
    let b : k ≡ paused → ⊥ = λ e. omega (arith, e, n.1) in
    let c : k ≡ end → ⊥ = λ e. omega (arith, e, n.1) in
    simp (ne_eqb _ _ a, ne_eqb _ _ b, ne_eqb _ _ c)
told_back Ends n = refl
told_back Pauses n = refl

-- two verdicts of one status are one
one_status : (v w : Verdict) → Numbered v → Numbered w → status_of_verdict v ≡ status_of_verdict w → v ≡ w
one_status v w n m e = sym (told_back v n) ∙ ap told_by e ∙ told_back w m

-- so a status that is the decided verdict's tells it both ways
pub shows : (t : Table) → AllNumbered t → (v : Verdict) → Exactly t v → (status : ℕ) → status ≡ status_of_verdict v → Shows t status
shows t n v e status q w m = (
  (λ p. (e w).0 (one_status v w (numbered_first t n v ((e v).0 refl)) m (sym q ∙ p))),
  (λ f. q ∙ ap status_of_verdict ((e w).1 f)),
)

-- with 13 first
pub door_shows :
    (passes : Bool) (t : Table) → AllNumbered t → (v : Verdict) → Exactly t v → (status : ℕ) → status ≡ cond passes (status_of_verdict v) 13
    → Shows (door passes t) status
door_shows passes t n v e status q =
    shows (door passes t) (number 13 refl, n) (cond passes v (Refuses 13)) (exactly (door passes t) _ (first passes)) status (q ∙ same passes)
  where
    first : (b : Bool) → First (door b t) (cond b v (Refuses 13))
    first true = inr ((λ z. cc), (e v).0 refl)
    first false = inl (refl, refl)

    same : (b : Bool) → cond b (status_of_verdict v) 13 ≡ status_of_verdict (cond b v (Refuses 13))
    same true = refl
    same false = refl

pub chosen : {A B : Type 0} (f : A → B) (b : Bool) (x y : A) → f (cond b x y) ≡ cond b (f x) (f y)
chosen f true x y = refl
chosen f false x y = refl

-- the status of each answer is its verdict's
pub opened_status : (d : Result Reader Refusal) → (opened_of d).status ≡ status_of_verdict (open_verdict d)
opened_status (Ok r) = refl
opened_status (Err n) = refl

pub aged_status : (d : Result ℤ Refusal) → (aged_of d).status ≡ status_of_verdict (age_verdict d)
aged_status (Ok z) = refl
aged_status (Err n) = refl

pub valued_status : (d : Result Value Refusal) → value_status (valued_of d) ≡ status_of_verdict (read_verdict d)
valued_status (Ok (value.Map k)) = refl
valued_status (Ok (value.Array k)) = refl
valued_status (Ok (value.Text k)) = refl
valued_status (Ok (value.Bytes k)) = refl
valued_status (Ok (value.U16 k)) = refl
valued_status (Ok (value.U32 k)) = refl
valued_status (Ok (value.U64 k)) = refl
valued_status (Ok (value.U128 k l)) = refl
valued_status (Ok (value.I32 k)) = refl
valued_status (Ok (value.Boolean k)) = refl
valued_status (Ok (value.Double k l)) = refl
valued_status (Ok (value.Float k l)) = refl
valued_status (Err n) = refl

pub start_status : (d : Result Unit Refusal) → status_of d ≡ status_of_verdict (start_verdict d)
start_status (Ok begun) = refl
start_status (Err n) = refl

pub called_status : (d : Outcome) (taken : ℕ) → (called_of d taken).status ≡ status_of_verdict (next_verdict d)
called_status (outcome.Given n) taken = refl
called_status (outcome.Failed n) taken = refl
called_status (outcome.Refused n) taken = refl
called_status outcome.Paused taken = refl
called_status outcome.End taken = refl

pub words_status : (d : Result ℕ Refusal) → (scratch_of d).status ≡ status_of_verdict (words_verdict d)
words_status (Ok n) = refl
words_status (Err n) = refl

pub verified_status : (d : Result ℕ Refusal) → (verified_of d).status ≡ status_of_verdict (verify_verdict d)
verified_status (Ok n) = refl
verified_status (Err n) = refl

pub step_shows : (t : Table) → AllNumbered t → (d : Result (Option Cursor) Refusal) → Exactly t (step_verdict d) → (status : ℕ) → status ≡ (stepped_of d).status → ShowsStep t d status
step_shows t n (Ok (Some c)) e status q =
    record {
      absent = ((λ p. absurd (omega (arith, p, q))), (λ p. absurd cc));
      others = λ p. shows t n Answers e status q;
    }
step_shows t n (Ok None) e status q = record { absent = ((λ p. refl), (λ p. q)); others = λ p. absurd (p refl) }
step_shows t n (Err r) e status q =
    let k = number_of r in
    let m = numbered_first t n (Refuses k) ((e (Refuses k)).0 refl) in
    record {
      absent = ((λ p. absurd (omega (arith, p, q, m.1))), (λ p. absurd cc));
      others = λ p. shows t n (Refuses k) e status q;
    }

-- an offset lies in the data section, so it is not the word that stands for a refusal
module _ (s : List ℕ) (h : Handle) (f : Fit h (length s)) where
  told_status :
      {node len : ℕ} {a : Option Found} → Told h.nodes (data_length h) node len a
      → found_status (found_of (numbered a)) ≡ status_of_verdict (lookup_verdict (numbered a))
  told_status (none l) = refl
  told_status (offset o l e) =
      let w = f.whole in
      let b = f.short in
      let ne : o ≡ refused → ⊥ = λ q. omega (arith, l, w, b, q) in
      simp (ne_eqb _ _ ne)
  told_status (neither n) = refl

  asked_status : (x : Result Way Refusal) → found_status (found_of (on_asked s h x)) ≡ status_of_verdict (lookup_verdict (on_asked s h x))
  unfolding found_from
  asked_status (Ok w) = told_status (told h.nodes (data_length h) (end_of s h w).node (w.depth + (end_of s h w).depth))
  asked_status (Err r) = refl

pub found_status_lem : (s : List ℕ) (h : Handle) (a : Address) → found_status (found_of (lookup_of s h a)) ≡ status_of_verdict (lookup_verdict (lookup_of s h a))
unfolding lookup_of
found_status_lem s h a = by (fits_of h (length s)) refl
  where
    by :
        (b : Bool) → fits_of h (length s) ≡ b
        → found_status (found_of (cond b (on_asked s h (asked_of h a)) (Err refusal.Handle)))
        ≡ status_of_verdict (lookup_verdict (cond b (on_asked s h (asked_of h a)) (Err refusal.Handle)))
    by true e = asked_status s h (fit h (length s) e) (asked_of h a)
    by false e = refl

-- 9, End, 13, Paused, 12, 11, 14
pub call_numbers : (s : List ℕ) (h : Handle) (left : ℕ) (at : Walk) → AllNumbered (call_table s h left at)
call_numbers s h left at = (number 9 refl, (tt, (number 13 refl, (tt, (number 12 refl, (number 11 refl, (number 14 refl, tt)))))))

-- many rows
module _ (s : List ℕ) (h : Handle) where
  -- a call of status 0 gives a network
  decided : (w : Walk) (b : ℕ) → status_of_verdict (next_verdict (next_of s h w b).answer) ≡ 0 → next_verdict (next_of s h w b).answer ≡ Answers
  decided w b e =
      let c = calls.next s h w b in
      let v = next_verdict (next_of s h w b).answer in
      one_status v Answers (numbered_first (call_table s h c.left c.at) (call_numbers s h c.left c.at) v ((c.verdict v).0 refl)) tt e

  ends :
      (room b : ℕ) (w : Walk) (status : ℕ) → (next_verdict (next_of s h w b).answer ≡ Answers → ⊥)
      → status ≡ status_of_verdict (next_verdict (next_of s h w b).answer) → Filling s h w b (suc room) 0 status
  ends room b w status n e =
      record {
        left = b;
        at = w;
        few = omega arith;
        networks = (refl, refl);
        full = ((λ z. absurd (n (decided w b (sym e ∙ z)))), (λ z. absurd (omega (arith, z))));
        stops = λ l. e;
      }

  pub filling : (room b : ℕ) (w : Walk) → Filling s h w b room (length (run_of s h room b w).networks) (halted_of (run_of s h room b w).halt)
  unfolding run_of
  filling zero b w =
      record {
        left = b;
        at = w;
        few = omega arith;
        networks = (refl, refl);
        full = ((λ z. refl), (λ z. refl));
        stops = λ l. absurd (omega (arith, l));
      }
  filling (suc room) b w = by (filling room (b - (next_of s h w b).taken) (next_of s h w b).walk) (next_of s h w b).answer refl
    where
      by :
          Filling s h (next_of s h w b).walk (b - (next_of s h w b).taken) room
          (length (run_of s h room (b - (next_of s h w b).taken) (next_of s h w b).walk).networks)
          (halted_of (run_of s h room (b - (next_of s h w b).taken) (next_of s h w b).walk).halt)
          → (a : Outcome) → (next_of s h w b).answer ≡ a
          → Filling s h w b (suc room) (length (on_answer a (next_of s h w b).taken (next_of s h w b).walk (run_of s h room (b - (next_of s h w b).taken) (next_of s h w b).walk)).networks)
          (halted_of (on_answer a (next_of s h w b).taken (next_of s h w b).walk (run_of s h room (b - (next_of s h w b).taken) (next_of s h w b).walk)).halt)
      by f (outcome.Given n) e =
          record {
            left = f.left;
            at = f.at;
            few = omega (arith, f.few);
            networks = ((n, e), f.networks);
            full = ((λ z. ap suc (f.full.0 z)), (λ z. f.full.1 (omega (arith, z))));
            stops = λ l. f.stops (omega (arith, l));
          }
      by f (outcome.Failed n) e = ends room b w _ (rw e refuses_not) (rw e)
      by f (outcome.Refused n) e = ends room b w _ (rw e refuses_not) (rw e)
      by f outcome.Paused e = ends room b w _ (rw e (λ q. cc)) (rw e)
      by f outcome.End e = ends room b w _ (rw e (λ q. cc)) (rw e)

-- the walk's words afterwards
pub keeps : (passes : Bool) (ws : List ℕ) (w : Walk) (after : List ℕ) → after ≡ cond passes (held ws w) ws → Keeps passes ws w after
keeps passes ws w after e = ((λ f. e ∙ rw f), (λ f. e ∙ rw f))

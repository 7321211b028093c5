-- Verification: its answer and the lent words.
use Prim.Native.Nat.{ℕ, zero, suc, ◌+◌, ◌-◌, ◌*◌, ◌≤◌, ◌<◌}
use mathlib.Core.Path.{◌≡◌, refl, sym, ap, subst, ◌∙◌}
use mathlib.Core.Bool.{Bool, true, false, cond, ◌&&◌, false≢true, and-eq-true_iff}
use mathlib.Core.Logic.{inl, inr}
use mathlib.Core.List.{List, [], ◌∷◌, drop}
use native.Mathlib.Omega.{arith}
use lib.ListN.{length, get_or, take, length-take}
use lib.ListN as lists
use lib.Seq.{get_or-take, get_or-drop}
use lib.Dec.{leb, eqb}
use borrow.Author.Tests.{leb-true, leb-false, eqb-true, eqb-false}
use Rattle.number.proofs.Tests.{chosen_first}
use Rattle.std.specs.Prelude.{Result, Ok, Err}
use Rattle.refusal.specs.Refusals.{number_of}
use Rattle.refusal.specs.declared.Refusal.{Refusal}
use Rattle.refusal.specs.declared.Refusal.TheVariants as refusal
use Rattle.handle.specs.declared.Handle.{Handle}
use Rattle.handle.proofs.HandleLaws.{Fit, fit}
use Rattle.section.specs.Section.{section_of}
use Rattle.opening.specs.Opening.{open_of}
use Rattle.opening.specs.declared.Reader.{Reader}
use Rattle.opening.proofs.OpeningLaws as opening
use Rattle.opening.proofs.OpeningLaws.{is_refused, open_fits}
use Rattle.marks.specs.Marks.{contains, distinct}
use Rattle.sweep.specs.Sweep.{data_accepted, metadata_accepted}
use Rattle.recording.specs.Recording.{Recorded, tour_of}
use Rattle.place.specs.declared.Outcome.TheVariants as outcome
use Rattle.verify.specs.Verify.{Verified, Out, out, metadata_in, words_of, separator_of, all_zero, walked, database_of, verdict_of, cleared, verify_on, verify_of}
use Rattle.maxminddb.specs.Answers.{verify_verdict}
use Rattle.order.specs.Order.{Refuses, Table, First}
use Rattle.order.proofs.OrderLaws.{exactly, gate, refuses_not}
use Rattle.promises.specs.Verifying.{Opened, ScratchTooShort, BadMetadata, NoType, NoDescription, begun, WalkFails, TooMany, BudgetSpent, BadSeparator, BadData, verify_rows, verify_table, Early, Verifies}
use Rattle.promises.proofs.Images.{then}
use Rattle.promises.proofs.Tours.{Ended, whole, met_bad_record, met_too_deep, too_many, spent, tour_ended, then_ends, many_ends}

-- the separator's bytes
zero_all : (l : List ℕ) → all_zero l ≡ true → (i : ℕ) → get_or l i 0 ≡ 0
unfolding all_zero
zero_all [] e i = refl
zero_all (b ∷ bs) e zero = eqb-true b 0 ((and-eq-true_iff (eqb b 0) (all_zero bs)).0 e).0
zero_all (b ∷ bs) e (suc i) = zero_all bs ((and-eq-true_iff (eqb b 0) (all_zero bs)).0 e).1 i

zero_some : (l : List ℕ) → all_zero l ≡ false → (i : ℕ) × ((i < length l) × (get_or l i 0 ≡ 0 → ⊥))
unfolding all_zero
zero_some [] e = absurd (false≢true (sym e))
zero_some (b ∷ bs) e = by (eqb b 0) refl (zero_some bs) e
  where
    by :
        (t : Bool) → eqb b 0 ≡ t → (all_zero bs ≡ false → (i : ℕ) × ((i < length bs) × (get_or bs i 0 ≡ 0 → ⊥))) → (t && all_zero bs) ≡ false
        → (i : ℕ) × ((i < length (b ∷ bs)) × (get_or (b ∷ bs) i 0 ≡ 0 → ⊥))
    by true f rest g = let r = rest g in (suc r.0, (omega (arith, r.1.0), r.1.1))
    by false f rest g = (0, (omega arith, eqb-false b 0 f))

byte_at : (s : List ℕ) (p i : ℕ) → i < 16 → get_or (take 16 (lists.drop p s)) i 0 ≡ get_or s (p + i) 0
byte_at s p i l = get_or-take 16 (lists.drop p s) i 0 l ∙ get_or-drop p s i 0

-- 24, 1 to 8 come from opening
early : {s : List ℕ} {e : Refusal} → opening.Refuses s e → Early (number_of e)
early (opening.too_long h) = inl refl
early (opening.no_marker_lem h f) = inr (inl (omega arith, omega arith))
early (opening.no_metadata marker h l e) = inr (inl (omega arith, omega arith))
early (opening.format_version_lem marker m d f) = inr (inl (omega arith, omega arith))
early (opening.ip_version_lem marker m d a f) = inr (inl (omega arith, omega arith))
early (opening.no_nodes_lem marker m d a v e) = inr (inl (omega arith, omega arith))
early (opening.build_time_lem marker m d a v n h) = inr (inl (omega arith, omega arith))
early (opening.record_size_lem marker m d a v n b f) = inr (inl (omega arith, omega arith))
early (opening.tree_too_long_lem marker m d a v n b z h) = inr (inl (omega arith, omega arith))

-- and what comes after them is none of these
not_early : {n : ℕ} → 9 ≤ n → n ≤ 21 → Early n → ⊥
not_early a b (inl e) = omega arith
not_early a b (inr (inl p)) = let q = p.1 in omega arith
not_early a b (inr (inr e)) = omega arith

between : {n k : ℕ} → Refuses n ≡ Refuses k → 9 ≤ k → k ≤ 21 → (9 ≤ n) × (n ≤ 21)
between {n} {k} e a b = let q : n ≡ k = cc in (omega arith, omega arith)

-- an answer that accepts was not refused on the way
refused_not : {k : Refusal} {n : ℕ} → ◌≡◌ {A = Verified} (Err k) (Ok n) → ⊥
refused_not e = cc

module _ (s : List ℕ) (bytes : (i : ℕ) → get_or s i 0 < 256) (ws : List ℕ) (budget : ℕ) where
  abbrev rows : Table
  rows = verify_rows s ws budget

  module _ (r : Reader) (e : open_of s ≡ Ok r) where
    abbrev h : Handle
    h = r.handle

    of : (P : Reader → Type 0) → P r → Opened s P
    of P p = record { reader = r; opens = e; holds = p }

    not_of : (P : Reader → Type 0) → (P r → ⊥) → Opened s P → ⊥
    not_of P n o =
        let f = sym e ∙ o.opens in
        let g : r ≡ o.reader = cc in
        n (subst P (sym g) o.holds)

    data_first : First (drop 9 rows) (verify_verdict (cond (data_accepted (section_of s h) (contains (tour_of s h budget).offsets)) (Ok (distinct (tour_of s h budget).offsets)) (Err refusal.Malformed)))
    data_first =
        gate verify_verdict (data_accepted (section_of s h) (contains (tour_of s h budget).offsets)) _ _ []
        (λ t. not_of (BadData s budget) (λ f. false≢true (sym f ∙ t))) (of (BadData s budget)) refl (λ t. refl)

    separated : all_zero (separator_of s h.base) ≡ true → BadSeparator s r → ⊥
    separated t x = x.1.1 (sym (byte_at s (h.base - 16) x.0 x.1.0) ∙ zero_all (separator_of s h.base) t x.0)

    not_separated : all_zero (separator_of s h.base) ≡ false → BadSeparator s r
    not_separated t =
        let z = zero_some (separator_of s h.base) t in
        let l : z.0 < 16 = omega (arith, z.1.0, length-take 16 (lists.drop (h.base - 16) s)) in
        (z.0, (l, λ q. z.1.1 (byte_at s (h.base - 16) z.0 l ∙ q)))

    separator_first :
        First (drop 8 rows)
        (verify_verdict
        (cond (all_zero (separator_of s h.base))
        (cond (data_accepted (section_of s h) (contains (tour_of s h budget).offsets)) (Ok (distinct (tour_of s h budget).offsets)) (Err refusal.Malformed))
        (Err refusal.Separator)))
    separator_first =
        gate verify_verdict (all_zero (separator_of s h.base)) _ _ (drop 9 rows)
        (λ t. not_of (BadSeparator s) (separated t)) (λ t. of (BadSeparator s) (not_separated t)) refl (λ t. data_first)

    abbrev end : Recorded
    end = (tour_of s h budget).ended

    -- the walk ends as its rows say
    fails : (k : Refusal) → WalkFails s budget k r → end ≡ Err k
    unfolding tour_of
    fails k t = then_ends s h (3 * h.nodes) budget _ (outcome.Failed k) (Err k) refl t

    many : TooMany s budget r → end ≡ Err refusal.TooManyNetworks
    unfolding tour_of
    many t = many_ends s h (3 * h.nodes) budget _ t

    pauses : BudgetSpent s budget r → end ≡ Err refusal.Budget
    unfolding tour_of
    pauses t = then_ends s h (3 * h.nodes) budget _ outcome.Paused (Err refusal.Budget) refl t

    -- another end than this
    other : {k : Refusal} {x : Recorded} (P : Reader → Type 0) → (P r → end ≡ Err k) → end ≡ x → (x ≡ Err k → ⊥) → Opened s P → ⊥
    other P f q n = not_of P (λ p. n (sym q ∙ f p))

    not_11 : {x : Recorded} → end ≡ x → (x ≡ Err refusal.Record → ⊥) → Opened s (WalkFails s budget refusal.Record) → ⊥
    not_11 = other (WalkFails s budget refusal.Record) (fails refusal.Record)

    not_12 : {x : Recorded} → end ≡ x → (x ≡ Err refusal.TooDeep → ⊥) → Opened s (WalkFails s budget refusal.TooDeep) → ⊥
    not_12 = other (WalkFails s budget refusal.TooDeep) (fails refusal.TooDeep)

    not_19 : {x : Recorded} → end ≡ x → (x ≡ Err refusal.TooManyNetworks → ⊥) → Opened s (TooMany s budget) → ⊥
    not_19 = other (TooMany s budget) many

    not_21 : {x : Recorded} → end ≡ x → (x ≡ Err refusal.Budget → ⊥) → Opened s (BudgetSpent s budget) → ⊥
    not_21 = other (BudgetSpent s budget) pauses

    walk_first :
        {x : Recorded} (next : Verified) → First (drop 8 rows) (verify_verdict next) → Ended s h (3 * h.nodes) budget (begun s h) x → end ≡ x
        → First (drop 4 rows) (verify_verdict (walked x next))
    walk_first next f whole q = inr (not_11 q (λ e. cc), inr (not_12 q (λ e. cc), inr (not_19 q (λ e. cc), inr (not_21 q (λ e. cc), f))))
    walk_first next f (met_bad_record t) q = inl (of (WalkFails s budget refusal.Record) t, refl)
    walk_first next f (met_too_deep t) q = inr (not_11 q (λ e. cc), inl (of (WalkFails s budget refusal.TooDeep) t, refl))
    walk_first next f (too_many t) q =
        inr (not_11 q (λ e. cc), inr (not_12 q (λ e. cc), inl (of (TooMany s budget) t, refl)))
    walk_first next f (spent t) q =
        inr (
          not_11 q (λ e. cc),
          inr (not_12 q (λ e. cc), inr (not_19 q (λ e. cc), inl (of (BudgetSpent s budget) t, refl))),
        )

    fits : Fit h (length s)
    fits = fit h (length s) (open_fits s bytes e)

    verdict_first : First (drop 1 rows) (verify_verdict (verdict_of s r budget))
    unfolding verdict_of database_of
    verdict_first =
        gate verify_verdict (metadata_accepted (metadata_in s h)) _ _ (drop 2 rows)
        (λ t. not_of (BadMetadata s) (λ f. false≢true (sym f ∙ t))) (of (BadMetadata s)) refl
        (λ t. gate verify_verdict (leb 1 r.metadata.database.size) _ _ (drop 3 rows)
        (λ u. not_of NoType (λ z. let l = leb-true 1 r.metadata.database.size u in omega arith))
        (λ u. of NoType (let l = leb-false 1 r.metadata.database.size u in omega arith)) refl
        (λ u. gate verify_verdict (leb 1 r.metadata.description.size) _ _ (drop 4 rows)
        (λ v. not_of NoDescription (λ z. let l = leb-true 1 r.metadata.description.size v in omega arith))
        (λ v. of NoDescription (let l = leb-false 1 r.metadata.description.size v in omega arith)) refl
        (λ v. walk_first _ separator_first (tour_ended s h fits budget) refl)))

    -- the numbers of the verdict
    late : {n : ℕ} → First (drop 1 rows) (Refuses n) → (9 ≤ n) × (n ≤ 21)
    late (inl p) = between p.1 (omega arith) (omega arith)
    late (inr (_, inl p)) = between p.1 (omega arith) (omega arith)
    late (inr (_, inr (_, inl p))) = between p.1 (omega arith) (omega arith)
    late (inr (_, inr (_, inr (_, inl p)))) = between p.1 (omega arith) (omega arith)
    late (inr (_, inr (_, inr (_, inr (_, inl p))))) = between p.1 (omega arith) (omega arith)
    late (inr (_, inr (_, inr (_, inr (_, inr (_, inl p)))))) = between p.1 (omega arith) (omega arith)
    late (inr (_, inr (_, inr (_, inr (_, inr (_, inr (_, inl p))))))) = between p.1 (omega arith) (omega arith)
    late (inr (_, inr (_, inr (_, inr (_, inr (_, inr (_, inr (_, inl p)))))))) = between p.1 (omega arith) (omega arith)
    late (inr (_, inr (_, inr (_, inr (_, inr (_, inr (_, inr (_, inr (_, inl p))))))))) = between p.1 (omega arith) (omega arith)
    late (inr (_, inr (_, inr (_, inr (_, inr (_, inr (_, inr (_, inr (_, inr p))))))))) = absurd (refuses_not p.1)

    counted : (n : ℕ) → verdict_of s r budget ≡ Ok n → n ≡ distinct (tour_of s h budget).offsets
    unfolding verdict_of database_of
    counted n q =
        let a = chosen_first (metadata_accepted (metadata_in s h)) refused_not q in
        let b = chosen_first (leb 1 r.metadata.database.size) refused_not a.1 in
        let c = chosen_first (leb 1 r.metadata.description.size) refused_not b.1 in
        by (tour_of s h budget).ended c.1
      where
        by :
            (x : Recorded)
            → walked x
            (cond (all_zero (separator_of s h.base))
            (cond (data_accepted (section_of s h) (contains (tour_of s h budget).offsets)) (Ok (distinct (tour_of s h budget).offsets)) (Err refusal.Malformed))
            (Err refusal.Separator))
            ≡ Ok n
            → n ≡ distinct (tour_of s h budget).offsets
        by (Ok passed) f =
            let a = chosen_first (all_zero (separator_of s h.base)) refused_not f in
            let b = chosen_first (data_accepted (section_of s h) (contains (tour_of s h budget).offsets)) refused_not a.1 in
            let c = b.1 in
            cc
        by (Err k) f = absurd (refused_not f)

    -- an image that opens
    abbrev given : Bool → Out
    given t = cond t (out (verdict_of s r budget) (cleared (words_of s h) ws)) (out (Err refusal.Scratch) ws)

    scratch_first : First rows (verify_verdict (given (leb (words_of s h) (length ws))).answer)
    scratch_first =
        gate (λ (o : Out). verify_verdict o.answer) (leb (words_of s h) (length ws)) _ _ (drop 1 rows)
        (λ t. not_of (ScratchTooShort s ws) (λ l. let k = leb-true (words_of s h) (length ws) t in omega arith))
        (λ t. of (ScratchTooShort s ws) (leb-false (words_of s h) (length ws) t)) refl (λ t. verdict_first)

    offsets_given : (t : Bool) (n : ℕ) → (given t).answer ≡ Ok n → Opened s (λ r. n ≡ distinct (tour_of s r.handle budget).offsets)
    offsets_given true n q = of _ (counted n q)
    offsets_given false n q = absurd (refused_not q)

    untouched_given : (t : Bool) (e : Refusal) → (given t).answer ≡ Err e → Early (number_of e) → (given t).scratch ≡ ws
    untouched_given true n q x =
        let l = late (subst (First (drop 1 rows)) (ap verify_verdict q) verdict_first) in
        absurd (not_early l.0 l.1 x)
    untouched_given false n q x = refl

    zeroed_given :
        (t : Bool) → leb (words_of s h) (length ws) ≡ t → ((e : Refusal) → (given t).answer ≡ Err e → Early (number_of e) → ⊥)
        → Opened s (λ r. (words_of s r.handle ≤ length ws) × ((given t).scratch ≡ cleared (words_of s r.handle) ws))
    zeroed_given true q n = of _ (leb-true (words_of s h) (length ws) q, refl)
    zeroed_given false q n = absurd (n refusal.Scratch refl (inr (inr refl)))

  -- VERIFY
  pub verify : Verifies s ws budget (verify_of s ws budget)
  unfolding verify_of
  verify =
      record {
        verdict =
            exactly (verify_table s ws budget) _
            (then s rows (λ x. verify_verdict (verify_on s ws budget x).answer) (λ n. refl) (λ r e. scratch_first r e));
        offsets = offsets (open_of s) refl;
        untouched = untouched (open_of s) refl;
        zeroed = zeroed (open_of s) refl;
      }
    where
      offsets : (x : Result Reader Refusal) → open_of s ≡ x → (n : ℕ) → (verify_on s ws budget x).answer ≡ Ok n → Opened s (λ r. n ≡ distinct (tour_of s r.handle budget).offsets)
      offsets (Ok r) e = offsets_given r e (leb (words_of s r.handle) (length ws))
      offsets (Err k) e = λ n q. absurd (refused_not q)

      untouched : (x : Result Reader Refusal) → open_of s ≡ x → (n : Refusal) → (verify_on s ws budget x).answer ≡ Err n → Early (number_of n) → (verify_on s ws budget x).scratch ≡ ws
      untouched (Ok r) e = untouched_given r e (leb (words_of s r.handle) (length ws))
      untouched (Err k) e = λ n q x. refl

      zeroed :
          (x : Result Reader Refusal) → open_of s ≡ x → ((n : Refusal) → (verify_on s ws budget x).answer ≡ Err n → Early (number_of n) → ⊥)
          → Opened s (λ r. (words_of s r.handle ≤ length ws) × ((verify_on s ws budget x).scratch ≡ cleared (words_of s r.handle) ws))
      zeroed (Ok r) e = zeroed_given r e (leb (words_of s r.handle) (length ws)) refl
      zeroed (Err k) e = λ n. absurd (n k refl (early (is_refused s e)))

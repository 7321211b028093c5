-- An accepted section is sound, and every place that was recorded in the scratch is validated there.
use mathlib.Core.Path.{◌≡◌, refl, sym, ap, subst, ◌∙◌}
use mathlib.Core.Logic.{⊎_elim}
use mathlib.Core.List.{List}
use mathlib.Core.Bool.{Bool, true, false, cond}
use Prim.Native.Nat.{ℕ, zero, suc, ◌+◌, ◌<◌, ◌≤◌}
use native.Mathlib.Decide.{ℕ_discrete}
use native.Mathlib.Omega.{arith}
use lib.ListN.{length}
use Rattle.marks.specs.Marks.{free, recorded, validated, state_at}
use Rattle.std.specs.Prelude.{Option, Some, None}
use Rattle.graph.specs.Graph.{skipped, Res, res, verify_at, levels}
use Rattle.graph.specs.Sets.{Set, Sets, none, on_sets}
use Rattle.graph.specs.Words.{needed, on_words}
use Rattle.graph.specs.declared.Skipped.{Skipped}
use Rattle.sweep.specs.Sweep.{onward, sweep_at, allowance, data_at, metadata_at, accepts, start, data_accepted, metadata_accepted}
use Rattle.sweep.specs.Sound.{Sound}
use Rattle.sweep.proofs.SweepLaws.{sweep_passed, sweep_verified}
use Rattle.sweep.proofs.Sim.{is_or_not}
use Rattle.sweep.proofs.Walked.{same_place, never, verify_walked}
use Rattle.sweep.proofs.Kept.{Keeps, around_sets}
use Rattle.sweep.proofs.Fine.{AllGood, Fine, fine, Reached, reached}
use Rattle.sweep.proofs.Agree.{state_of, data_sim}

to_place : (r : Res Sets) → accepts r.answer ≡ true → (next : ℕ) × (w : ℕ) × (r ≡ res (Some (skipped next w)) r.sets)
to_place r e = go r.answer refl e
  where
    go : (a : Option Skipped) → r.answer ≡ a → accepts a ≡ true → (next : ℕ) × (w : ℕ) × (r ≡ res (Some (skipped next w)) r.sets)
    go (Some p) f g = (p.next, p.work, ap (λ (a : Option Skipped). res a r.sets) f)
    go None f g = absurd (let w : ⊥ = cc in w)

module _ (s : List ℕ) where
  -- a value that was verified
  verified : (t w q w' : ℕ) (x y : Sets) → verify_at on_sets s t w x ≡ res (Some (skipped q w')) y → Reached s levels t x y
  verified t w q w' x y e = reached s levels t x y (verify_walked on_sets s (Fine s) (fine s) t w q w' x y e)

  -- n places from t on
  record Swept (n t : ℕ) (x y : Sets) : Type 0 where
    pub keeps : Keeps x y
    pub has : (u : ℕ) → t ≤ u → u < t + n → x.recorded u ≡ true → y.validated u ≡ true
    pub sound : AllGood s x → AllGood s y

  passed : (n t : ℕ) (x y : Sets) → x.recorded t ≡ false → Swept n (t + 1) x y → Swept (suc n) t x y
  passed n t x y f r =
      record {
        keeps = r.keeps;
        has = λ u h k e. elim (ℕ_discrete u t) [
          | yes q ↦ absurd (let g : x.recorded t ≡ true = ap x.recorded (sym q) ∙ e in let z : ◌≡◌ {A = ℕ} 0 1 = cc in let w : ⊥ = omega arith in w)
          | no n ↦ r.has u (omega arith) (omega arith) e
        ];
        sound = r.sound;
      }

  turned : (n t : ℕ) (x z y : Sets) → Reached s levels t x z → Swept n (t + 1) z y → Swept (suc n) t x y
  turned n t x z y v r =
      record {
        keeps = around_sets.both x z y v.keeps r.keeps;
        has = λ u h k e. elim (ℕ_discrete u t) [
          | yes q ↦ ap y.validated q ∙ r.keeps.validated t v.there
          | no n ↦ r.has u (omega arith) (omega arith) (v.keeps.recorded u ∙ e)
        ];
        sound = λ a. r.sound (v.sound (omega arith) a);
      }

  onwards : (n t w next w' : ℕ) (x y : Sets) → ((w₁ : ℕ) (z : Sets) → sweep_at on_sets (verify_at on_sets s) n (t + 1) w₁ z ≡ res (Some (skipped next w')) y → Swept n (t + 1) z y)
      → (a : Option Skipped) (z : Sets) → verify_at on_sets s t w x ≡ res a z → onward (sweep_at on_sets (verify_at on_sets s) n (t + 1)) a z ≡ res (Some (skipped next w')) y → Swept (suc n) t x y
  unfolding onward
  onwards n t w next w' x y rest (Some p) z e f = turned n t x z y (verified t w p.next p.work x z e) (rest p.work z f)
  onwards n t w next w' x y rest None z e f = never f

  turn : (n t w next w' : ℕ) (x y : Sets) → ((w₁ : ℕ) (z : Sets) → sweep_at on_sets (verify_at on_sets s) n (t + 1) w₁ z ≡ res (Some (skipped next w')) y → Swept n (t + 1) z y)
      → sweep_at on_sets (verify_at on_sets s) (suc n) t w x ≡ res (Some (skipped next w')) y → Swept (suc n) t x y
  turn n t w next w' x y rest e =
      ⊎_elim
      (λ g. onwards n t w next w' x y rest _ _ refl (sym (sweep_verified on_sets (verify_at on_sets s) n t w x g) ∙ e))
      (λ g. passed n t x y g (rest w x (sym (sweep_passed on_sets (verify_at on_sets s) n t w x g) ∙ e)))
      (is_or_not (x.recorded t))

  swept : (n t w next w' : ℕ) (x y : Sets) → sweep_at on_sets (verify_at on_sets s) n t w x ≡ res (Some (skipped next w')) y → Swept n t x y
  unfolding sweep_at
  swept zero t w next w' x y e =
      subst (λ (z : Sets). Swept zero t x z) (same_place e).1
      (record { keeps = around_sets.still x; has = λ u h k e. absurd (let w : ⊥ = omega arith in w); sound = λ a. a })
  swept (suc n) t w next w' x y e = turn n t w next w' x y (λ w₁ z f. swept n (t + 1) w₁ next w' z y f) e

  nothing_yet : (set : Set) → AllGood s (start set)
  nothing_yet set u e = absurd (let z : ◌≡◌ {A = ℕ} 0 1 = cc in let w : ⊥ = omega arith in w)

  data_swept : (set : Set) → data_accepted s set ≡ true → Swept (length s) 0 (start set) (data_at on_sets s (start set)).sets
  unfolding data_accepted
  data_swept set e =
      let r = to_place (data_at on_sets s (start set)) e in
      swept (length s) 0 (allowance s) r.0 r.1 (start set) (data_at on_sets s (start set)).sets r.2

  -- AN ACCEPTED DATA SECTION IS SOUND
  pub data_sound : (set : Set) → data_accepted s set ≡ true → Sound s set
  data_sound set e =
      let r = data_swept set e in
      record {
        good = (data_at on_sets s (start set)).sets.validated;
        has = λ t h f. r.has t (omega arith) (omega arith) f;
        value = r.sound (nothing_yet set);
      }

  -- and so is accepted metadata, with its first place
  pub metadata_sound : metadata_accepted s ≡ true → (recorded : Set) × (recorded 0 ≡ true) × Sound s recorded
  unfolding metadata_accepted
  metadata_sound e =
      let r = to_place (metadata_at on_sets s (start none)) e in
      let v = verified 0 (allowance s) r.0 r.1 (start none) (metadata_at on_sets s (start none)).sets r.2 in
      let good : Set = (metadata_at on_sets s (start none)).sets.validated in
      (good, v.there, record { good = good; has = λ t h f. f; value = v.sound (omega arith) (nothing_yet none) })

  -- AFTER AN ACCEPTED SWEEP of the scratch every place that was recorded is validated
  pub all_validated : (set : Set) (ws : List ℕ) → needed (length s) ≤ length ws → ((t : ℕ) → t < length s → state_at ws t ≡ cond (set t) recorded free)
      → accepts (data_at on_words s ws).answer ≡ true → (t : ℕ) → t < length s → set t ≡ true → state_at (data_at on_words s ws).sets t ≡ validated
  all_validated set ws long states e t h f =
      let sim = data_sim s set ws long states in
      let g : accepts (data_at on_sets s (start set)).answer ≡ true = ap accepts (sym sim.same) ∙ e in
      let r = to_place (data_at on_sets s (start set)) g in
      let a : (data_at on_sets s (start set)).answer ≡ Some (skipped r.0 r.1) = ap (λ (k : Res Sets). k.answer) r.2 in
      let k = swept (length s) 0 (allowance s) r.0 r.1 (start set) (data_at on_sets s (start set)).sets r.2 in
      let v : (data_at on_sets s (start set)).sets.validated t ≡ true = k.has t (omega arith) (omega arith) f in
      (sim.holds (skipped r.0 r.1) a).stands.states t h
      ∙ ap (λ (b : Bool). state_of b ((data_at on_sets s (start set)).sets.active t) ((data_at on_sets s (start set)).sets.recorded t)) v

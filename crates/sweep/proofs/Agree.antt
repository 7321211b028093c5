-- The scratch and the crate's sets give the same answers.
use mathlib.Core.Path.{◌≡◌, refl, sym, ap, subst, ◌∙◌}
use mathlib.Core.Logic.{⊎_elim}
use mathlib.Core.List.{List, ◌++◌}
use mathlib.Core.Bool.{Bool, true, false, cond}
use Prim.Native.Nat.{ℕ, zero, suc, ◌+◌, ◌*◌, ◌/◌, ◌<◌, ◌≤◌}
use native.Mathlib.Decide.{ℕ_discrete}
use native.Mathlib.Omega.{arith}
use lib.Dec.{eqb}
use lib.ListN.{length, replicate, length-append, length-replicate}
use Rattle.marks.specs.Marks.{free, recorded, active, validated, state_at, set_state, record_each, contains, Below}
use Rattle.marks.proofs.MarkLaws.{length_state, state_same, state_other, length_each, state_each, state_cleared}
use Rattle.std.specs.Prelude.{Option, Some, None}
use Rattle.graph.specs.Graph.{skipped, Res, res, verify_at, skip_at, levels}
use Rattle.graph.specs.Sets.{Set, none, insert, remove, Sets, on_sets}
use Rattle.graph.specs.Words.{needed, on_words}
use Rattle.graph.specs.declared.Skipped.{Skipped}
use Rattle.graph.proofs.WalkLaws.{target_validated}
use Rattle.sweep.specs.Sweep.{onward, sweep_at, allowance, data_at, metadata_at, accepts, start, data_accepted, metadata_accepted}
use Rattle.sweep.proofs.SweepLaws.{sweep_passed, sweep_verified}
use Rattle.sweep.proofs.Sim.{is_or_not, Alike, Sim, refused_sim, to_sim, then_sim, verify_sim}
use Rattle.sweep.proofs.Kept.{inserted, insert_other, remove_other, Keeps, around_sets, verify_keeps}

-- the state that three sets give a place
abbrev pub state_of : Bool → Bool → Bool → ℕ
state_of v a r = cond v validated (cond a active (cond r recorded free))

-- the words stand for the three sets
pub record Stands (len : ℕ) (ws : List ℕ) (x : Sets) : Type 0 where
  pub long : needed len ≤ length ws
  pub states : (t : ℕ) → t < len → state_at ws t ≡ state_of (x.validated t) (x.active t) (x.recorded t)

told_validated : (v a r : Bool) → eqb (state_of v a r) validated ≡ v
told_validated true a r = refl
told_validated false true r = refl
told_validated false false true = refl
told_validated false false false = refl

told_active : (a r : Bool) → eqb (state_of false a r) active ≡ a
told_active true r = refl
told_active false true = refl
told_active false false = refl

told_recorded : (v r : Bool) → eqb (state_of v false r) recorded ≡ cond v false r
told_recorded true r = refl
told_recorded false true = refl
told_recorded false false = refl

module _ (len : ℕ) where
  room : (ws : List ℕ) (t : ℕ) → needed len ≤ length ws → t < len → t / 64 * 2 + 1 < length ws
  room ws t n h = omega arith

  entered : (ws : List ℕ) (x : Sets) (t : ℕ) → Stands len ws x → t < len → x.validated t ≡ false
      → Stands len (set_state ws t active) (on_sets.activate x t)
  entered ws x t r h v =
      let l = room ws t r.long h in
      record {
        long = omega (arith, r.long, length_state ws t active);
        states = λ u k. elim (ℕ_discrete u t) [
          | yes e ↦ subst (λ (j : ℕ). state_at (set_state ws t active) j ≡ state_of (x.validated j) (insert t x.active j) (x.recorded j)) (sym e)
              (state_same ws t active l (omega arith) ∙ sym (simp (v, inserted t x.active)))
          | no n ↦
              state_other ws t active l (omega arith) u n ∙ r.states u k
              ∙ ap (λ (b : Bool). state_of (x.validated u) b (x.recorded u)) (sym (insert_other t u x.active n))
        ];
      }

  left : (ws : List ℕ) (x : Sets) (t : ℕ) → Stands len ws x → t < len → Stands len (set_state ws t validated) (on_sets.validate x t)
  left ws x t r h =
      let l = room ws t r.long h in
      record {
        long = omega (arith, r.long, length_state ws t validated);
        states = λ u k. elim (ℕ_discrete u t) [
          | yes e ↦ subst (λ (j : ℕ). state_at (set_state ws t validated) j ≡ state_of (insert t x.validated j) (remove t x.active j) (x.recorded j)) (sym e)
              (state_same ws t validated l (omega arith) ∙ sym (simp (inserted t x.validated)))
          | no n ↦
              state_other ws t validated l (omega arith) u n ∙ r.states u k
              ∙ sym (simp (insert_other t u x.validated n, remove_other t u x.active n))
        ];
      }

  alike : Alike on_words on_sets len (Stands len)
  alike =
      record {
        validated = λ ws x t r h. ap (λ (k : ℕ). eqb k validated) (r.states t h) ∙ told_validated (x.validated t) (x.active t) (x.recorded t);
        active = λ ws x t r h v.
            ap (λ (k : ℕ). eqb k active) (r.states t h ∙ ap (λ (b : Bool). state_of b (x.active t) (x.recorded t)) v)
            ∙ told_active (x.active t) (x.recorded t);
        entered = entered;
        left = left;
      }

-- between the values that the tree leads to, nothing is active
pub record Idle (len : ℕ) (ws : List ℕ) (x : Sets) : Type 0 where
  pub stands : Stands len ws x
  pub idle : (t : ℕ) → x.active t ≡ false

module _ (s : List ℕ) where
  abbrev R : List ℕ → Sets → Type 0
  R = Idle (length s)

  verified_sim : (t w : ℕ) (ws : List ℕ) (x : Sets) → R ws x → Sim R (verify_at on_words s t w ws) (verify_at on_sets s t w x)
  verified_sim t w ws x r =
      let h = verify_sim on_words on_sets s (Stands (length s)) (alike (length s)) t w ws x r.stands in
      record {
        same = h.same;
        holds = λ p e. record {
          stands = h.holds p e;
          idle = λ u. (verify_keeps on_sets s Keeps around_sets t w p.next p.work x _ (ap (λ (a : Option Skipped). res a (verify_at on_sets s t w x).sets) e)).active u ∙ r.idle u;
        };
      }

  onward_sim : (f : ℕ → List ℕ → Res (List ℕ)) (g : ℕ → Sets → Res Sets) → ((w : ℕ) (ws : List ℕ) (x : Sets) → R ws x → Sim R (f w ws) (g w x))
      → (a : Option Skipped) (ws : List ℕ) (x : Sets) → ((p : Skipped) → a ≡ Some p → R ws x) → Sim R (onward f a ws) (onward g a x)
  unfolding onward
  onward_sim f g each (Some p) ws x r = each p.work ws x (r p refl)
  onward_sim f g each None ws x r = refused_sim R ws x

  -- a place that is validated already
  seen : (n t w : ℕ) (x : Sets) → t < length s → x.validated t ≡ true
      → sweep_at on_sets (verify_at on_sets s) (suc n) t w x ≡ sweep_at on_sets (verify_at on_sets s) n (t + 1) w x
  unfolding onward
  seen n t w x h v =
      ⊎_elim
      (λ e. sweep_verified on_sets (verify_at on_sets s) n t w x e
      ∙ ap (λ (r : Res Sets). onward (sweep_at on_sets (verify_at on_sets s) n (t + 1)) r.answer r.sets) (sym (target_validated on_sets (skip_at on_sets levels s) (length s) t w x h v)))
      (λ e. sweep_passed on_sets (verify_at on_sets s) n t w x e)
      (is_or_not (x.recorded t))

  turn_sim : (n t w : ℕ) (ws : List ℕ) (x : Sets) → t < length s → R ws x
      → ((w' : ℕ) (ws' : List ℕ) (x' : Sets) → R ws' x' → Sim R (sweep_at on_words (verify_at on_words s) n (t + 1) w' ws') (sweep_at on_sets (verify_at on_sets s) n (t + 1) w' x'))
      → Sim R (sweep_at on_words (verify_at on_words s) (suc n) t w ws) (sweep_at on_sets (verify_at on_sets s) (suc n) t w x)
  turn_sim n t w ws x h r rest =
      let e : eqb (state_at ws t) recorded ≡ cond (x.validated t) false (x.recorded t) =
      ap (λ (k : ℕ). eqb k recorded) (r.stands.states t h ∙ ap (λ (a : Bool). state_of (x.validated t) a (x.recorded t)) (r.idle t))
      ∙ told_recorded (x.validated t) (x.recorded t) in
      ⊎_elim
      (λ v. rw (sweep_passed on_words (verify_at on_words s) n t w ws (e ∙ ap (λ (b : Bool). cond b false (x.recorded t)) v), seen n t w x h v) (rest w ws x r))
      (λ v.
      let f : eqb (state_at ws t) recorded ≡ x.recorded t = e ∙ ap (λ (b : Bool). cond b false (x.recorded t)) v in
      ⊎_elim
      (λ g. rw (sweep_verified on_words (verify_at on_words s) n t w ws (f ∙ g), sweep_verified on_sets (verify_at on_sets s) n t w x g)
      (then_sim R (onward (sweep_at on_words (verify_at on_words s) n (t + 1))) (onward (sweep_at on_sets (verify_at on_sets s) n (t + 1)))
      (onward_sim _ _ rest) _ _ (verified_sim t w ws x r)))
      (λ g. rw (sweep_passed on_words (verify_at on_words s) n t w ws (f ∙ g), sweep_passed on_sets (verify_at on_sets s) n t w x g) (rest w ws x r))
      (is_or_not (x.recorded t)))
      (is_or_not (x.validated t))

  sweep_sim : (n t w : ℕ) (ws : List ℕ) (x : Sets) → t + n ≡ length s → R ws x
      → Sim R (sweep_at on_words (verify_at on_words s) n t w ws) (sweep_at on_sets (verify_at on_sets s) n t w x)
  unfolding sweep_at
  sweep_sim zero t w ws x h r = to_sim R (skipped t w) ws x r
  sweep_sim (suc n) t w ws x h r = turn_sim n t w ws x (omega arith) r (λ w' ws' x' r'. sweep_sim n (t + 1) w' ws' x' (omega arith) r')

  module _ (set : Set) (ws : List ℕ) (long : needed (length s) ≤ length ws)
      (states : (t : ℕ) → t < length s → state_at ws t ≡ cond (set t) recorded free) where
    begins : R ws (start set)
    begins = record { stands = record { long = long; states = states }; idle = λ t. refl }

    pub data_sim : Sim R (data_at on_words s ws) (data_at on_sets s (start set))
    data_sim = sweep_sim (length s) 0 (allowance s) ws (start set) (omega arith) begins

    pub metadata_sim : Sim R (metadata_at on_words s ws) (metadata_at on_sets s (start set))
    metadata_sim = verified_sim 0 (allowance s) ws (start set) begins

    -- the answer, and the work that is left, hang on the section and the recorded places alone
    pub data_answers : (data_at on_words s ws).answer ≡ (data_at on_sets s (start set)).answer
    data_answers = data_sim.same

    -- THE VERDICT over the scratch is that over the crate's sets, whatever else the scratch holds
    pub data_agrees : accepts (data_at on_words s ws).answer ≡ data_accepted s set
    unfolding data_accepted
    data_agrees = ap accepts data_sim.same

  pub metadata_agrees : (ws : List ℕ) → needed (length s) ≤ length ws → ((t : ℕ) → t < length s → state_at ws t ≡ free)
      → accepts (metadata_at on_words s ws).answer ≡ metadata_accepted s
  unfolding metadata_accepted
  metadata_agrees ws long blank = ap accepts (metadata_sim none ws long blank).same

-- A scratch that was cleared, and in which a list of places was recorded, whatever lies behind the words needed
module _ (s : List ℕ) (n : ℕ) (rest : List ℕ) (enough : needed (length s) ≤ n) where
  abbrev cleared : List ℕ
  cleared = replicate n 0 ++ rest

  long : n ≤ length cleared
  long = simp (length-append, length-replicate) (omega arith)

  blank : (t : ℕ) → t < length s → state_at cleared t ≡ free
  blank t h = state_cleared n rest t (omega arith)

  pub data_verdict : (places : List ℕ) → Below (length s) places → accepts (data_at on_words s (record_each cleared places)).answer ≡ data_accepted s (contains places)
  data_verdict places below =
      let l = long in
      data_agrees s (contains places) (record_each cleared places) (omega (arith, length_each cleared places))
      (λ t h. state_each cleared places (length s) t (omega arith) below ∙ ap (cond (contains places t) recorded) (blank t h))

  pub metadata_verdict : accepts (metadata_at on_words s cleared).answer ≡ metadata_accepted s
  metadata_verdict = let l = long in metadata_agrees s cleared (omega arith) blank

-- Accepted or refused, a walk leaves the words behind those needed as they were.
use mathlib.Core.Path.{◌≡◌, refl, ◌∙◌}
use mathlib.Core.Logic.{⊎_elim}
use mathlib.Core.List.{List}
use mathlib.Core.Bool.{Bool, true, false}
use Prim.Native.Nat.{ℕ, zero, suc, ◌+◌, ◌<◌}
use native.Mathlib.Omega.{arith}
use lib.ListN.{length, drop}
use Rattle.marks.specs.Marks.{active, validated, set_state}
use Rattle.marks.proofs.MarkLaws.{drop_state}
use Rattle.std.specs.Prelude.{Option, Some, None}
use Rattle.graph.specs.Visit.{visit_at}
use Rattle.graph.specs.Graph.{skipped, Marks, Res, res, Walk, leave, target_at, many_at, past, on_visit, skip_at, verify_at, levels}
use Rattle.graph.specs.Words.{needed, on_words}
use Rattle.graph.specs.declared.Visit.{Visit}
use Rattle.graph.specs.declared.Visit.TheVariants as visit
use Rattle.graph.specs.declared.Skipped.{Skipped}
use Rattle.graph.proofs.WalkLaws.{target_outside, target_validated, target_cycle, target_fresh}
use Rattle.sweep.specs.Sweep.{onward, sweep_at, allowance, data_at, metadata_at}
use Rattle.sweep.proofs.SweepLaws.{sweep_passed, sweep_verified}
use Rattle.sweep.proofs.Sim.{lt_or_le, is_or_not}

-- what holds before a walk and is kept by each change of a place below len holds after it
module _ {S : Type 0} (m : Marks S) (len : ℕ) (P : S → Type 0) (entered : (x : S) (t : ℕ) → t < len → P x → P (m.activate x t))
    (left : (x : S) (t : ℕ) → t < len → P x → P (m.validate x t)) where
  abbrev Keeping : Walk S → Type 0
  Keeping walk = (p w : ℕ) (x : S) → P x → P (walk p w x).sets

  leave_keeps : (t : ℕ) → t < len → (a : Option Skipped) (x : S) → P x → P (leave m t a x).sets
  unfolding leave
  leave_keeps t h (Some p) x k = left x t h k
  leave_keeps t h None x k = k

  module _ (walk : Walk S) (ih : Keeping walk) where
    target_keeps : Keeping (target_at m walk len)
    target_keeps t w x k =
        ⊎_elim
        (λ h.
        ⊎_elim
        (λ v. rw (← target_validated m walk len t w x h v) k)
        (λ v.
        ⊎_elim
        (λ a. rw (← target_cycle m walk len t w x h v a) k)
        (λ a. rw (← target_fresh m walk len t w x h v a _ _ refl) (leave_keeps t h _ _ (ih t w _ (entered x t h k))))
        (is_or_not (m.is_active x t)))
        (is_or_not (m.is_validated x t)))
        (λ h. rw (← target_outside m walk len t w x h) k)
        (lt_or_le t len)

    many_keeps : (n : ℕ) (a : Option Skipped) (x : S) → P x → P (many_at walk n a x).sets
    unfolding many_at
    many_keeps zero a x k = k
    many_keeps (suc n) (Some p) x k = many_keeps n _ _ (ih p.next p.work x k)
    many_keeps (suc n) None x k = k

    past_keeps : (next : ℕ) (a : Option Skipped) (x : S) → P x → P (past next a x).sets
    unfolding past
    past_keeps next (Some p) x k = k
    past_keeps next None x k = k

    visit_keeps : (deeper : Bool) (v : Option Visit) (x : S) → P x → P (on_visit m deeper walk len v x).sets
    unfolding on_visit
    visit_keeps deeper (Some (visit.Leaf next w)) x k = k
    visit_keeps true (Some (visit.Children n first w)) x k = many_keeps n (Some (skipped first w)) x k
    visit_keeps false (Some (visit.Children n first w)) x k = k
    visit_keeps true (Some (visit.Pointer t next w)) x k = past_keeps next (target_at m walk len t w x).answer (target_at m walk len t w x).sets (target_keeps t w x k)
    visit_keeps false (Some (visit.Pointer t next w)) x k = k
    visit_keeps deeper None x k = k

module _ {S : Type 0} (m : Marks S) (s : List ℕ) (P : S → Type 0) (entered : (x : S) (t : ℕ) → t < length s → P x → P (m.activate x t))
    (left : (x : S) (t : ℕ) → t < length s → P x → P (m.validate x t)) where
  skip_keeps : (l p w : ℕ) (x : S) → P x → P (skip_at m l s p w x).sets
  unfolding skip_at
  skip_keeps zero p w x k = visit_keeps m (length s) P entered left (λ _ _ y. res None y) (λ _ _ y j. j) false (visit_at s p w) x k
  skip_keeps (suc l) p w x k = visit_keeps m (length s) P entered left (skip_at m l s) (skip_keeps l) true (visit_at s p w) x k

  verify_keeps : (t w : ℕ) (x : S) → P x → P (verify_at m s t w x).sets
  verify_keeps t w x k = target_keeps m (length s) P entered left (skip_at m levels s) (skip_keeps levels) t w x k

  onward_keeps : (rest : ℕ → S → Res S) → ((w : ℕ) (x : S) → P x → P (rest w x).sets) → (a : Option Skipped) (x : S) → P x → P (onward rest a x).sets
  unfolding onward
  onward_keeps rest each (Some p) x k = each p.work x k
  onward_keeps rest each None x k = k

  turn_keeps : (n t w : ℕ) (x : S) → P x → ((w' : ℕ) (y : S) → P y → P (sweep_at m (verify_at m s) n (t + 1) w' y).sets) → P (sweep_at m (verify_at m s) (suc n) t w x).sets
  turn_keeps n t w x k rest =
      ⊎_elim
      (λ e. rw (sweep_verified m (verify_at m s) n t w x e) (onward_keeps (sweep_at m (verify_at m s) n (t + 1)) rest _ _ (verify_keeps t w x k)))
      (λ e. rw (sweep_passed m (verify_at m s) n t w x e) (rest w x k))
      (is_or_not (m.is_recorded x t))

  sweep_keeps : (n t w : ℕ) (x : S) → P x → P (sweep_at m (verify_at m s) n t w x).sets
  unfolding sweep_at
  sweep_keeps zero t w x k = k
  sweep_keeps (suc n) t w x k = turn_keeps n t w x k (λ w' y j. sweep_keeps n (t + 1) w' y j)

module _ (s ws : List ℕ) where
  abbrev Behind : List ℕ → Type 0
  Behind vs = drop (needed (length s)) vs ≡ drop (needed (length s)) ws

  kept : (state : ℕ) (vs : List ℕ) (t : ℕ) → t < length s → Behind vs → Behind (set_state vs t state)
  kept state vs t h e = drop_state (needed (length s)) vs t state (omega arith) ∙ e

  -- THE REST OF THE SCRATCH IS UNTOUCHED
  pub data_untouched : Behind (data_at on_words s ws).sets
  data_untouched = sweep_keeps on_words s Behind (kept active) (kept validated) (length s) 0 (allowance s) ws refl

  pub metadata_untouched : Behind (metadata_at on_words s ws).sets
  metadata_untouched = verify_keeps on_words s Behind (kept active) (kept validated) 0 (allowance s) ws refl

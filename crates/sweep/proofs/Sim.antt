-- Two ways to keep the three sets that answer alike give the same walk.
use mathlib.Core.Path.{◌≡◌, refl, sym, subst, ◌∙◌}
use mathlib.Core.Logic.{⊎_elim, ◌⊎◌, inl, inr}
use mathlib.Core.List.{List}
use mathlib.Core.Bool.{Bool, true, false}
use Prim.Native.Nat.{ℕ, zero, suc, ◌<◌, ◌≤◌}
use native.Mathlib.Decide.{dec_lt}
use native.Mathlib.Omega.{arith}
use lib.ListN.{length}
use Rattle.std.specs.Prelude.{Option, Some, None}
use Rattle.graph.specs.Visit.{visit_at}
use Rattle.graph.specs.Graph.{skipped, Marks, Res, res, Walk, leave, target_at, many_at, past, on_visit, skip_at, verify_at, levels}
use Rattle.graph.specs.declared.Visit.{Visit}
use Rattle.graph.specs.declared.Visit.TheVariants as visit
use Rattle.graph.specs.declared.Skipped.{Skipped}
use Rattle.graph.proofs.WalkLaws.{target_outside, target_validated, target_cycle, target_fresh}

pub lt_or_le : (a b : ℕ) → (a < b) ⊎ (b ≤ a)
lt_or_le a b = elim (dec_lt a b) [ yes h ↦ inl h | no n ↦ inr (omega arith) ]

pub is_or_not : (b : Bool) → (b ≡ true) ⊎ (b ≡ false)
is_or_not true = inl refl
is_or_not false = inr refl

pub no_place : {A : Type 0} {p : Skipped} → None ≡ Some p → A
no_place e = let w : ⊥ = cc in absurd w

-- places below len are told alike, and stay so
pub record Alike {S U : Type 0} (m : Marks S) (n : Marks U) (len : ℕ) (R : S → U → Type 0) : Type 0 where
  pub validated : (x : S) (y : U) (t : ℕ) → R x y → t < len → m.is_validated x t ≡ n.is_validated y t
  pub active : (x : S) (y : U) (t : ℕ) → R x y → t < len → n.is_validated y t ≡ false → m.is_active x t ≡ n.is_active y t
  pub entered : (x : S) (y : U) (t : ℕ) → R x y → t < len → n.is_validated y t ≡ false → R (m.activate x t) (n.activate y t)
  pub left : (x : S) (y : U) (t : ℕ) → R x y → t < len → R (m.validate x t) (n.validate y t)

-- the same answer, and where it is a place, sets that are alike
pub record Sim {S U : Type 0} (R : S → U → Type 0) (r : Res S) (q : Res U) : Type 0 where
  pub same : r.answer ≡ q.answer
  pub holds : (p : Skipped) → q.answer ≡ Some p → R r.sets q.sets

module _ {S U : Type 0} (R : S → U → Type 0) where
  pub refused_sim : (x : S) (y : U) → Sim R (res None x) (res None y)
  refused_sim x y = record { same = refl; holds = λ p e. no_place e }

  pub to_sim : (p : Skipped) (x : S) (y : U) → R x y → Sim R (res (Some p) x) (res (Some p) y)
  to_sim p x y r = record { same = refl; holds = λ _ _. r }

  -- what follows, done on both sides
  pub then_sim : (f : Option Skipped → S → Res S) (g : Option Skipped → U → Res U)
      → ((a : Option Skipped) (x : S) (y : U) → ((p : Skipped) → a ≡ Some p → R x y) → Sim R (f a x) (g a y))
      → (r : Res S) (q : Res U) → Sim R r q → Sim R (f r.answer r.sets) (g q.answer q.sets)
  then_sim f g each r q h =
      subst (λ (a : Option Skipped). Sim R (f a r.sets) (g q.answer q.sets)) (sym h.same) (each q.answer r.sets q.sets h.holds)

module _ {S U : Type 0} (m : Marks S) (n : Marks U) (len : ℕ) (R : S → U → Type 0) (alike : Alike m n len R) where
  abbrev Same : Walk S → Walk U → Type 0
  Same walk walk' = (p w : ℕ) (x : S) (y : U) → R x y → Sim R (walk p w x) (walk' p w y)

  leave_sim : (t : ℕ) → t < len → (a : Option Skipped) (x : S) (y : U) → ((p : Skipped) → a ≡ Some p → R x y) → Sim R (leave m t a x) (leave n t a y)
  unfolding leave
  leave_sim t h (Some p) x y r = to_sim R p _ _ (alike.left x y t (r p refl) h)
  leave_sim t h None x y r = refused_sim R x y

  module _ (walk : Walk S) (walk' : Walk U) (ih : Same walk walk') where
    pub target_sim : (t w : ℕ) (x : S) (y : U) → R x y → Sim R (target_at m walk len t w x) (target_at n walk' len t w y)
    target_sim t w x y r =
        ⊎_elim
        (λ h.
        let v : m.is_validated x t ≡ n.is_validated y t = alike.validated x y t r h in
        ⊎_elim
        (λ v₁. rw (← target_validated m walk len t w x h (v ∙ v₁), ← target_validated n walk' len t w y h v₁) (to_sim R (skipped t w) x y r))
        (λ v₀.
        let a : m.is_active x t ≡ n.is_active y t = alike.active x y t r h v₀ in
        ⊎_elim
        (λ a₁. rw (← target_cycle m walk len t w x h (v ∙ v₀) (a ∙ a₁), ← target_cycle n walk' len t w y h v₀ a₁) (refused_sim R x y))
        (λ a₀.
        rw (← target_fresh m walk len t w x h (v ∙ v₀) (a ∙ a₀) _ _ refl, ← target_fresh n walk' len t w y h v₀ a₀ _ _ refl)
        (then_sim R (leave m t) (leave n t) (leave_sim t h) _ _ (ih t w _ _ (alike.entered x y t r h v₀))))
        (is_or_not (n.is_active y t)))
        (is_or_not (n.is_validated y t)))
        (λ h. rw (← target_outside m walk len t w x h, ← target_outside n walk' len t w y h) (refused_sim R x y))
        (lt_or_le t len)

    many_sim : (k : ℕ) (a : Option Skipped) (x : S) (y : U) → ((p : Skipped) → a ≡ Some p → R x y) → Sim R (many_at walk k a x) (many_at walk' k a y)
    unfolding many_at
    many_sim zero (Some p) x y r = to_sim R p x y (r p refl)
    many_sim zero None x y r = refused_sim R x y
    many_sim (suc k) (Some p) x y r = then_sim R (many_at walk k) (many_at walk' k) (many_sim k) _ _ (ih p.next p.work x y (r p refl))
    many_sim (suc k) None x y r = refused_sim R x y

    past_sim : (next : ℕ) (a : Option Skipped) (x : S) (y : U) → ((p : Skipped) → a ≡ Some p → R x y) → Sim R (past next a x) (past next a y)
    unfolding past
    past_sim next (Some p) x y r = to_sim R (skipped next p.work) x y (r p refl)
    past_sim next None x y r = refused_sim R x y

    visit_sim : (deeper : Bool) (v : Option Visit) (x : S) (y : U) → R x y → Sim R (on_visit m deeper walk len v x) (on_visit n deeper walk' len v y)
    unfolding on_visit
    visit_sim deeper (Some (visit.Leaf next w)) x y r = to_sim R (skipped next w) x y r
    visit_sim true (Some (visit.Children k first w)) x y r = many_sim k (Some (skipped first w)) x y (λ _ _. r)
    visit_sim false (Some (visit.Children k first w)) x y r = refused_sim R x y
    visit_sim true (Some (visit.Pointer t next w)) x y r = then_sim R (past next) (past next) (past_sim next) _ _ (target_sim t w x y r)
    visit_sim false (Some (visit.Pointer t next w)) x y r = refused_sim R x y
    visit_sim deeper None x y r = refused_sim R x y

module _ {S U : Type 0} (m : Marks S) (n : Marks U) (s : List ℕ) (R : S → U → Type 0) (alike : Alike m n (length s) R) where
  skip_sim : (l p w : ℕ) (x : S) (y : U) → R x y → Sim R (skip_at m l s p w x) (skip_at n l s p w y)
  unfolding skip_at
  skip_sim zero p w x y r =
      visit_sim m n (length s) R alike (λ _ _ z. res None z) (λ _ _ z. res None z) (λ _ _ a b _. refused_sim R a b) false (visit_at s p w) x y r
  skip_sim (suc l) p w x y r = visit_sim m n (length s) R alike (skip_at m l s) (skip_at n l s) (skip_sim l) true (visit_at s p w) x y r

  -- the walks agree
  pub verify_sim : (t w : ℕ) (x : S) (y : U) → R x y → Sim R (verify_at m s t w x) (verify_at n s t w y)
  verify_sim t w x y r = target_sim m n (length s) R alike (skip_at m levels s) (skip_at n levels s) (skip_sim levels) t w x y r

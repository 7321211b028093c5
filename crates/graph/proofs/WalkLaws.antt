-- Laws of the walk, one for each way out of it, over any three sets.
use mathlib.Core.Path.{◌≡◌, refl, sym, ap, ◌∙◌}
use mathlib.Core.List.{List}
use mathlib.Core.Bool.{Bool, true, false}
use Prim.Native.Nat.{ℕ, zero, suc, ◌+◌, ◌-◌, ◌<◌, ◌≤◌}
use native.Mathlib.Omega.{arith}
use borrow.Author.Tests.{le-leb, lt-leb}
use lib.ListN.{length}
use Rattle.std.specs.Prelude.{Option, Some, None}
use Rattle.graph.specs.Visit.{visit_at}
use Rattle.graph.specs.Graph.{Marks, Res, res, Walk, skipped, leave, target_at, many_at, past, on_visit, skip_at}
use Rattle.graph.specs.declared.Visit.{Visit}
use Rattle.graph.specs.declared.Visit.TheVariants as visit
use Rattle.graph.specs.declared.Skipped.{Skipped}

-- ---- a target

module _ {S : Type 0} (m : Marks S) (walk : Walk S) (len t work : ℕ) (x : S) where
  pub target_outside : len ≤ t → res None x ≡ target_at m walk len t work x
  unfolding target_at
  target_outside h = simp (le-leb len t h)

  pub target_validated : t < len → m.is_validated x t ≡ true → res (Some (skipped t work)) x ≡ target_at m walk len t work x
  unfolding target_at
  target_validated h v = simp (lt-leb len t h, v)

  pub target_cycle : t < len → m.is_validated x t ≡ false → m.is_active x t ≡ true → res None x ≡ target_at m walk len t work x
  unfolding target_at
  target_cycle h v a = simp (lt-leb len t h, v, a)

  module _ (h : t < len) (v : m.is_validated x t ≡ false) (a : m.is_active x t ≡ false) where
    pub target_fresh : (r : Option Skipped) (y : S) → res r y ≡ walk t work (m.activate x t) → leave m t r y ≡ target_at m walk len t work x
    unfolding target_at
    target_fresh r y e = simp (lt-leb len t h, v, a, ← e)

    module _ (x₁ y : S) (e₁ : x₁ ≡ m.activate x t) where
      pub target_walked : (p : Skipped) (z : S) → res (Some p) y ≡ walk t work x₁ → z ≡ m.validate y t → res (Some p) z ≡ target_at m walk len t work x
      unfolding leave
      target_walked p z e f = ap (res (Some p)) f ∙ target_fresh (Some p) y (e ∙ ap (walk t work) e₁)

      pub target_refused : res None y ≡ walk t work x₁ → res None y ≡ target_at m walk len t work x
      unfolding leave
      target_refused e = target_fresh None y (e ∙ ap (walk t work) e₁)

-- ---- values one after the other

module _ {S : Type 0} (walk : Walk S) where
  pub many_refused : (n : ℕ) (y : S) → many_at walk n None y ≡ res None y
  unfolding many_at
  many_refused zero y = refl
  many_refused (suc n) y = refl

  -- of n values those after the first i
  module _ (n i : ℕ) (h : i < n) (p : Skipped) (x y : S) (X : Res S) (inv : many_at walk (n - i) (Some p) x ≡ X) where
    many_step : (r : Option Skipped) → res r y ≡ walk p.next p.work x → many_at walk (n - (i + 1)) r y ≡ X
    unfolding many_at
    many_step r e =
        let k : n - i ≡ suc (n - (i + 1)) = omega arith in
        ap (λ (z : Res S). many_at walk (n - (i + 1)) z.answer z.sets) e ∙ ap (λ (j : ℕ). many_at walk j (Some p) x) (sym k) ∙ inv

    pub many_turn : (q : Skipped) → res (Some q) y ≡ walk p.next p.work x → many_at walk (n - (i + 1)) (Some q) y ≡ X
    many_turn q e = many_step (Some q) e

    pub many_stop : res None y ≡ walk p.next p.work x → res None y ≡ X
    many_stop e = sym (many_refused (n - (i + 1)) y) ∙ many_step None e

  pub many_end : (n i : ℕ) (r : Option Skipped) (x : S) (X : Res S) → n ≤ i → many_at walk (n - i) r x ≡ X → res r x ≡ X
  unfolding many_at
  many_end n i r x X h e =
      let k : 0 ≡ n - i = omega arith in
      ap (λ (j : ℕ). many_at walk j r x) k ∙ e

-- ---- a value

deeper : ℕ → Bool
deeper zero = false
deeper (suc l) = true

within : {S : Type 0} → Marks S → ℕ → List ℕ → Walk S
within m zero s = λ p w y. res None y
within m (suc l) s = skip_at m l s

module _ {S : Type 0} (m : Marks S) (s : List ℕ) (at work : ℕ) (x : S) where
  opened : (l : ℕ) → skip_at m l s at work x ≡ on_visit m (deeper l) (within m l s) (length s) (visit_at s at work) x
  unfolding skip_at deeper within
  opened zero = refl
  opened (suc l) = refl

  at_visit : (l : ℕ) (v : Option Visit) → v ≡ visit_at s at work → on_visit m (deeper l) (within m l s) (length s) v x ≡ skip_at m l s at work x
  at_visit l v met = sym (opened l ∙ ap (λ (y : Option Visit). on_visit m (deeper l) (within m l s) (length s) y x) (sym met))

  pub skip_refused : (l : ℕ) → None ≡ visit_at s at work → res None x ≡ skip_at m l s at work x
  unfolding on_visit
  skip_refused l met = at_visit l None met

  module _ (v : Visit) (met : Some v ≡ visit_at s at work) where
    is_visit : (k : Visit) → v ≡ k → Some k ≡ visit_at s at work
    is_visit k e = ap (λ (y : Visit). Some y) (sym e) ∙ met

    pub skip_leaf : (l next w : ℕ) → v ≡ visit.Leaf next w → res (Some (skipped next w)) x ≡ skip_at m l s at work x
    unfolding on_visit
    skip_leaf l next w e = at_visit l (Some (visit.Leaf next w)) (is_visit _ e)

    -- no level is left
    flat : (l : ℕ) → (1 ≤ l → ⊥) → (k : Visit) → v ≡ k → on_visit m false (within m 0 s) (length s) (Some k) x ≡ skip_at m l s at work x
    unfolding deeper
    flat l z k e =
        let n : 0 ≡ l = omega arith in
        ap (λ (j : ℕ). on_visit m (deeper j) (within m j s) (length s) (Some k) x) n ∙ at_visit l (Some k) (is_visit k e)

    pub children_too_deep : (l : ℕ) → (1 ≤ l → ⊥) → (n first w : ℕ) → v ≡ visit.Children n first w → res None x ≡ skip_at m l s at work x
    unfolding on_visit
    children_too_deep l z n first w e = flat l z _ e

    pub pointer_too_deep : (l : ℕ) → (1 ≤ l → ⊥) → (t next w : ℕ) → v ≡ visit.Pointer t next w → res None x ≡ skip_at m l s at work x
    unfolding on_visit
    pointer_too_deep l z t next w e = flat l z _ e

    -- one is
    module _ (l i : ℕ) (left : (1 ≤ l) × (i ≡ l - 1)) where
      deep : (k : Visit) → v ≡ k → on_visit m true (skip_at m i s) (length s) (Some k) x ≡ skip_at m l s at work x
      unfolding deeper within
      deep k e =
          let n : suc i ≡ l = omega arith in
          ap (λ (j : ℕ). on_visit m (deeper j) (within m j s) (length s) (Some k) x) n ∙ at_visit l (Some k) (is_visit k e)

      pub skip_children : (n first w : ℕ) → v ≡ visit.Children n first w → many_at (skip_at m i s) n (Some (skipped first w)) x ≡ skip_at m l s at work x
      unfolding on_visit
      skip_children n first w e = deep (visit.Children n first w) e

      module _ (t next w : ℕ) (e : v ≡ visit.Pointer t next w) (y : S) where
        followed : (r : Option Skipped) → res r y ≡ target_at m (skip_at m i s) (length s) t w x → past next r y ≡ skip_at m l s at work x
        unfolding on_visit
        followed r behind = ap (λ (k : Res S). past next k.answer k.sets) behind ∙ deep (visit.Pointer t next w) e

        pub pointer_followed : (q : Skipped) → res (Some q) y ≡ target_at m (skip_at m i s) (length s) t w x → res (Some (skipped next q.work)) y ≡ skip_at m l s at work x
        unfolding past
        pointer_followed q behind = followed (Some q) behind

        pub pointer_refused : res None y ≡ target_at m (skip_at m i s) (length s) t w x → res None y ≡ skip_at m l s at work x
        unfolding past
        pointer_refused behind = followed None behind

-- What holds of every walk that ends at a place: shown for a value with nothing inside, for values one after the other and for a
-- pointer, it holds of all.
use mathlib.Core.Path.{◌≡◌, refl, sym, ap, ◌∙◌}
use mathlib.Core.Logic.{⊎_elim, ◌⊎◌, inl, inr}
use mathlib.Core.List.{List}
use mathlib.Core.Bool.{true, false}
use Prim.Native.Nat.{ℕ, zero, suc, ◌<◌}
use lib.ListN.{length}
use Rattle.std.specs.Prelude.{Option, Some, None}
use Rattle.graph.specs.Visit.{visit_at}
use Rattle.graph.specs.Graph.{skipped, Marks, Res, res, Walk, leave, target_at, many_at, past, on_visit, skip_at, verify_at, levels}
use Rattle.graph.specs.declared.Visit.{Visit}
use Rattle.graph.specs.declared.Visit.TheVariants as visit
use Rattle.graph.specs.declared.Skipped.{Skipped}
use Rattle.graph.proofs.WalkLaws.{many_refused, target_outside, target_validated, target_cycle, target_fresh}
use Rattle.sweep.proofs.Sim.{lt_or_le, is_or_not, no_place}

-- from a place to the next, and from sets to sets
abbrev pub Path : Type 0 → Type 1
Path S = ℕ → ℕ → S → S → Type 0

-- n values one after the other
unfoldable pub Chain : {S : Type 0} → Path S → ℕ → Path S
Chain P zero p next x y = (p ≡ next) × (x ≡ y)
Chain {S} P (suc n) p next x y = (q : ℕ) × (z : S) × P p q x z × Chain P n q next z y

-- a target that was walked
pub record Entered {S : Type 0} (m : Marks S) (len : ℕ) (P : Path S) (t : ℕ) (x y : S) : Type 0 where
  pub inside : t < len
  pub new : m.is_validated x t ≡ false
  pub idle : m.is_active x t ≡ false
  pub end : ℕ
  pub within : S
  pub walked : P t end (m.activate x t) within
  pub left : m.validate within t ≡ y

-- a target: validated before, or walked
abbrev pub Behind : {S : Type 0} → Marks S → ℕ → Path S → ℕ → S → S → Type 0
Behind m len P t x y = ((t < len) × (m.is_validated x t ≡ true) × (x ≡ y)) ⊎ Entered m len P t x y

-- what Q has to meet: with so many levels, from place to place and from sets to sets
pub record Holds {S : Type 0} (m : Marks S) (s : List ℕ) (Q : ℕ → Path S) : Type 0 where
  pub leaf : (l p w next w' : ℕ) (x : S) → visit_at s p w ≡ Some (visit.Leaf next w') → Q l p next x x
  pub children : (l p w n first w' next : ℕ) (x y : S) → visit_at s p w ≡ Some (visit.Children n first w') → Chain (Q l) n first next x y → Q (suc l) p next x y
  pub pointer : (l p w t next w' : ℕ) (x y : S) → visit_at s p w ≡ Some (visit.Pointer t next w') → Behind m (length s) (Q l) t x y → Q (suc l) p next x y

module _ {S : Type 0} where
  pub same_place : {a b v w : ℕ} {x y : S} → res (Some (skipped a v)) x ≡ res (Some (skipped b w)) y → (a ≡ b) × (x ≡ y)
  same_place {a} {b} {v} {w} e =
      let f : Some (skipped a v) ≡ Some (skipped b w) = ap (λ (r : Res S). r.answer) e in
      let g : skipped a v ≡ skipped b w = cc f in
      (ap (λ (p : Skipped). p.next) g, ap (λ (r : Res S). r.sets) e)

  pub never : {A : Type 0} {b w : ℕ} {x y : S} → res None x ≡ res (Some (skipped b w)) y → A
  never e = no_place (ap (λ (r : Res S). r.answer) e)

  module _ (m : Marks S) (len : ℕ) (P : Path S) (walk : Walk S)
      (ih : (p w next w' : ℕ) (x y : S) → walk p w x ≡ res (Some (skipped next w')) y → P p next x y) where
    entered : (t w : ℕ) (x : S) → t < len → m.is_validated x t ≡ false → m.is_active x t ≡ false → (a : Option Skipped) (z : S) → walk t w (m.activate x t) ≡ res a z
        → {q w' : ℕ} {y : S} → leave m t a z ≡ res (Some (skipped q w')) y → Behind m len P t x y
    unfolding leave
    entered t w x h v i (Some p) z e f =
        inr (record { inside = h; new = v; idle = i; end = p.next; within = z; walked = ih t w p.next p.work (m.activate x t) z e; left = (same_place f).1 })
    entered t w x h v i None z e f = never f

    pub behind : (t w q w' : ℕ) (x y : S) → target_at m walk len t w x ≡ res (Some (skipped q w')) y → Behind m len P t x y
    behind t w q w' x y e =
        ⊎_elim
        (λ h.
        ⊎_elim
        (λ v. inl (h, v, (same_place (target_validated m walk len t w x h v ∙ e)).1))
        (λ v.
        ⊎_elim
        (λ i. never (target_cycle m walk len t w x h v i ∙ e))
        (λ i. entered t w x h v i _ _ refl (target_fresh m walk len t w x h v i _ _ refl ∙ e))
        (is_or_not (m.is_active x t)))
        (is_or_not (m.is_validated x t)))
        (λ h. never (target_outside m walk len t w x h ∙ e))
        (lt_or_le t len)

    first : (n next w' : ℕ) (y : S) → ((p w : ℕ) (x : S) → many_at walk n (Some (skipped p w)) x ≡ res (Some (skipped next w')) y → Chain P n p next x y)
        → (p w : ℕ) (x : S) (a : Option Skipped) (z : S) → walk p w x ≡ res a z → many_at walk n a z ≡ res (Some (skipped next w')) y → Chain P (suc n) p next x y
    unfolding Chain
    first n next w' y rest p w x (Some q) z e f = (q.next, z, ih p w q.next q.work x z e, rest q.next q.work z f)
    first n next w' y rest p w x None z e f = never (sym (many_refused walk n z) ∙ f)

    many : (n next w' : ℕ) (y : S) (p w : ℕ) (x : S) → many_at walk n (Some (skipped p w)) x ≡ res (Some (skipped next w')) y → Chain P n p next x y
    unfolding many_at Chain
    many zero next w' y p w x e = same_place e
    many (suc n) next w' y p w x e = first n next w' y (many n next w' y) p w x _ _ refl e

    followed : (t w next : ℕ) (x : S) (a : Option Skipped) (z : S) → target_at m walk len t w x ≡ res a z → {next' w' : ℕ} {y : S} → past next a z ≡ res (Some (skipped next' w')) y
        → (next ≡ next') × Behind m len P t x y
    unfolding past
    followed t w next x (Some q) z e {next'} {w'} {y} f =
        ((same_place f).0, behind t w q.next q.work x y (e ∙ ap (res (Some q)) (same_place f).1))
    followed t w next x None z e f = never f

module _ {S : Type 0} (m : Marks S) (s : List ℕ) (Q : ℕ → Path S) (holds : Holds m s Q) where
  flat : (l p w next w' : ℕ) (x y : S) (v : Option Visit) → visit_at s p w ≡ v
      → (walk : Walk S) → on_visit m false walk (length s) v x ≡ res (Some (skipped next w')) y → Q l p next x y
  unfolding on_visit
  flat l p w next w' x y (Some (visit.Leaf next₁ w₁)) e walk f =
      let g = same_place f in
      rw (← g.0, ← g.1) (holds.leaf l p w next₁ w₁ x e)
  flat l p w next w' x y (Some (visit.Children n first w₁)) e walk f = never f
  flat l p w next w' x y (Some (visit.Pointer t next₁ w₁)) e walk f = never f
  flat l p w next w' x y None e walk f = never f

  deep : (l p w next w' : ℕ) (x y : S) (v : Option Visit) → visit_at s p w ≡ v
      → (walk : Walk S) → ((p w next w' : ℕ) (x y : S) → walk p w x ≡ res (Some (skipped next w')) y → Q l p next x y)
      → on_visit m true walk (length s) v x ≡ res (Some (skipped next w')) y → Q (suc l) p next x y
  unfolding on_visit
  deep l p w next w' x y (Some (visit.Leaf next₁ w₁)) e walk ih f =
      let g = same_place f in
      rw (← g.0, ← g.1) (holds.leaf (suc l) p w next₁ w₁ x e)
  deep l p w next w' x y (Some (visit.Children n first w₁)) e walk ih f =
      holds.children l p w n first w₁ next x y e (many m (length s) (Q l) walk ih n next w' y first w₁ x f)
  deep l p w next w' x y (Some (visit.Pointer t next₁ w₁)) e walk ih f =
      let g = followed m (length s) (Q l) walk ih t w₁ next₁ x _ _ refl f in
      rw (← g.0) (holds.pointer l p w t next₁ w₁ x y e g.1)
  deep l p w next w' x y None e walk ih f = never f

  -- one value
  pub skip_walked : (l p w next w' : ℕ) (x y : S) → skip_at m l s p w x ≡ res (Some (skipped next w')) y → Q l p next x y
  unfolding skip_at
  skip_walked zero p w next w' x y e = flat zero p w next w' x y (visit_at s p w) refl (λ q v z. res None z) e
  skip_walked (suc l) p w next w' x y e = deep l p w next w' x y (visit_at s p w) refl (skip_at m l s) (skip_walked l) e

  -- a value that the tree leads to
  pub verify_walked : (t w q w' : ℕ) (x y : S) → verify_at m s t w x ≡ res (Some (skipped q w')) y → Behind m (length s) (Q levels) t x y
  verify_walked t w q w' x y e = behind m (length s) (Q levels) (skip_at m levels s) (skip_walked levels) t w q w' x y e

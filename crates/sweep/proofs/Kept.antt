-- What a walk over the crate's sets keeps: it leaves as active what was active, as recorded what was recorded, and takes nothing
-- out of the validated.
use mathlib.Core.Path.{◌≡◌, refl, sym, ap, subst, ◌∙◌}
use mathlib.Core.Logic.{⊎_elim}
use mathlib.Core.List.{List}
use mathlib.Core.Bool.{true, false}
use Prim.Native.Nat.{ℕ, zero, suc}
use native.Mathlib.Decide.{ℕ_discrete}
use borrow.Author.Tests.{eq-eqb, ne_eqb}
use lib.ListN.{length}
use Rattle.std.specs.Prelude.{Some}
use Rattle.graph.specs.Graph.{skipped, Marks, res, verify_at}
use Rattle.graph.specs.Sets.{Set, insert, remove, Sets, on_sets}
use Rattle.sweep.proofs.Walked.{Chain, Behind, Holds, verify_walked}

pub inserted : (t : ℕ) (f : Set) → insert t f t ≡ true
inserted t f = simp (eq-eqb t t refl)

pub insert_other : (t u : ℕ) (f : Set) → (u ≡ t → ⊥) → insert t f u ≡ f u
insert_other t u f n = simp (ne_eqb u t n)

removed : (t : ℕ) (f : Set) → remove t f t ≡ false
removed t f = simp (eq-eqb t t refl)

pub remove_other : (t u : ℕ) (f : Set) → (u ≡ t → ⊥) → remove t f u ≡ f u
remove_other t u f n = simp (ne_eqb u t n)

-- a relation of sets before and after that holds around a target if it holds inside
pub record Around {S : Type 0} (m : Marks S) (K : S → S → Type 0) : Type 0 where
  pub still : (x : S) → K x x
  pub both : (x y z : S) → K x y → K y z → K x z
  pub around : (x y : S) (t : ℕ) → m.is_validated x t ≡ false → m.is_active x t ≡ false → K (m.activate x t) y → K x (m.validate y t)

module _ {S : Type 0} (m : Marks S) (s : List ℕ) (K : S → S → Type 0) (k : Around m K) where
  pub chain_keeps : (n p next : ℕ) (x y : S) → Chain (λ _ _ a b. K a b) n p next x y → K x y
  unfolding Chain
  chain_keeps zero p next x y c = subst (λ (z : S). K x z) c.1 (k.still x)
  chain_keeps (suc n) p next x y c = k.both x c.1 y c.2 (chain_keeps n c.0 next c.1 y c.3)

  pub behind_keeps : (len t : ℕ) (x y : S) → Behind m len (λ _ _ a b. K a b) t x y → K x y
  behind_keeps len t x y b =
      ⊎_elim (λ e. subst (λ (z : S). K x z) e.2 (k.still x))
      (λ e. subst (λ (z : S). K x z) e.left (k.around x e.within t e.new e.idle e.walked)) b

  keeps : Holds m s (λ _ _ _ x y. K x y)
  keeps =
      record {
        leaf = λ l p w next w' x e. k.still x;
        children = λ l p w n first w' next x y e c. chain_keeps n first next x y c;
        pointer = λ l p w t next w' x y e b. behind_keeps (length s) t x y b;
      }

  pub verify_keeps : (t w q w' : ℕ) (x y : S) → verify_at m s t w x ≡ res (Some (skipped q w')) y → K x y
  verify_keeps t w q w' x y e = behind_keeps (length s) t x y (verify_walked m s (λ _ _ _ x y. K x y) keeps t w q w' x y e)

-- from the sets before a walk to those after it
pub record Keeps (x y : Sets) : Type 0 where
  pub active : (u : ℕ) → y.active u ≡ x.active u
  pub recorded : (u : ℕ) → y.recorded u ≡ x.recorded u
  pub validated : (u : ℕ) → x.validated u ≡ true → y.validated u ≡ true

pub around_sets : Around on_sets Keeps
around_sets =
    record {
      still = λ x. record { active = λ u. refl; recorded = λ u. refl; validated = λ u e. e };
      both = λ x y z f g. record {
        active = λ u. g.active u ∙ f.active u;
        recorded = λ u. g.recorded u ∙ f.recorded u;
        validated = λ u e. g.validated u (f.validated u e);
      };
      around = λ x y t v i f. record {
        active = λ u. elim (ℕ_discrete u t) [
          | yes e ↦ ap (remove t y.active) e ∙ removed t y.active ∙ sym (ap x.active e ∙ i)
          | no n ↦ remove_other t u y.active n ∙ f.active u ∙ insert_other t u x.active n
        ];
        recorded = f.recorded;
        validated = λ u e. elim (ℕ_discrete u t) [
          | yes q ↦ ap (insert t y.validated) q ∙ inserted t y.validated
          | no n ↦ insert_other t u y.validated n ∙ f.validated u e
        ];
      };
    }

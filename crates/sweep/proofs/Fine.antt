-- What was walked is good, and so is every place that is validated.
use mathlib.Core.Path.{◌≡◌, refl, sym, ap, subst, ◌∙◌}
use mathlib.Core.Logic.{⊎_elim}
use mathlib.Core.List.{List}
use mathlib.Core.Bool.{Bool, true, false}
use Prim.Native.Nat.{ℕ, zero, suc, ◌≤◌}
use native.Mathlib.Decide.{ℕ_discrete}
use native.Mathlib.Nat.{not-suc-le-zero, le_of_suc-le-suc}
use native.Mathlib.Omega.{arith}
use lib.ListN.{length}
use Rattle.std.specs.Prelude.{Option, Some, None}
use Rattle.graph.specs.Visit.{visit_at}
use Rattle.graph.specs.Graph.{levels}
use Rattle.graph.specs.Sets.{Set, insert, Sets, on_sets}
use Rattle.graph.specs.declared.Visit.{Visit}
use Rattle.graph.specs.declared.Visit.TheVariants.{Leaf, Children, Pointer}
use Rattle.sweep.specs.Sound.{Follows, Met, Good}
use Rattle.sweep.proofs.Walked.{Chain, Entered, Behind, Holds}
use Rattle.sweep.proofs.Kept.{inserted, insert_other, Keeps, around_sets}

-- more good places, more levels: good values stay good
abbrev More : Set → Set → Type 0
More f g = (u : ℕ) → f u ≡ true → g u ≡ true

follows_more : (P Q : ℕ → ℕ → Type 0) → ((p q : ℕ) → P p q → Q p q) → (n p next : ℕ) → Follows P n p next → Follows Q n p next
unfolding Follows
follows_more P Q h zero p next e = e
follows_more P Q h (suc n) p next e = (e.0, h p e.0 e.1, follows_more P Q h n e.0 next e.2)

module _ (f g : Set) (more : More f g) where
  met_more : (P Q : ℕ → ℕ → Type 0) → ((p q : ℕ) → P p q → Q p q) → (b : Bool) (v : Option Visit) (next : ℕ) → Met b P f v next → Met true Q g v next
  unfolding Met
  met_more P Q h b (Some (Leaf end work)) next e = e
  met_more P Q h true (Some (Children n first work)) next e = follows_more P Q h n first next e
  met_more P Q h false (Some (Children n first work)) next e = absurd e
  met_more P Q h true (Some (Pointer t end work)) next e = (more t e.0, e.1)
  met_more P Q h false (Some (Pointer t end work)) next e = absurd e
  met_more P Q h b None next e = e

  met_flat : (P Q : ℕ → ℕ → Type 0) (v : Option Visit) (next : ℕ) → Met false P f v next → Met false Q g v next
  unfolding Met
  met_flat P Q (Some (Leaf end work)) next e = e
  met_flat P Q (Some (Children n first work)) next e = e
  met_flat P Q (Some (Pointer t end work)) next e = e
  met_flat P Q None next e = e

  good_more : (s : List ℕ) (k l p next : ℕ) → k ≤ l → Good s f k p next → Good s g l p next
  unfolding Good
  good_more s zero zero p next h e = (e.0, met_flat (λ _ _. ⊥) (λ _ _. ⊥) (visit_at s p e.0) next e.1)
  good_more s zero (suc l) p next h e = (e.0, met_more (λ _ _. ⊥) (Good s g l) (λ p q z. absurd z) false (visit_at s p e.0) next e.1)
  good_more s (suc k) zero p next h e = absurd (not-suc-le-zero h)
  good_more s (suc k) (suc l) p next h e =
      (e.0, met_more (Good s f k) (Good s g l) (λ p q z. good_more s k l p q (le_of_suc-le-suc h) z) true (visit_at s p e.0) next e.1)

abbrev pub AllGood : List ℕ → Sets → Type 0
AllGood s x = (u : ℕ) → x.validated u ≡ true → (next : ℕ) × Good s x.validated levels u next

-- from a place to the next, and from sets to sets
pub record Fine (s : List ℕ) (l p next : ℕ) (x y : Sets) : Type 0 where
  pub keeps : Keeps x y
  pub good : Good s y.validated l p next
  pub sound : l ≤ levels → AllGood s x → AllGood s y

module _ (s : List ℕ) where
  good_leaf : (f : Set) (l p w next w' : ℕ) → visit_at s p w ≡ Some (Leaf next w') → Good s f l p next
  unfolding Good Met
  good_leaf f zero p w next w' e = (w, rw e refl)
  good_leaf f (suc l) p w next w' e = (w, rw e refl)

  good_children : (f : Set) (l p w n first w' next : ℕ) → visit_at s p w ≡ Some (Children n first w') → Follows (Good s f l) n first next → Good s f (suc l) p next
  unfolding Good Met
  good_children f l p w n first w' next e c = (w, rw e c)

  good_pointer : (f : Set) (l p w t next w' : ℕ) → visit_at s p w ≡ Some (Pointer t next w') → f t ≡ true → Good s f (suc l) p next
  unfolding Good Met
  good_pointer f l p w t next w' e g = (w, rw e (g, refl))

  -- values one after the other
  pub record Chained (l n p next : ℕ) (x y : Sets) : Type 0 where
    pub keeps : Keeps x y
    pub follows : Follows (Good s y.validated l) n p next
    pub sound : l ≤ levels → AllGood s x → AllGood s y

  chained : (l n p next : ℕ) (x y : Sets) → Chain (Fine s l) n p next x y → Chained l n p next x y
  unfolding Chain Follows
  chained l zero p next x y c =
      subst (λ (z : Sets). Chained l zero p next x z) c.1 (record { keeps = around_sets.still x; follows = c.0; sound = λ h a. a })
  chained l (suc n) p next x y c =
      let f = c.2 in
      let r = chained l n c.0 next c.1 y c.3 in
      record {
        keeps = around_sets.both x c.1 y f.keeps r.keeps;
        follows = (c.0, good_more c.1.validated y.validated r.keeps.validated s l l p c.0 (omega arith) f.good, r.follows);
        sound = λ h a. r.sound h (f.sound h a);
      }

  -- a target that was walked is good itself
  entered_sound : (l t : ℕ) (x y : Sets) → Entered on_sets (length s) (Fine s l) t x y → l ≤ levels → AllGood s x → AllGood s y
  entered_sound l t x y e h a =
      subst (AllGood s) e.left
      (λ u v. elim (ℕ_discrete u t) [
        | yes q ↦ (e.end, subst (λ (k : ℕ). Good s (insert t e.within.validated) levels k e.end) (sym q) (wider l t e.end h e.walked.good))
        | no n ↦
            let g = e.walked.sound h a u (sym (insert_other t u e.within.validated n) ∙ v) in
            (g.0, wider levels u g.0 (omega arith) g.1)
      ])
    where
      wider : (k p next : ℕ) → k ≤ levels → Good s e.within.validated k p next → Good s (insert t e.within.validated) levels p next
      wider k p next z g =
          good_more e.within.validated (insert t e.within.validated)
          (λ u v. elim (ℕ_discrete u t) [
            | yes q ↦ ap (insert t e.within.validated) q ∙ inserted t e.within.validated
            | no n ↦ insert_other t u e.within.validated n ∙ v
          ]) s k levels p next z g

  -- behind a pointer
  pub record Reached (l t : ℕ) (x y : Sets) : Type 0 where
    pub keeps : Keeps x y
    pub there : y.validated t ≡ true
    pub sound : l ≤ levels → AllGood s x → AllGood s y

  pub reached : (l t : ℕ) (x y : Sets) → Behind on_sets (length s) (Fine s l) t x y → Reached l t x y
  reached l t x y b =
      ⊎_elim
      (λ e. subst (λ (z : Sets). Reached l t x z) e.2 (record { keeps = around_sets.still x; there = e.1; sound = λ h a. a }))
      (λ e. record {
        keeps = subst (Keeps x) e.left (around_sets.around x e.within t e.new e.idle e.walked.keeps);
        there = subst (λ (z : Sets). z.validated t ≡ true) e.left (inserted t e.within.validated);
        sound = entered_sound l t x y e;
      })
      b

  pub fine : Holds on_sets s (Fine s)
  fine =
      record {
        leaf = λ l p w next w' x e. record { keeps = around_sets.still x; good = good_leaf x.validated l p w next w' e; sound = λ h a. a };
        children = λ l p w n first w' next x y e c.
            let k = chained l n first next x y c in
            record { keeps = k.keeps; good = good_children y.validated l p w n first w' next e k.follows; sound = λ h a. k.sound (omega arith) a };
        pointer = λ l p w t next w' x y e b.
            let k = reached l t x y b in
            record { keeps = k.keeps; good = good_pointer y.validated l p w t next w' e k.there; sound = λ h a. k.sound (omega arith) a };
      }

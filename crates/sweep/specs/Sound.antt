-- What an accepted section is: a set of places that has those recorded, at each of which lies a good value.
use Rattle.std.specs.Prelude.{ℕ, zero, suc, ◌<◌, ◌≡◌, List, Option, Some, None, Bool, true, false, length}
use Rattle.graph.specs.Visit.{visit_at}
use Rattle.graph.specs.Graph.{levels}
use Rattle.graph.specs.Sets.{Set}
use Rattle.graph.specs.declared.Visit.{Visit}
use Rattle.graph.specs.declared.Visit.TheVariants.{Leaf, Children, Pointer}

-- n values one after the other, from p to next
unfoldable pub Follows : (ℕ → ℕ → Type 0) → ℕ → ℕ → ℕ → Type 0
Follows value zero p next = p ≡ next
Follows value (suc n) p next = (q : ℕ) × value p q × Follows value n q next

-- what a value asks for is there, and the value ends at next
unfoldable pub Met : Bool → (ℕ → ℕ → Type 0) → Set → Option Visit → ℕ → Type 0
unfolding Follows
Met deeper value good (Some (Leaf end work)) next = end ≡ next
Met true value good (Some (Children n first work)) next = Follows value n first next
Met false value good (Some (Children n first work)) next = ⊥
Met true value good (Some (Pointer t end work)) next = (good t ≡ true) × (end ≡ next)
Met false value good (Some (Pointer t end work)) next = ⊥
Met deeper value good None next = ⊥

-- a good value from p to next, with so many levels: it lies in the section, its texts are UTF-8, its pointers lead to good places
unfoldable pub Good : List ℕ → Set → ℕ → ℕ → ℕ → Type 0
unfolding Met
Good s good zero p next = (work : ℕ) × Met false (λ _ _. ⊥) good (visit_at s p work) next
Good s good (suc l) p next = (work : ℕ) × Met true (Good s good l) good (visit_at s p work) next

pub record Sound (s : List ℕ) (recorded : Set) : Type 0 where
  pub good : Set
  pub has : (t : ℕ) → t < length s → recorded t ≡ true → good t ≡ true
  pub value : (t : ℕ) → good t ≡ true → (next : ℕ) × Good s good levels t next

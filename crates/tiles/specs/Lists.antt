-- Every one, some one, and exactly one of a list; those that a test picks.
use Rattle.std.specs.Prelude.{Bool, cond, ◌⊎◌, List, [], ◌∷◌}

unfoldable pub All : {A : Type 0} → (A → Type 0) → List A → Type 0
All P [] = Unit
All P (a ∷ l) = P a × All P l

unfoldable pub Some : {A : Type 0} → (A → Type 0) → List A → Type 0
Some P [] = ⊥
Some P (a ∷ l) = P a ⊎ Some P l

unfoldable pub Once : {A : Type 0} → (A → Type 0) → List A → Type 0
Once P [] = ⊥
Once P (a ∷ l) = (P a × All (λ b. P b → ⊥) l) ⊎ ((P a → ⊥) × Once P l)

-- each before those after it
unfoldable pub Ordered : {A : Type 0} → (A → A → Type 0) → List A → Type 0
Ordered R [] = Unit
Ordered R (a ∷ l) = All (R a) l × Ordered R l

-- those of which a test holds, in their order
unfoldable pub only : {A : Type 0} → (A → Bool) → List A → List A
only f [] = []
only f (a ∷ l) = cond (f a) (a ∷ only f l) (only f l)

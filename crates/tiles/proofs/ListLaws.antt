-- Laws of every one, some one, and exactly one of a list, and of those that a test picks.
use mathlib.Core.Path.{◌≡◌, refl, ap}
use mathlib.Core.Bool.{Bool, true, false, cond}
use mathlib.Core.Logic.{inl, inr, ⊎_elim}
use mathlib.Core.List.{List, [], ◌∷◌, ◌++◌, map}
use Rattle.tiles.specs.Lists.{All, Some, Once, Ordered, only}

module _ {A : Type 0} where
  pub all_append : (P : A → Type 0) (l m : List A) → All P l → All P m → All P (l ++ m)
  unfolding All
  all_append P [] m h k = k
  all_append P (a ∷ l) m h k = (h.0, all_append P l m h.1 k)

  pub all_map : (P Q : A → Type 0) → ((a : A) → P a → Q a) → (l : List A) → All P l → All Q l
  unfolding All
  all_map P Q f [] h = h
  all_map P Q f (a ∷ l) h = (f a h.0, all_map P Q f l h.1)

  pub all_each : (P : A → Type 0) → ((a : A) → P a) → (l : List A) → All P l
  unfolding All
  all_each P f [] = tt
  all_each P f (a ∷ l) = (f a, all_each P f l)

  -- what holds of every one, of the one singled out
  pub some_all : (P Q R : A → Type 0) → ((a : A) → P a → Q a → R a) → (l : List A) → All P l → Some Q l → Some R l
  unfolding All Some
  some_all P Q R f [] h s = s
  some_all P Q R f (a ∷ l) h s = ⊎_elim (λ q. inl (f a h.0 q)) (λ t. inr (some_all P Q R f l h.1 t)) s

  pub single : (P Q : A → Type 0) (l : List A) → All P l → Some Q l → (a : A) × (P a × Q a)
  unfolding All Some
  single P Q [] h s = absurd s
  single P Q (a ∷ l) h s = ⊎_elim (λ q. (a, (h.0, q))) (λ t. single P Q l h.1 t) s

  pub some_once : (P : A → Type 0) (l : List A) → Once P l → Some P l
  unfolding Once Some
  some_once P [] o = o
  some_once P (a ∷ l) o = ⊎_elim (λ h. inl h.0) (λ h. inr (some_once P l h.1)) o

  pub none_all : (P : A → Type 0) (l : List A) → (Some P l → ⊥) → All (λ a. P a → ⊥) l
  unfolding All Some
  none_all P [] n = tt
  none_all P (a ∷ l) n = ((λ p. n (inl p)), none_all P l (λ s. n (inr s)))

  pub all_both : (P Q : A → Type 0) (l : List A) → All P l → All Q l → All (λ a. P a × Q a) l
  unfolding All
  all_both P Q [] h k = h
  all_both P Q (a ∷ l) h k = ((h.0, k.0), all_both P Q l h.1 k.1)

  -- those that a test picks
  pub only_append : (f : A → Bool) (l m : List A) → only f (l ++ m) ≡ only f l ++ only f m
  unfolding only
  only_append f [] m = refl
  only_append f (a ∷ l) m = by (f a) (only_append f l m)
    where
      by : (b : Bool) → only f (l ++ m) ≡ only f l ++ only f m → cond b (a ∷ only f (l ++ m)) (only f (l ++ m)) ≡ cond b (a ∷ only f l) (only f l) ++ only f m
      by true e = ap (λ (k : List A). a ∷ k) e
      by false e = e

  pub only_all : (f : A → Bool) (l : List A) → All (λ a. f a ≡ true) l → only f l ≡ l
  unfolding All only
  only_all f [] h = refl
  only_all f (a ∷ l) h = rw (h.0, only_all f l h.1)

  pub only_none : (f : A → Bool) (l : List A) → All (λ a. f a ≡ false) l → only f l ≡ []
  unfolding All only
  only_none f [] h = refl
  only_none f (a ∷ l) h = rw (h.0, only_none f l h.1)

-- through a map
module _ {A B : Type 0} (f : A → B) where
  pub some_mapped : (P : A → Type 0) (Q : B → Type 0) → ((a : A) → P a → Q (f a)) → (l : List A) → Some P l → Some Q (map f l)
  unfolding Some
  some_mapped P Q g [] s = s
  some_mapped P Q g (a ∷ l) s = ⊎_elim (λ p. inl (g a p)) (λ t. inr (some_mapped P Q g l t)) s

  pub some_unmapped : (P : A → Type 0) (Q : B → Type 0) → ((a : A) → Q (f a) → P a) → (l : List A) → Some Q (map f l) → Some P l
  unfolding Some
  some_unmapped P Q g [] s = s
  some_unmapped P Q g (a ∷ l) s = ⊎_elim (λ q. inl (g a q)) (λ t. inr (some_unmapped P Q g l t)) s

  -- of a list of which something is known
  module _ (K : A → Type 0) where
    pub all_mapped : (P : A → Type 0) (Q : B → Type 0) → ((a : A) → K a → P a → Q (f a)) → (l : List A) → All K l → All P l → All Q (map f l)
    unfolding All
    all_mapped P Q g [] h k = h
    all_mapped P Q g (a ∷ l) h k = (g a h.0 k.0, all_mapped P Q g l h.1 k.1)

    pub once_mapped :
        (P : A → Type 0) (Q : B → Type 0) → ((a : A) → K a → P a → Q (f a)) → ((a : A) → K a → Q (f a) → P a) → (l : List A) → All K l
        → Once P l → Once Q (map f l)
    unfolding All Once
    once_mapped P Q g k [] h o = o
    once_mapped P Q g k (a ∷ l) h o =
        ⊎_elim
        (λ p. inl (g a h.0 p.0, all_mapped (λ b. P b → ⊥) (λ b. Q b → ⊥) (λ b u n q. n (k b u q)) l h.1 p.1))
        (λ p. inr ((λ q. p.0 (k a h.0 q)), once_mapped P Q g k l h.1 p.1))
        o

    pub ordered_mapped :
        (R : A → A → Type 0) (S : B → B → Type 0) → ((a b : A) → K a → K b → R a b → S (f a) (f b)) → (l : List A) → All K l
        → Ordered R l → Ordered S (map f l)
    unfolding All Ordered
    ordered_mapped R S g [] h o = o
    ordered_mapped R S g (a ∷ l) h o =
        (all_mapped (R a) (S (f a)) (λ b u r. g a b h.0 u r) l h.1 o.0, ordered_mapped R S g l h.1 o.1)

-- a map that goes by way of another
pub map_by :
    {A B C : Type 0} (f : A → C) (g : B → C) (k : A → B) (l : List A) → All (λ a. f a ≡ g (k a)) l → map f l ≡ map g (map k l)
unfolding All
map_by f g k [] h = refl
map_by f g k (a ∷ l) h = rw (h.0, map_by f g k l h.1)

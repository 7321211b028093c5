-- The crate's own sets: the offsets that the tree recorded, and `active` and `validated` of its VerificationState.
use Rattle.std.specs.Prelude.{ℕ, Bool, true, false, cond, eqb}
use Rattle.graph.specs.Graph.{Marks}

abbrev pub Set : Type 0
Set = ℕ → Bool

abbrev pub none : Set
none t = false

abbrev pub insert : ℕ → Set → Set
insert x set t = cond (eqb t x) true (set t)

abbrev pub remove : ℕ → Set → Set
remove x set t = cond (eqb t x) false (set t)

pub record Sets : Type 0 where
  pub recorded : Set
  pub active : Set
  pub validated : Set

abbrev pub on_sets : Marks Sets
on_sets =
    record {
      is_recorded = λ x t. x.recorded t;
      is_active = λ x t. x.active t;
      is_validated = λ x t. x.validated t;
      activate = λ x t. record { recorded = x.recorded; active = insert t x.active; validated = x.validated };
      validate = λ x t. record { recorded = x.recorded; active = remove t x.active; validated = insert t x.validated };
    }

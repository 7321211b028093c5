-- The value graph of a section: what `skip_value_for_verification` and its helpers do. The sets of places that it reads and writes
-- are left open here: specs/Sets has the crate's, specs/Words the scratch's.
use Rattle.std.specs.Prelude.{ℕ, zero, suc, List, Option, Some, None, Bool, true, false, cond, length, leb}
use Rattle.graph.specs.Visit.{visit_at}
use Rattle.graph.specs.declared.Visit as visit
use Rattle.graph.specs.declared.Skipped.{Skipped}

-- where a value ends, and the work that is left
abbrev pub skipped : ℕ → ℕ → Skipped
skipped n w = record { next = n; work = w }

-- the three sets of places, kept somehow in an S: those that the tree recorded, those being walked, those found good
pub record Marks (S : Type 0) : Type 0 where
  pub is_recorded : S → ℕ → Bool
  pub is_active : S → ℕ → Bool
  pub is_validated : S → ℕ → Bool
  pub activate : S → ℕ → S
  pub validate : S → ℕ → S

-- the answer, and the sets afterwards
pub record Res (S : Type 0) : Type 0 where
  pub answer : Option Skipped
  pub sets : S

abbrev pub res : {S : Type 0} → Option Skipped → S → Res S
res r x = record { answer = r; sets = x }

-- from a place, with the work that is left and the sets as they are
abbrev pub Walk : Type 0 → Type 0
Walk S = ℕ → ℕ → S → Res S

-- what was walked without refusal is validated, and no longer active; a refusal ends all, and the sets are not looked at again
unfoldable pub leave : {S : Type 0} → Marks S → ℕ → Option Skipped → S → Res S
leave m t (Some p) x = res (Some p) (m.validate x t)
leave m t None x = res None x

-- the place that a pointer or the tree leads to: outside the section it is refused; validated it is not walked again; active it is a cycle
unfoldable pub target_at : {S : Type 0} → Marks S → Walk S → ℕ → ℕ → ℕ → S → Res S
unfolding leave
target_at {S} m walk len t work x =
    let r : Res S = walk t work (m.activate x t) in
    cond (leb len t) (res None x)
    (cond (m.is_validated x t) (res (Some (skipped t work)) x)
    (cond (m.is_active x t) (res None x)
    (leave m t r.answer r.sets)))

-- n values, one after the other
unfoldable pub many_at : {S : Type 0} → Walk S → ℕ → Option Skipped → S → Res S
many_at walk zero r x = res r x
many_at {S} walk (suc n) (Some p) x = let r : Res S = walk p.next p.work x in many_at walk n r.answer r.sets
many_at walk (suc n) None x = res None x

-- past a pointer, with the work that its target left
unfoldable pub past : {S : Type 0} → ℕ → Option Skipped → S → Res S
past next (Some p) x = res (Some (skipped next p.work)) x
past next None x = res None x

-- what a value asks for; a map, an array and a pointer go one level deeper, if one is left
unfoldable pub on_visit : {S : Type 0} → Marks S → Bool → Walk S → ℕ → Option visit.Visit → S → Res S
unfolding target_at many_at past
on_visit m deeper walk len (Some (visit.TheVariants.Leaf next work)) x = res (Some (skipped next work)) x
on_visit m deeper walk len (Some (visit.TheVariants.Children n first work)) x = cond deeper (many_at walk n (Some (skipped first work)) x) (res None x)
on_visit {S} m deeper walk len (Some (visit.TheVariants.Pointer t next work)) x =
    let r : Res S = target_at m walk len t work x in
    cond deeper (past next r.answer r.sets) (res None x)
on_visit m deeper walk len None x = res None x

-- ONE VALUE, with so many levels left
unfoldable pub skip_at : {S : Type 0} → Marks S → ℕ → List ℕ → Walk S
unfolding on_visit
skip_at m zero s at work x = on_visit m false (λ p w y. res None y) (length s) (visit_at s at work) x
skip_at m (suc l) s at work x = on_visit m true (skip_at m l s) (length s) (visit_at s at work) x

-- the levels that may be gone down from the first value: MAXIMUM_SKIPPED_DATA_STRUCTURE_DEPTH
abbrev pub levels : ℕ
levels = 128

-- a value that the tree leads to, or the first of the metadata
abbrev pub verify_at : {S : Type 0} → Marks S → List ℕ → Walk S
verify_at m s at work x = target_at m (skip_at m levels s) (length s) at work x

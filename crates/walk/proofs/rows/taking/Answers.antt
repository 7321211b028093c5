use Prim.Native.Nat.{ℕ}
use mathlib.Core.Path.{◌≡◌, refl, sym}
use mathlib.Core.Bool.{Bool, true, false, cond}
use mathlib.Core.List.{List}
use native.Mathlib.Omega.{arith}
use borrow.Author.Tests.{le-ltb, le-leb}
use Rattle.handle.specs.declared.Handle.{Handle}
use Rattle.tree.specs.Lookup.{answer_of}
use Rattle.place.specs.declared.Options.{Options}
use Rattle.place.specs.declared.Place.{Place}
use Rattle.place.specs.declared.Turn.TheVariants.{Passed}
use Rattle.place.specs.Kinds.{is_skipped}
use Rattle.place.specs.Turns.{turn_of}
use Rattle.walk.proofs.rows.taking.Goals as goal

module _ (d : List ℕ) (h : Handle) (o : Options) (width : ℕ) (p : Place) where
  -- a place without data is passed, skipped or not
  passes-empty : p.value ≡ h.nodes → o.dataless ≡ false → turn_of d h o width p ≡ Passed
  unfolding turn_of answer_of
  passes-empty empty out =
      simp (le-ltb p.value h.nodes (omega (arith, empty)), le-leb p.value h.nodes (omega (arith, empty)), out) (by (is_skipped h o width p))
    where
      by : (a : Bool) → cond a Passed Passed ≡ Passed
      by true = refl
      by false = refl

pub returns-then-not-terms : goal.returns-then-not-terms
returns-then-not-terms c = sym (passes-empty _ _ _ _ _ c.if-p-terms.true c.if-not-terms.true)

use native.Mathlib.Omega.{arith}
use mathlib.Core.Path.{◌∙◌, sym}
use Rattle.text.proofs.Laws.{run_ill, run_at, run_end}
use Rattle.text.proofs.utf8.Goals as goal

pub returns-in_default : goal.returns-in_default
returns-in_default c =
    let l = c.loop-b in
    sym (run_ill _) ∙ run_at _ l.b-index _ _ _ _ c.loop-b-test.true (sym c.after.ensures ∙ c.in_default.is) ∙ l.invariant

pub loop-b-preserved : goal.loop-b-preserved
loop-b-preserved c =
    let l = c.loop-b in
    run_at _ l.b-index _ _ _ _ c.loop-b-test.true (sym c.after.ensures ∙ c.in-Some.is) ∙ l.invariant

pub returns : goal.returns
returns c =
    let l = c.loop-b in
    sym (run_end _ l.b-index _ _ _ (omega arith)) ∙ l.invariant

use mathlib.Core.Path.{ap, ◌∙◌}
use Prim.Native.Nat.{ℕ}
use mathlib.Core.List.{List}
use Rattle.graph.specs.Graph.{Res}
use Rattle.sweep.specs.Sweep.{accepts}
use Rattle.verify.proofs.VerifyLaws.{metadata_zeros}
use Rattle.verify.proofs.is_metadata_accepted.Goals as goal

pub returns-clause-value : goal.returns-clause-value
returns-clause-value c =
    c.is_some.ensures
    ∙ ap (λ (k : Res (List ℕ)). accepts k.answer) c.verify_metadata_graph.ensures
    ∙ metadata_zeros _ _ _ c.requires.metadata_in_bounds.0 c.requires.bits_value

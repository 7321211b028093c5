use Rattle.std.proofs.Common.{sym, ◌∙◌}
use Rattle.stored.proofs.StoredLaws.{stored_laid}
use Rattle.graph.proofs.visit_value.Goals as goal

pub visit_kind-requires : goal.visit_kind-requires
visit_kind-requires c = (stored_laid c.args.s.now (λ i. (c.type_inv.s i).fits) c.args.at (sym c.stored.ensures ∙ c.in_ok-value.was)).0.lies

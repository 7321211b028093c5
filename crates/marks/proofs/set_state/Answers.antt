use Rattle.marks.specs.Marks.{set_state}
use Rattle.marks.proofs.set_state.Goals as goal

pub returns : goal.returns
unfolding set_state
returns c = cc

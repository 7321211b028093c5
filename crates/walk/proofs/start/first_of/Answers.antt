use Rattle.walk.proofs.StartLaws.{tree_of}
use Rattle.walk.proofs.start.first_of.Goals as goal

pub descend-end-requires-clause-tree : goal.descend-end-requires-clause-tree
descend-end-requires-clause-tree c = tree_of _ _ c.requires.image_value

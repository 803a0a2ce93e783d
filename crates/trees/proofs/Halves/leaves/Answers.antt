-- None stand yet, so there is room for all.
use Rattle.trees.proofs.Down.{all_below}
use Rattle.trees.proofs.Halves.leaves.Goals as goal

pub list-requires : goal.list-requires
list-requires c = all_below _ _ _ c.new-shards.ensures.count c.requires

-- A split's halves are walked with what the split was, and a split with one level less.
use Rattle.std.specs.Prelude.{◌+◌, ◌*◌}
use Rattle.trees.proofs.Halves.+walk.Given as goal

abbrev pub decreases-split : goal.decreases-split
decreases-split l = 2 * l.left + 1

abbrev pub decreases-walk : goal.decreases-walk
decreases-walk l = 2 * l.left

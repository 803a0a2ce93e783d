-- A route's way down: where it stands, and a bound of the shard there.
use Rattle.std.proofs.Common.{◌<◌, ◌^◌, ◌-◌, suc}
use Rattle.trees.proofs.Down.{StandsIn}
use Rattle.trees.proofs.Halves.leaf_of.Given as goal

abbrev pub invariant-loop-at : goal.invariant-loop-at
invariant-loop-at l = StandsIn l.marks l.self.right l.route l.at l.shard l.depth × (l.shard < 2 ^ suc l.depth)

abbrev pub decreases-loop-at : goal.decreases-loop-at
decreases-loop-at l = 16 - l.depth

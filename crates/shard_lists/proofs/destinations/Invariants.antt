-- The destinations of the edges still to come, which start behind those of the edges before, are still to be put in.
use Rattle.std.proofs.Common.{◌≡◌, ◌≤◌, ◌*◌, take, drop}
use Rattle.lists.specs.Lists.{total, self, set_of}
use Rattle.entry.specs.Entry.{edges_of}
use Rattle.shard_lists.proofs.Gather.{Sofar}
use Rattle.shard_lists.proofs.Crossing.{claimed}
use Rattle.shard_lists.proofs.destinations.Given as goal

abbrev pub invariant-loop-i : goal.invariant-loop-i
invariant-loop-i l =
    (l.start ≡ total self (take l.i l.e.sizes))
    × (l.start ≤ 4 * l.i)
    × Sofar (set_of (claimed l.local.0 l.r.0 (edges_of l.e))) (claimed l.local.0 l.r.0 (drop l.i (edges_of l.e))) (4 * l.i) l.shards

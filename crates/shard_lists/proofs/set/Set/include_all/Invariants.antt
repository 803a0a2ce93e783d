-- With those still to come put in, the set is the one wanted.
use Rattle.std.proofs.Common.{◌+◌, drop}
use Rattle.lists.specs.Lists.{include_all, self as itself}
use Rattle.shard_lists.specs.Sets.{front}
use Rattle.shard_lists.proofs.Gather.{Sofar}
use Rattle.shard_lists.proofs.set.Set.include_all.Given as goal

abbrev pub invariant-loop-x : goal.invariant-loop-x
invariant-loop-x l = Sofar (include_all itself l.shards (front l.initial.self)) (drop l.x-index l.shards) (l.initial.self.shards.len + l.x-index) l.self

-- One more has room, and with it the numbers still rise.
use Rattle.std.proofs.Common.{arith}
use Rattle.lists.specs.Lists.{self}
use Rattle.lists.proofs.Order.{length-include, ascending-include}
use Rattle.shard_lists.specs.Sets.{front}
use Rattle.shard_lists.proofs.Gather.{front_length}
use Rattle.shard_lists.proofs.set.Set.include.Goals as goal

pub include-self-requires : goal.include-self-requires
include-self-requires c =
    let s = c.args.self.now in
    (omega (arith, s.shards.room, s.shards.size), s.rising, omega (arith, length-include self c.args.x.0 (front s), front_length s, s.shards.size, c.requires))

pub returns : goal.returns
returns c = record { holds = c.include-self.ensures.front }

pub invariant_of-self-3 : goal.invariant_of-self-3
invariant_of-self-3 c = record { rising = rw c.include-self.ensures.front (ascending-include self c.args.x.0 (front c.args.self.now) c.args.self.now.rising) }

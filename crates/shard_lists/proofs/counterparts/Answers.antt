-- A depth over 32 is refused first (`too_deep`, which the check is told of beside the function); else the trie says what it says for the depth.
use Rattle.std.proofs.Common.{arith, rules}
use Rattle.rules.specs.Numbers.{shard_for_route}
use Rattle.rules.specs.Readings.{depth_refusal}
use Rattle.shard_lists.proofs.Listed.{shallow}
use Rattle.shard_lists.proofs.counterparts.Goals as goal

pub returns : goal.returns
returns c =
    let d = c.args.depth in
    c.list_beyond.ensures (shard_for_route d) (λ route s q. search rules) (depth_refusal d) (shallow d (omega arith))

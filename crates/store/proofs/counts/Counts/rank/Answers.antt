-- The closure's test is the rules', of the count as they have it.
use Rattle.std.proofs.Common.{rules, tests}
use Rattle.lists.proofs.Loops.{rank_as}
use Rattle.store.specs.Counts.{is_under, plain_count}
use Rattle.store.proofs.counts.Counts.rank.Goals as goal

pub returns : goal.returns
returns c = rank_as _ plain_count (is_under c.args.shard.0) (λ d b q. search (rules, tests)) _ _ c.rank.ensures c.as_slice.ensures

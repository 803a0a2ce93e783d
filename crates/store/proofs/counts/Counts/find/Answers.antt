-- The closure's test is the rules', of the count as they have it.
use Rattle.std.proofs.Common.{rules, tests}
use Rattle.lists.proofs.Loops.{place_as}
use Rattle.store.specs.Counts.{is_of, plain_count}
use Rattle.store.proofs.counts.Counts.find.Goals as goal

pub returns : goal.returns
returns c = place_as _ plain_count (is_of c.args.shard.0) (λ d b q. search (rules, tests)) _ _ c.find.ensures c.as_slice.ensures

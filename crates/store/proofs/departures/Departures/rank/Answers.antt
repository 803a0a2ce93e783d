-- The closure's test is the rules', of the departure as they have it.
use Rattle.std.proofs.Common.{rules, tests}
use Rattle.lists.proofs.Loops.{rank_as}
use Rattle.store.specs.Departures.{is_under, plain_departure}
use Rattle.store.proofs.departures.Departures.rank.Goals as goal

pub returns : goal.returns
returns c = rank_as _ plain_departure (is_under c.args.shard.0) (λ d b q. search (rules, tests)) _ _ c.rank.ensures c.as_slice.ensures

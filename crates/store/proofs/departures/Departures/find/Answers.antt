-- The closure's test is the rules', of the departure as they have it.
use Rattle.std.proofs.Common.{rules, tests}
use Rattle.lists.proofs.Loops.{place_as}
use Rattle.store.specs.Departures.{is_of, plain_departure}
use Rattle.store.proofs.departures.Departures.find.Goals as goal

pub returns : goal.returns
returns c = place_as _ plain_departure (is_of c.args.shard.0) (λ d b q. search (rules, tests)) _ _ c.find.ensures c.as_slice.ensures

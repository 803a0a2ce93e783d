-- The shards gathered are written out.
use Rattle.std.proofs.Common.{rules, tests}
use Rattle.shard_lists.specs.Sets.{lacks_stamp}
use Rattle.shard_lists.proofs.OnFile.{lacking}
use Rattle.shard_lists.proofs.Listed.{of_departures}
use Rattle.shard_lists.proofs.unstamped_departures.Goals as goal

pub returns : goal.returns
returns c =
    let some = c.shards_of-shards.ensures.gathered lacks_stamp (λ d b q. lacking d.until b (search (rules, tests))) in
    of_departures c.args.ledger.now _ c.args.lent.now _ _ some c.list.ensures

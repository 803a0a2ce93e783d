-- The counts are those that the shard's adding to them leaves.
use Rattle.ledger.specs.Contents.{contents}
use Rattle.batches.proofs.Rebuilding.{recount}
use Rattle.batches.proofs.abandonment.count_rebuilt.Goals as goal

pub add-requires : goal.add-requires
unfolding contents
add-requires c = c.requires.room

pub returns : goal.returns
returns c = recount c.args.ledger.now c.args.shard.0 c.args.n c.requires _ c.add.ensures _

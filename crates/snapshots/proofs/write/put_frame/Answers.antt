-- The five words.
use Rattle.ledger.specs.Contents.{contents}
use Rattle.lists.proofs.Held.{mapped-length}
use Rattle.store.specs.Counts.{plain_count}
use Rattle.snapshots.proofs.write.put_frame.Goals as goal

pub returns : goal.returns
unfolding contents
returns c = let a = c.args.ledger.now in rw (mapped-length a.counts.front plain_count) c.put.ensures

-- The two words.
use Rattle.ledger.specs.Contents.{contents}
use Rattle.ledger.proofs.Places.{entries-length}
use Rattle.store.proofs.Filed.{file-length}
use Rattle.snapshots.proofs.write.put_sizes.Goals as goal

pub returns : goal.returns
unfolding contents
returns c = let a = c.args.ledger.now in rw (entries-length a c.requires.0, file-length a.departures) c.put.ensures

-- The pairs are written out, one of each count.
use Rattle.std.proofs.Common.{◌∙◌, refl}
use Rattle.rules.specs.Snapshot.{count_words}
use Rattle.store.specs.Counts.{counts_in}
use Rattle.store.proofs.Filed.{counts-length}
use Rattle.ledger.specs.Contents.{contents}
use Rattle.readings.proofs.Written.{reads_list}
use Rattle.shard_lists.proofs.rebuilt_by_shard.Goals as goal

pub returns : goal.returns
unfolding contents
returns c =
    let x = c.args.ledger.now.counts in
    reads_list count_words (counts_in x) _ 0 c.args.lent.now _ _ refl
    (rw (counts-length x) (rw (c.as_slice.ensures ∙ c.pairs-pairs.ensures) at c.list.ensures))

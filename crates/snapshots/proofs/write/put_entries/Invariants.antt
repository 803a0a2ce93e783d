-- The entries put down and those still to come are all of them.
use Rattle.std.proofs.Common.{drop}
use Rattle.lists.specs.Lists.{concat_map}
use Rattle.rules.specs.Snapshot.{entry_words}
use Rattle.ledger.specs.Contents.{entries_of}
use Rattle.snapshots.proofs.Putting.{Going}
use Rattle.snapshots.proofs.write.put_entries.Given as goal

abbrev pub invariant-loop-slot : goal.invariant-loop-slot
invariant-loop-slot l = Going (concat_map entry_words (entries_of l.ledger)) l.initial.words l.at (concat_map entry_words (drop l.slot-index (entries_of l.ledger))) l.words l.end

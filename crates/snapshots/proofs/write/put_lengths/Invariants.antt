-- The lengths put down and those still to come are all of them.
use Rattle.std.proofs.Common.{drop}
use Rattle.ledger.specs.Contents.{entries_of}
use Rattle.snapshots.specs.Put.{entry_lengths}
use Rattle.snapshots.proofs.Putting.{Going}
use Rattle.snapshots.proofs.write.put_lengths.Given as goal

abbrev pub invariant-loop-slot : goal.invariant-loop-slot
invariant-loop-slot l = Going (entry_lengths (entries_of l.ledger)) l.initial.words l.at (entry_lengths (drop l.slot-index (entries_of l.ledger))) l.words l.end

-- The words counted, with those of the entries still to come, are all of them.
use Rattle.std.proofs.Common.{◌≡◌, ◌≤◌, ◌+◌, ◌*◌, drop, length}
use Rattle.lists.specs.Lists.{concat_map}
use Rattle.rules.specs.Widths.{entry_room}
use Rattle.rules.specs.Snapshot.{entry_words}
use Rattle.ledger.specs.Contents.{entries_of}
use Rattle.snapshots.proofs.write.entries_length.Given as goal

abbrev pub invariant-loop-slot : goal.invariant-loop-slot
invariant-loop-slot l =
    (l.n + length (concat_map entry_words (drop l.slot-index (entries_of l.ledger))) ≡ length (concat_map entry_words (entries_of l.ledger)))
    × (l.n ≤ entry_room * l.slot-index)

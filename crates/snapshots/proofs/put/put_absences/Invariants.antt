-- The absences put down and those still to come are all of them.
use Rattle.std.proofs.Common.{drop}
use Rattle.lists.specs.Lists.{concat_map}
use Rattle.rules.specs.Snapshot.{absence_words}
use Rattle.entry.specs.Entry.{absences_of}
use Rattle.snapshots.proofs.Putting.{Going}
use Rattle.snapshots.proofs.put.put_absences.Given as goal

abbrev pub invariant-loop-a : goal.invariant-loop-a
invariant-loop-a l = Going (concat_map absence_words (absences_of l.e)) l.initial.words l.at (concat_map absence_words (drop l.a-index (absences_of l.e))) l.words l.end

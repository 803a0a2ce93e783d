-- Those at the front are the first of them.
use Rattle.std.proofs.Common.{◌≡◌, drop, map}
use Rattle.lists.specs.Lists.{rows}
use Rattle.lists.specs.Front.{held}
use Rattle.rules.specs.Snapshot.{absence_in}
use Rattle.entry.specs.Entry.{plain_absence}
use Rattle.snapshots.proofs.history.absences_in.Given as goal

abbrev pub invariant-loop-i : goal.invariant-loop-i
invariant-loop-i l = (l.absences.len ≡ l.i) × (map plain_absence (held l.absences) ≡ map absence_in (rows 2 l.i (drop 5 l.words)))

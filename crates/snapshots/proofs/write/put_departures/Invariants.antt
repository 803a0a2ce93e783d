-- The departures put down and those still to come are all of them.
use Rattle.std.proofs.Common.{drop}
use Rattle.lists.specs.Lists.{concat_map}
use Rattle.rules.specs.Snapshot.{departure_words}
use Rattle.store.specs.Departures.{on_file}
use Rattle.snapshots.proofs.Putting.{Going}
use Rattle.snapshots.proofs.write.put_departures.Given as goal

abbrev pub invariant-loop-d : goal.invariant-loop-d
invariant-loop-d l = Going (concat_map departure_words (on_file l.departures)) l.initial.words l.at (concat_map departure_words (drop l.d-index (on_file l.departures))) l.words l.end

-- Those on file and those still to come are all of them.
use Rattle.lists.specs.Lists.{rows}
use Rattle.lists.proofs.Coming.{Coming}
use Rattle.rules.specs.Plain.{shard_of}
use Rattle.rules.specs.Snapshot.{departure_in, departure_sound}
use Rattle.store.specs.Departures.{on_file}
use Rattle.snapshots.proofs.departures.file_all.Given as goal

abbrev pub invariant-loop-i : goal.invariant-loop-i
invariant-loop-i l = Coming shard_of departure_sound departure_in (rows 4 l.count l.words) (on_file l.departures) l.i

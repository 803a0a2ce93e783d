-- Those put in and those still to come are all of them.
use Rattle.lists.specs.Lists.{rows}
use Rattle.lists.proofs.Coming.{Coming}
use Rattle.rules.specs.Plain.{counted_shard}
use Rattle.rules.specs.Snapshot.{count_in, count_sound}
use Rattle.store.specs.Counts.{counts_in}
use Rattle.snapshots.proofs.counts.count_all.Given as goal

abbrev pub invariant-loop-i : goal.invariant-loop-i
invariant-loop-i l = Coming counted_shard count_sound count_in (rows 2 l.count l.words) (counts_in l.counts) l.i

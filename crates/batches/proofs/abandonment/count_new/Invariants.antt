-- What is counted, and the distinct ones still to come that neither the roster nor an earlier group has, are all.
use Rattle.std.proofs.Common.{◌≡◌, ◌≤◌, ◌+◌, length}
use Rattle.store.specs.Roster.{keys_of}
use Rattle.batches.specs.Abandoned.{transactions, new_to}
use Rattle.batches.proofs.Counting.{to_come}
use Rattle.batches.proofs.abandonment.count_new.Given as goal

abbrev pub invariant-loop-i : goal.invariant-loop-i
invariant-loop-i l =
    let ts = transactions l.groups.words.now in
    (l.count ≤ l.i) × (l.count + to_come (keys_of l.roster) ts l.i ≡ length (new_to (keys_of l.roster) ts))

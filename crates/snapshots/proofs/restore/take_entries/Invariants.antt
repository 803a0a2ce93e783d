-- The entries taken in and those still to come are all of them, and the ledger is otherwise as it was.
use Rattle.snapshots.proofs.Taking.{Taking}
use Rattle.snapshots.proofs.restore.take_entries.Given as goal

abbrev pub invariant-loop-n : goal.invariant-loop-n
invariant-loop-n l = Taking l.lengths l.joined l.initial.ledger l.rest l.ledger l.n-index

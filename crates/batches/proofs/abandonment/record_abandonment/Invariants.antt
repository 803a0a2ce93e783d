-- The groups still to come do to the ledger in hand what all groups do to the one handed in.
use Rattle.batches.proofs.Rebuilding.{Rebuilding}
use Rattle.batches.proofs.abandonment.record_abandonment.Given as goal

abbrev pub invariant-loop-i : goal.invariant-loop-i
invariant-loop-i l = Rebuilding l.fn.ledger l.groups.words.now l.ledger l.at l.rebuilt l.i

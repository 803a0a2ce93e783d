-- The lines still to come do to the ledger in hand what all lines do to the one handed in.
use Rattle.batches.proofs.Resolving.{Resolving}
use Rattle.batches.proofs.finalization.release_resolved.Given as goal

abbrev pub invariant-loop-i : goal.invariant-loop-i
invariant-loop-i l = Resolving l.fn.ledger l.finalization.words.now l.ledger l.released l.i

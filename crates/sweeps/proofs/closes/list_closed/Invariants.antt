-- What is written and what is still to come is what the whole gives.
use Rattle.sweeps.proofs.Listing.{Listing}
use Rattle.sweeps.proofs.closes.list_closed.Given as goal

abbrev pub invariant-loop-i : goal.invariant-loop-i
invariant-loop-i l = Listing l.ledger l.stay l.initial.lent l.lent l.at l.i

-- The entries before i are judged.
use Rattle.sweeps.proofs.Listing.{Judging}
use Rattle.sweeps.proofs.closes.Closing.of.Given as goal

abbrev pub invariant-loop-i : goal.invariant-loop-i
invariant-loop-i l = Judging l.ledger l.c.stay l.c.count l.i

-- The entries before i are judged by the rules; those still to come are judged by them too.
use Rattle.sweeps.proofs.Reporting.{JudgingIn}
use Rattle.sweeps.proofs.prune.Pruning.of.Given as goal

abbrev pub invariant-loop-i : goal.invariant-loop-i
invariant-loop-i l = JudgingIn l.ledger l.time.0 l.p l.i

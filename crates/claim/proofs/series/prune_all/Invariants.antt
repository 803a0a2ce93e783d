-- Where the prunes stand after the first i clocks.
use Rattle.ledger.specs.Contents.{contents}
use Rattle.claim.proofs.Pruning.{Going}
use Rattle.claim.proofs.series.prune_all.Given as goal

abbrev pub invariant-loop-i : goal.invariant-loop-i
invariant-loop-i l =
    Going l.clocks (contents l.initial.ledger) l.initial.reports l.reports l.initial.counts l.counts l.ledger l.between l.fallen l.written l.i l.k

-- The items of the kind that are still to come do to the ledger in hand what all of them do to the one handed in.
use Rattle.ledger.specs.Contents.{contents}
use Rattle.bundles.proofs.Going.{Going}
use Rattle.bundles.proofs.items.Given as goal

abbrev pub invariant-loop-i : goal.invariant-loop-i
invariant-loop-i l = Going l.kind l.bundle.words.now (contents l.fn.ledger) l.ledger l.at l.count l.i

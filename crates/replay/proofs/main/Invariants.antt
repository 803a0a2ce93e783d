-- `replay::main`: The ledger in hand is in order.
use Rattle.ledger.specs.Contents.{Held}
use Rattle.replay.proofs.main.Given as goal

abbrev pub invariant-loop-at : goal.invariant-loop-at
invariant-loop-at l = Held l.ledger

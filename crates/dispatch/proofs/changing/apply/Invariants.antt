-- `apply` meets its contract: each arm makes the call of its kind, and a turn goes on from the one before.
-- Assumes nothing.
use lib.ListN.{length}
use Rattle.ledger.specs.Meets.{saying}
use Rattle.dispatch.specs.Changing.{call_of}
use Rattle.dispatch.proofs.Turns.{Going}
use Rattle.dispatch.proofs.changing.apply.Given as goal

abbrev pub invariant-loop-i : goal.invariant-loop-i
invariant-loop-i l =
    Going l.blank (call_of l.kind l.words (length l.initial.lent)) l.initial.ledger l.initial.lent l.lent (saying l.said l.ledger) l.i

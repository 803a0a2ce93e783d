-- The record is marked in its entry's slot where the roster has the transaction.
use Rattle.types.specs.Transactions.{number_of}
use Rattle.ledger.specs.Contents.{contents}
use Rattle.ledger.proofs.Places.{owed_in}
use Rattle.calls.proofs.Single.{mark_unknown, mark_owed}
use Rattle.calls.proofs.settlement.mark.Goals as goal

pub returns-in_default : goal.returns-in_default
returns-in_default c = mark_unknown c.args.ledger.now c.requires (number_of c.args.tx) c.args.r.0 c.args.is_return (rw c.in_default.is at c.slot_of.ensures)

pub mark-requires : goal.mark-requires
unfolding contents
mark-requires c = (owed_in c.args.ledger.now c.requires (number_of c.args.tx) c.in-Some.slot (rw c.in-Some.is at c.slot_of.ensures)).good _

pub returns : goal.returns
returns c =
    mark_owed c.args.ledger.now c.requires (number_of c.args.tx) c.args.r.0 c.args.is_return c.in-Some.slot (rw c.in-Some.is at c.slot_of.ensures) _ _ c.mark.ensures _

-- The routes are written out as they lie in the entry; a transaction not owed has none.
use Rattle.std.proofs.Common.{refl, get_or}
use Rattle.rules.specs.Plain as plain
use Rattle.types.specs.Transactions.{number_of}
use Rattle.entry.specs.Entry.{plain_entry}
use Rattle.ledger.proofs.Places.{owed_in}
use Rattle.shard_lists.proofs.Listed.{routes-room, not-owed, of_owed}
use Rattle.shard_lists.proofs.reach.Goals as goal

pub returns-in_default : goal.returns-in_default
returns-in_default c =
    not-owed c.args.ledger.now c.requires (number_of c.args.tx) c.args.lent.now (λ (e : plain.Entry). e.terms.routes) 0 refl (rw c.in_default.is at c.slot_of.ensures)

pub returns : goal.returns
unfolding plain_entry
returns c =
    let there = owed_in c.args.ledger.now c.requires (number_of c.args.tx) c.in-Some.slot (rw c.in-Some.is at c.slot_of.ensures) in
    of_owed c.args.ledger.now c.requires (number_of c.args.tx) c.args.lent.now (λ (e : plain.Entry). e.terms.routes) 0 refl c.in-Some.slot _ _ _ _ _
    there (routes-room (get_or c.args.ledger.now.entries c.in-Some.slot c.index-ledger-slot.result)) refl c.list.ensures

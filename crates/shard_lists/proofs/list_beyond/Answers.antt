-- The shards gathered are written out, and a transaction not owed has none.
use Rattle.types.specs.Transactions.{number_of}
use Rattle.ledger.proofs.Places.{owed_in}
use Rattle.shard_lists.proofs.Listed.{no_counterparts, of_counterparts}
use Rattle.shard_lists.proofs.list_beyond.Goals as goal

pub returns-in_default : goal.returns-in_default
returns-in_default g c = λ f says m z.
    no_counterparts c.args.ledger.now c.requires.held (number_of c.args.tx) c.args.lent.now f m z (rw c.in_default.is at c.slot_of.ensures)

pub returns : goal.returns
returns g c = λ f says m z.
    let there = owed_in c.args.ledger.now c.requires.held (number_of c.args.tx) c.in-Some.slot (rw c.in-Some.is at c.slot_of.ensures) in
    of_counterparts c.args.ledger.now c.requires.held (number_of c.args.tx) c.args.lent.now f m z c.in-Some.slot _ _ _ _ there (c.beyond-shards.ensures f says) c.list.ensures

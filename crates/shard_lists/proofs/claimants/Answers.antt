-- The destinations gathered are written out; a transaction not owed has none.
use Rattle.std.proofs.Common.{refl}
use Rattle.rules.specs.Readings.{claimants, claimants_of}
use Rattle.types.specs.Transactions.{number_of}
use Rattle.ledger.specs.Contents.{contents}
use Rattle.ledger.proofs.Places.{owed_in}
use Rattle.shard_lists.proofs.Listed.{set_room, not-owed, of_owed}
use Rattle.shard_lists.proofs.claimants.Goals as goal

pub returns-in_default : goal.returns-in_default
unfolding claimants contents
returns-in_default c =
    let a = c.args in
    not-owed a.ledger.now c.requires (number_of a.tx) a.lent.now (claimants_of a.ledger.now.local.0 a.r.0) 0 refl (rw c.in_default.is at c.slot_of.ensures)

pub returns : goal.returns
unfolding claimants contents
returns c =
    let a = c.args in
    let d = c.destinations-shards.ensures in
    of_owed a.ledger.now c.requires (number_of a.tx) a.lent.now (claimants_of a.ledger.now.local.0 a.r.0) 0 refl c.in-Some.slot _ _ _ _ _
    (owed_in a.ledger.now c.requires (number_of a.tx) c.in-Some.slot (rw c.in-Some.is at c.slot_of.ensures)) (set_room c.destinations-shards.result) d.holds c.list.ensures

-- The entry is put in at its rank, and its pairs with it.
use Rattle.std.proofs.Common.{arith}
use Rattle.std.proofs.Math.Seq.{length-take-le}
use Rattle.lists.proofs.Loops.{rank_le}
use Rattle.types.specs.Transactions.{number_of}
use Rattle.store.specs.Roster.{keys_of, below}
use Rattle.store.proofs.Rosters.{free_slot_lem}
use Rattle.calls.proofs.Admitting.{free, nameable, enters_in}
use Rattle.calls.proofs.admission.take_in.Goals as goal

pub bounds-ledger-ledger : goal.bounds-ledger-ledger
bounds-ledger-ledger c = free c.args.ledger.now c.args.e.now c.requires

pub bounds-ledger-slot : goal.bounds-ledger-slot
bounds-ledger-slot c = (free_slot_lem c.args.ledger.now.roster (free c.args.ledger.now c.args.e.now c.requires)).0

pub insert_at-requires : goal.insert_at-requires
insert_at-requires c =
    let k = c.args.ledger.now.roster in (
      omega (arith, c.rank-k.ensures, rank_le (below (number_of c.args.e.now.tx)) (keys_of k), length-take-le k.len k.keys (omega (arith, k.room, k.lengths.0))),
      free c.args.ledger.now c.args.e.now c.requires,
    )

pub name_issued-requires : goal.name_issued-requires
name_issued-requires c = nameable c.args.ledger.now c.args.e.now c.requires

pub returns : goal.returns
returns c =
    enters_in c.args.ledger.now c.args.e.now c.requires
    c.rank-k.result c.rank-k.ensures _ c.insert_at.ensures _ c.name_issued.ensures _

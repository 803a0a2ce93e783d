-- A turn leaves one line less to come, and writes it where the transaction stays no longer.
use Rattle.std.proofs.Common.{arith}
use Rattle.entry.specs.Entry.{plain_entry}
use Rattle.sweeps.proofs.Listing.{list_none, list_one, list_room}
use Rattle.sweeps.proofs.closes.list_closed.Goals as goal
use Rattle.sweeps.proofs.closes.list_closed.Goals.{then-not-stay-i, else-not-stay-i}

pub put_item-requires : goal.put_item-requires
put_item-requires c =
    let l = c.loop-i in
    let more = list_room c.args.ledger.now c.requires.held c.args.stay.now _ _ _ _ l.invariant (omega arith) c.loop-i-test.true c.if-not-stay-i.true in
    omega (arith, more, l.invariant.same, c.requires.room)

pub loop-i-preserved : goal.loop-i-preserved
unfolding plain_entry
loop-i-preserved c =
    let l = c.loop-i in
    let a = c.args in
    elim c.if-not-stay-i.branch [
      | then-not-stay-i w ↦ rw (w.lent-is, w.at-is) (list_one a.ledger.now c.requires.held _ _ _ _ _ l.invariant (omega arith) (omega arith) _ w.decision.result _ w.if-not-stay-i.true w.put_item.ensures w.decision.ensures)
      | else-not-stay-i w ↦ rw (w.lent-is, w.at-is) (list_none a.ledger.now c.requires.held _ _ _ _ _ l.invariant (omega arith) (omega arith) w.if-not-stay-i.false)
    ]

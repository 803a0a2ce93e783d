-- Those that the judgement does not keep are listed, let go and taken out of the index, if there is room for the list.
use Rattle.std.proofs.Common.{arith}
use Rattle.sweeps.proofs.Listing.{count-few, listed-length, closes_short, closes-done}
use Rattle.sweeps.proofs.closes.closes.Goals as goal

pub overflow_mul-c : goal.overflow_mul-c
overflow_mul-c c = omega (arith, count-few c.args.ledger.now c.requires c.args.lent.now c.of-c.result c.of-c.ensures)

pub returns-then-lent-c : goal.returns-then-lent-c
returns-then-lent-c c = closes_short c.args.ledger.now c.requires c.args.lent.now c.of-c.result c.of-c.ensures c.if-lent-c.true

pub list_closed-requires : goal.list_closed-requires
list_closed-requires c =
    record { held = c.requires; room = omega (arith, listed-length c.args.ledger.now c.requires c.args.lent.now c.of-c.result c.of-c.ensures, c.if-lent-c.false) }

pub returns : goal.returns
returns c =
    closes-done c.args.ledger.now c.requires c.args.lent.now c.of-c.result c.of-c.ensures c.if-lent-c.false
    c.retain-ledger.result c.retain-ledger.ensures c.without_dropped-ledger.result c.without_dropped-ledger.ensures _ c.list_closed.ensures _

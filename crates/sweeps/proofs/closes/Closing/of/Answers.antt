-- A turn judges one entry.
use Rattle.sweeps.proofs.Listing.{judge_next}
use Rattle.sweeps.proofs.closes.Closing.of.Goals as goal

pub loop-i-preserved : goal.loop-i-preserved
loop-i-preserved c =
    let l = c.loop-i in
    rw c.from.ensures
    (judge_next c.args.ledger.now c.requires l.c.stay l.c.count l.i l.invariant c.loop-i-test.true _ c.is_closed-closed.result c.is_closed-closed.ensures)

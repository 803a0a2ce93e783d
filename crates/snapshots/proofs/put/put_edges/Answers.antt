-- The arrays one behind the other.
use Rattle.snapshots.proofs.Fields.{edges-are}
use Rattle.snapshots.proofs.Putting.{both}
use Rattle.snapshots.proofs.put.put_edges.Goals as goal

pub returns : goal.returns
returns c =
    rw (← edges-are c.args.e.now)
    (both c.put-at.ensures (both c.put-at-2.ensures (both c.put_bytes-at.ensures (both c.put_bytes-at-2.ensures (rw c.total.ensures.0 at c.put.ensures)))))

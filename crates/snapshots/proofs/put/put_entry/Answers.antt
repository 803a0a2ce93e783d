-- The head, routes, core, edges and the history.
use Rattle.std.proofs.Common.{arith}
use Rattle.rules.specs.Snapshot.{entry_words}
use Rattle.entry.specs.Entry.{plain_entry}
use Rattle.snapshots.proofs.Fields.{routes-length, core-length, edges-length}
use Rattle.snapshots.proofs.Putting.{both}
use Rattle.snapshots.proofs.put.put_entry.Goals as goal

pub put_history-requires : goal.put_history-requires
put_history-requires c =
    let e = c.args.e.now in
    omega (arith, c.requires, c.put_edges-at.ensures, edges-length e, c.put-at-2.ensures, core-length e, c.put-at.ensures, routes-length e, c.put_head-at.ensures)

pub returns : goal.returns
unfolding entry_words plain_entry
returns c = both (both c.put_head-at.ensures (both c.put-at.ensures (both c.put-at-2.ensures c.put_edges-at.ensures))) c.put_history.ensures

-- The copy is the row put down.
use Rattle.std.proofs.Common.{arith}
use Rattle.snapshots.proofs.Putting.{copied}
use Rattle.snapshots.proofs.put.put.Goals as goal

pub returns : goal.returns
returns c = copied c.args.words.now _ c.args.row.now c.args.at _ c.copy_from_slice.ensures.after c.requires (omega arith)

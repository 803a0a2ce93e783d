-- The bytes put down and those still to come are the row.
use Rattle.std.proofs.Common.{drop}
use Rattle.snapshots.proofs.Putting.{Going}
use Rattle.snapshots.proofs.put.put_bytes.Given as goal

abbrev pub invariant-loop-byte : goal.invariant-loop-byte
invariant-loop-byte l = Going l.row l.initial.words l.at (drop l.byte-index l.row) l.words l.end

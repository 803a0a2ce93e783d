-- The frame, the counts, the lengths, the entries, the departures.
use Rattle.std.proofs.Common.{arith}
use Rattle.snapshots.proofs.Writing.{snapshot-size}
use Rattle.snapshots.proofs.write.snapshot_length.Goals as goal

pub returns : goal.returns
returns c =
    let a = c.args.ledger.now in (
      omega (arith, snapshot-size a c.requires, c.entries_length.ensures.0),
      omega (arith, c.entries_length.ensures.1, a.roster.room, a.departures.front.room, a.counts.front.room),
    )

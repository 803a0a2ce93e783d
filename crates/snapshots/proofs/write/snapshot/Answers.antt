-- The six parts one behind the other are the snapshot.
use Rattle.std.proofs.Common.{arith}
use Rattle.rules.specs.Snapshot.{snapshot_words}
use Rattle.ledger.specs.Contents.{contents}
use Rattle.snapshots.proofs.Putting.{both}
use Rattle.snapshots.proofs.Writing.{snapshot-size, counts-size, lengths-length, written_out, not_written}
use Rattle.snapshots.proofs.write.snapshot.Goals as goal

pub returns-then-lent-n : goal.returns-then-lent-n
returns-then-lent-n c = let p = contents c.args.ledger.now in not_written (snapshot_words p) c.args.lent.now p _ c.snapshot_length-n.ensures.0 (omega arith)

pub put_frame-at-requires : goal.put_frame-at-requires
put_frame-at-requires c = (c.requires, omega (arith, snapshot-size c.args.ledger.now c.requires, c.snapshot_length-n.ensures.0))

pub put_counts-at-requires : goal.put_counts-at-requires
put_counts-at-requires c = omega (arith, snapshot-size c.args.ledger.now c.requires, c.snapshot_length-n.ensures.0, c.put_frame-at.ensures)

pub put_sizes-at-requires : goal.put_sizes-at-requires
put_sizes-at-requires c =
    (c.requires, omega (arith, snapshot-size c.args.ledger.now c.requires, c.snapshot_length-n.ensures.0, c.put_frame-at.ensures, c.put_counts-at.ensures, counts-size c.args.ledger.now.counts))

pub put_lengths-at-requires : goal.put_lengths-at-requires
put_lengths-at-requires c =
    (c.requires, omega (arith, snapshot-size c.args.ledger.now c.requires, c.snapshot_length-n.ensures.0, c.put_frame-at.ensures, c.put_counts-at.ensures, counts-size c.args.ledger.now.counts, c.put_sizes-at.ensures))

pub put_entries-at-requires : goal.put_entries-at-requires
unfolding contents
put_entries-at-requires c = (
  c.requires,
  omega (
    arith,
    snapshot-size c.args.ledger.now c.requires,
    c.snapshot_length-n.ensures.0,
    c.put_frame-at.ensures,
    c.put_counts-at.ensures,
    counts-size c.args.ledger.now.counts,
    c.put_sizes-at.ensures,
    c.put_lengths-at.ensures,
    lengths-length c.args.ledger.now c.requires,
  ),
)

pub put_departures-requires : goal.put_departures-requires
unfolding contents
put_departures-requires c =
    omega (
      arith,
      snapshot-size c.args.ledger.now c.requires,
      c.snapshot_length-n.ensures.0,
      c.put_frame-at.ensures,
      c.put_counts-at.ensures,
      counts-size c.args.ledger.now.counts,
      c.put_sizes-at.ensures,
      c.put_lengths-at.ensures,
      lengths-length c.args.ledger.now c.requires,
      c.put_entries-at.ensures,
    )

pub returns : goal.returns
unfolding snapshot_words contents
returns c =
    let p = contents c.args.ledger.now in
    written_out (snapshot_words p) c.args.lent.now p _ _ _
    (both c.put_frame-at.ensures
    (both c.put_counts-at.ensures
    (both c.put_sizes-at.ensures
    (both c.put_lengths-at.ensures (both c.put_entries-at.ensures c.put_departures.ensures)))))
    c.snapshot_length-n.ensures.0 (omega arith)

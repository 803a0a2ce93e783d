-- The pairs are one row.
use Rattle.std.proofs.Common.{◌∙◌, ap, arith, length}
use Rattle.snapshots.proofs.Writing.{counts-size}
use Rattle.snapshots.proofs.write.put_counts.Goals as goal

pub put-requires : goal.put-requires
put-requires c = omega (arith, c.requires, counts-size c.args.counts.now, ap length (c.as_slice.ensures ∙ c.pairs-pairs.ensures))

pub returns : goal.returns
returns c = rw (c.as_slice.ensures ∙ c.pairs-pairs.ensures) at c.put.ensures

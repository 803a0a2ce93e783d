-- A making on no shard is refused.
use Rattle.snapshots.proofs.Restoring.{refused-made}
use Rattle.snapshots.proofs.restore.refused.Goals as goal

pub returns : goal.returns
returns c = refused-made c.args.refusal c.new-made.result c.new-made.ensures

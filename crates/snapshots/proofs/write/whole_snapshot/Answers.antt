-- 5,959 words hold every snapshot, so the reading is not refused.
use Rattle.snapshots.proofs.Whole.{whole}
use Rattle.snapshots.proofs.write.whole_snapshot.Goals as goal

pub returns : goal.returns
returns c = whole _ _ _ _ _ c.requires c.told-words c.snapshot.ensures c.unwrap_or.ensures

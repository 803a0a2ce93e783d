-- The number is the sum of the counts.
use Rattle.ledger.specs.Contents.{contents}
use Rattle.readings.proofs.Looked.{tells}
use Rattle.readings.proofs.lookups.rebuilt.Goals as goal

pub returns : goal.returns
unfolding contents
returns c = tells _ _ _ c.sum.ensures

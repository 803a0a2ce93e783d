-- The number is the one held.
use Rattle.std.proofs.Common.{refl}
use Rattle.ledger.specs.Contents.{contents}
use Rattle.readings.proofs.Looked.{tells}
use Rattle.readings.proofs.lookups.local.Goals as goal

pub returns : goal.returns
unfolding contents
returns c = tells _ _ _ refl

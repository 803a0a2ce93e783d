-- `script::parts::call_in`: What stands behind the name is within bounds, as the grammar says.
-- Assumes nothing.
use Rattle.script.proofs.Grammar.{small}
use Rattle.script.proofs.parts.call_in.Goals as goal

pub checked-requires : goal.checked-requires
checked-requires c = small _ _ c.in_ok-tail.ensures.value

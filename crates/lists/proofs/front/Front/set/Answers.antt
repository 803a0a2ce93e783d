-- The place is within the front.
use lib.Seq.{take-set-lt}
use Rattle.lists.proofs.front.Front.set.Goals as goal

pub returns-clause-list : goal.returns-clause-list
returns-clause-list g c = take-set-lt _ _ _ _ c.requires

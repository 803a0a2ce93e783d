-- Each part is empty.
use Rattle.calls.proofs.Empties.{fresh}
use Rattle.calls.proofs.making.empty.Goals as goal

pub returns : goal.returns
returns c = fresh _ c.new.ensures c.new-2.ensures c.new-3.ensures c.new-4.ensures

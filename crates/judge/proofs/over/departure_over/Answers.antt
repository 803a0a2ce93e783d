-- The three steps in turn.
use Rattle.judge.proofs.Leaving.{in_turn}
use Rattle.judge.proofs.over.departure_over.Goals as goal

pub returns : goal.returns
returns c =
    in_turn c.args.view.now c.args.route c.args.anchor.0 c.owners-owning.result c.cuts_after-after.result c.smallest_cut.result c.owners-owning.ensures
    c.cuts_after-after.ensures c.smallest_cut.ensures

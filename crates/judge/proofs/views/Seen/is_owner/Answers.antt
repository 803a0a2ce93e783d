-- One shift tells whether the shard owns the route.
use Rattle.judge.proofs.Seeing.{owned_by}
use Rattle.judge.proofs.views.Seen.is_owner.Goals as goal

pub returns : goal.returns
returns c = let x = c.args.self in rw c.led.ensures (owned_by c.args.route x.shard.0 x.zeros x.real x.topped)

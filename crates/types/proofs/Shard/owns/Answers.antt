-- Shifted by what is not depth, the route led by a one bit is the shard of that depth for the route.
use Rattle.std.proofs.Common.{◌-◌, arith}
use Rattle.rules.specs.Numbers.{depth}
use Rattle.rules.proofs.Depth.{depth-within}
use Rattle.types.proofs.Bits.{depth-small, owned-at, owned-zero}
use Rattle.types.proofs.Shard.owns.Goals as goal

pub returns-then-self-eq0 : goal.returns-then-self-eq0
returns-then-self-eq0 c = rw c.if-self-eq0.true (owned-zero c.args.route (omega (arith, c.ranges.route.fits)))

pub overflow_sub-result : goal.overflow_sub-result
overflow_sub-result c = omega (arith, c.depth.ensures, depth-small c.args.self.0)

pub returns-else-self-eq0 : goal.returns-else-self-eq0
returns-else-self-eq0 c =
    let n = c.args.self.0 in
    rw (c.led.ensures, c.depth.ensures) (owned-at n c.args.route (63 - depth n) (omega (arith, depth-small n)) (depth-within n (omega (arith, c.if-self-eq0.false))))

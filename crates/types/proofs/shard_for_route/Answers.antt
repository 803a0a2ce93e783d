-- The route led by a one bit, cut to the depth.
use Rattle.std.proofs.Common.{◌-◌, ◌/◌, ◌^◌, ap, ◌∙◌, arith, leb-true}
use Rattle.types.proofs.Bits.{led}
use Rattle.types.proofs.shard_for_route.Goals as goal

pub returns : goal.returns
returns c =
    let d = c.args.d in
    ap (λ l. l / 2 ^ (63 - d)) c.led.ensures ∙ led d (63 - d) c.args.route (omega (arith, leb-true d 32 c.requires))

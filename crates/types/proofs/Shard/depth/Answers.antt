-- The depth is 63 less the leading zeros, where these are counted of 1 in place of 0, and 32 at most.
use Rattle.std.proofs.Common.{◌-◌, min, ◌∙◌, arith, ap}
use lib.Count.{count_leading_zeros}
use Rattle.types.proofs.Bits.{depth-by}
use Rattle.types.proofs.Shard.depth.Goals as goal

pub returns : goal.returns
returns c = c.min.ensures ∙ ap (λ m. min (63 - count_leading_zeros 64 m) 32) c.max.ensures ∙ depth-by c.args.self.0 (omega (arith, c.well_formed))

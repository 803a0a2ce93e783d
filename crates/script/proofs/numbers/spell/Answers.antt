-- `script::numbers::spell`: A digit of several and the first digit of all are a law each.
-- Assumes nothing.
use Rattle.std.proofs.Common.{arith, refl, ◌≤◌}
use Rattle.script.proofs.Digits.{places, tenth, more, last}
use Rattle.script.proofs.numbers.spell.Goals as goal

pub loop-rest-preserved : goal.loop-rest-preserved
loop-rest-preserved c =
    let k : 2 ≤ c.loop-rest.at = places _ _ (omega arith) c.loop-rest.invariant.2 in (
      omega arith,
      omega arith,
      tenth _ _ c.loop-rest.invariant.0 c.loop-rest.invariant.2,
      more _ _ _ _ _ c.loop-rest.invariant.0 (omega arith) (omega arith) refl c.loop-rest.invariant.3,
    )

pub returns : goal.returns
returns c = (omega arith, last _ _ _ _ _ c.loop-rest.invariant.0 (omega arith) (omega arith) refl c.loop-rest.invariant.3)

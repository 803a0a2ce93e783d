-- `script::numbers::spell`: The invariant: the digits of what is left, before the digits put, are those of the whole; what is left is below 10 to the places left.
-- Assumes nothing.
use Rattle.std.proofs.Common.{◌≡◌, ◌^◌, ◌≤◌, ◌<◌, ◌++◌, drop}
use Rattle.script.specs.Decimal.{spelled}
use Rattle.script.proofs.numbers.spell.Given as goal

abbrev pub invariant-loop-rest : goal.invariant-loop-rest
invariant-loop-rest l = (1 ≤ l.at) × (l.at ≤ 20) × (l.rest < 10 ^ l.at) × (spelled l.at l.rest ++ drop l.at l.out ≡ spelled 20 l.n)

abbrev pub decreases-loop-rest : goal.decreases-loop-rest
decreases-loop-rest l = l.at

-- The clocks still to come are steady from the last one on exactly if all are.
use Rattle.std.proofs.Common.{◌≡◌, drop}
use Rattle.claim.specs.Series.{steady}
use Rattle.claim.proofs.series.is_nondecreasing.Given as goal

abbrev pub invariant-loop-clock : goal.invariant-loop-clock
invariant-loop-clock l = steady l.last (drop l.clock-index l.clocks) ≡ steady 0 l.clocks

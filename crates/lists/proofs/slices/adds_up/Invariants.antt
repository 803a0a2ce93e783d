-- What is left of n, less the numbers still to come, is n less all.
use Rattle.std.proofs.Common.{◌≡◌, ◌+◌, drop}
use Rattle.lists.specs.Lists.{total, self}
use Rattle.lists.proofs.slices.adds_up.Given as goal

abbrev pub invariant-loop-k : goal.invariant-loop-k
invariant-loop-k l = l.n + total self (drop l.k-index l.s) ≡ l.rest + total self l.s

-- The sizes added up, with those still to come, are all of them.
use Rattle.std.proofs.Common.{◌≡◌, ◌+◌, drop}
use Rattle.lists.specs.Lists.{total, self}
use Rattle.snapshots.proofs.put.total.Given as goal

abbrev pub invariant-loop-size : goal.invariant-loop-size
invariant-loop-size l = l.n + total self (drop l.size-index l.sizes) ≡ total self l.sizes

-- The sum so far and the counts to come, at most the largest word, are the sum of all.
use Rattle.std.proofs.Common.{◌≡◌, ◌≤◌, ◌+◌, min, drop}
use Rattle.lists.specs.Lists.{total}
use Rattle.rules.specs.Numbers.{max_count}
use Rattle.rules.specs.Plain as plain
use Rattle.rules.specs.Readings.{rebuilt_in}
use Rattle.store.specs.Counts.{counts_in}
use Rattle.store.proofs.counts.Counts.sum.Given as goal

abbrev pub invariant-loop-c : goal.invariant-loop-c
invariant-loop-c l =
    (l.sum ≤ max_count) × (min (l.sum + total (λ (c : plain.Count). c.rebuilt) (drop l.c-index (counts_in l.self))) max_count ≡ rebuilt_in (counts_in l.self))

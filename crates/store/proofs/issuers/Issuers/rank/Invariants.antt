-- The rank stays between the two ends.
use Rattle.std.proofs.Common.{◌≤◌, ◌-◌}
use Rattle.lists.specs.Arrays.{rank}
use Rattle.types.specs.Transactions.{number_of}
use Rattle.store.specs.Issuers.{pairs_in, is_before}
use Rattle.store.proofs.issuers.Issuers.rank.Given as goal

abbrev pub invariant-loop-low : goal.invariant-loop-low
invariant-loop-low l =
    let k = rank (is_before l.r.0 (number_of l.t)) (pairs_in l.self) in
    (l.low ≤ k) × (k ≤ l.high) × (l.high ≤ l.self.len)

abbrev pub decreases-loop-low : goal.decreases-loop-low
decreases-loop-low l = l.high - l.low

-- What the rest gives from here is what the whole gives.
use Rattle.std.proofs.Common.{◌≡◌, ◌≤◌, ◌-◌, length}
use lib.ListN.{drop}
use Rattle.rules.specs.Calls.{run}
use Rattle.ledger.specs.Contents.{contents, Held}
use Rattle.claim.specs.Calls.{decode, lent_after}
use Rattle.claim.proofs.running.run_calls.Given as goal

abbrev pub invariant-loop-at : goal.invariant-loop-at
invariant-loop-at l =
    (l.at ≤ length l.calls)
    × Held l.ledger
    × (run (decode (length l.initial.lent) (drop l.at l.calls)) (contents l.ledger) ≡ run (decode (length l.initial.lent) l.calls) (contents l.initial.ledger))
    × (lent_after (decode (length l.initial.lent) (drop l.at l.calls)) (contents l.ledger) l.lent ≡ lent_after (decode (length l.initial.lent) l.calls) (contents l.initial.ledger) l.initial.lent)

abbrev pub decreases-loop-at : goal.decreases-loop-at
decreases-loop-at l = length l.calls - l.at

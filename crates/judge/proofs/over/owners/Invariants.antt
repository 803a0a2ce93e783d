-- The departures left, and the owners among those still to come, are all the owners.
use Rattle.std.proofs.Common.{◌≡◌, ◌≤◌, ◌++◌, ℕ, List, drop}
use Rattle.lists.specs.Lists.{keep}
use Rattle.rules.specs.Plain.{Departure}
use Rattle.rules.specs.Over.{is_owner, owners}
use Rattle.judge.specs.Over.{OnFile, left_of}
use Rattle.judge.specs.View.{Shows}
use Rattle.judge.proofs.over.owners.Given as goal

abbrev pub invariant-departures : goal.invariant-departures
invariant-departures l =
    (l.left.places.len ≤ l.j) × OnFile l.view l.left
    × ((ds : List Departure) (now : ℕ) → Shows ds now l.view → left_of ds l.left ++ keep (is_owner l.route) (drop l.j ds) ≡ owners l.route ds)

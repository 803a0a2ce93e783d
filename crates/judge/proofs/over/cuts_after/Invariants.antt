-- The departures left, and the cuts after the anchor among those still to come, are all such cuts.
use Rattle.std.proofs.Common.{◌≡◌, ◌≤◌, ◌++◌, ℕ, List, drop}
use Rattle.lists.specs.Lists.{keep}
use Rattle.rules.specs.Plain.{Departure}
use Rattle.rules.specs.Over.{is_after, cuts_after}
use Rattle.judge.specs.Over.{OnFile, left_of}
use Rattle.judge.specs.View.{Shows}
use Rattle.judge.proofs.over.cuts_after.Given as goal

abbrev pub invariant-departures : goal.invariant-departures
invariant-departures l =
    (l.left.places.len ≤ l.place-index) × OnFile l.view l.left
    × ((ds : List Departure) (now : ℕ) → Shows ds now l.view →
    left_of ds l.left ++ keep (is_after l.anchor.0) (drop l.place-index (left_of ds l.owners)) ≡ cuts_after l.anchor.0 (left_of ds l.owners))

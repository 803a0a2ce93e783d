-- Downwards, the first so far is the smallest cut of those gone through.
use Rattle.std.proofs.Common.{◌≤◌, ◌<◌, ℕ, List, option_to_list}
use Rattle.lists.specs.Lists.{Every}
use Rattle.rules.specs.Plain.{Departure}
use Rattle.judge.specs.View.{Shows}
use Rattle.judge.proofs.Leaving.{Downward}
use Rattle.judge.proofs.over.smallest_cut.Given as goal

abbrev pub invariant-departures : goal.invariant-departures
invariant-departures l =
    (l.k ≤ l.cuts.places.len) × Every (λ j. j < l.view.seen.len) (option_to_list l.first)
    × ((ds : List Departure) (now : ℕ) → Shows ds now l.view → Downward ds l.cuts l.k l.first)

abbrev pub decreases-departures : goal.decreases-departures
decreases-departures l = l.k

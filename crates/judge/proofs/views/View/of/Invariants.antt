-- Each departure gone through is seen at its place.
use Rattle.std.proofs.Common.{ℕ, ◌≡◌, ◌<◌, get_or}
use Rattle.lists.specs.Front.{held}
use Rattle.rules.specs.Plain.{Departure}
use Rattle.store.specs.Departures.{on_file}
use Rattle.judge.specs.View.{Sees}
use Rattle.judge.specs.declared.views.Seen.{Seen}
use Rattle.judge.proofs.views.View.of.Given as goal

abbrev pub invariant-loop-departure : goal.invariant-loop-departure
invariant-loop-departure l =
    (l.seen.len ≡ l.departure-index)
    × ((k : ℕ) (x : Seen) → k < l.seen.len → (d : Departure) → Sees l.time.0 (get_or (on_file l.fn.d) k d) (get_or (held l.seen) k x))

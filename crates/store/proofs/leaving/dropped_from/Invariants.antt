-- Those at the front and those still to come are all of them.
use Rattle.std.proofs.Common.{◌≡◌, ◌≤◌, ◌++◌, take, drop}
use Rattle.lists.specs.Front.{held}
use Rattle.store.specs.Roster.{keys_of}
use Rattle.store.specs.Leaving.{dropped_by}
use Rattle.store.proofs.leaving.dropped_from.Given as goal

abbrev pub invariant-loop-i : goal.invariant-loop-i
invariant-loop-i l =
    let n = l.roster.len in
    (l.gone.len ≤ l.i) × (held l.gone ++ dropped_by (drop l.i (take n l.stay)) (drop l.i (take n l.roster.keys)) ≡ dropped_by (take n l.stay) (keys_of l.roster))

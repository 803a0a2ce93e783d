-- The entries still to come have their form exactly if all have.
use Rattle.std.proofs.Common.{◌≡◌, ◌≤◌, length, drop}
use Rattle.lists.specs.Lists.{all, total, self, cut}
use Rattle.rules.specs.Snapshot.{entry_formed}
use Rattle.snapshots.proofs.form.are_entries.Given as goal

abbrev pub invariant-loop-n : goal.invariant-loop-n
invariant-loop-n l =
    (total self (drop l.n-index l.lengths) ≤ length l.rest)
    × (all entry_formed (cut (drop l.n-index l.lengths) l.rest) ≡ all entry_formed (cut l.lengths l.joined))

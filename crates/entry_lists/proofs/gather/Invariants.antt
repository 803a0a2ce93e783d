-- What is gathered, with the items still to come, is the whole run: of any test and row that the closure answers by.
use Rattle.std.proofs.Common.{◌≡◌, ◌≤◌, length, drop, ℕ, Bool, List}
use Rattle.std.specs.Fn.{FnReturnsAt}
use Rattle.lists.specs.Lists.{keep}
use Rattle.rules.specs.Plain as plain
use Rattle.ledger.specs.Contents.{entries_of}
use Rattle.entry_lists.specs.Runs.{Picks, item_words}
use Rattle.entry_lists.proofs.Runs.{Sofar}
use Rattle.entry_lists.proofs.gather.Given as goal

abbrev pub invariant-loop-slot : goal.invariant-loop-slot
invariant-loop-slot g l =
    let es = entries_of l.ledger in
    (l.count ≤ l.slot-index)
    × ((p : plain.Entry → Bool) (row : plain.Entry → List ℕ) (each : (x : plain.Entry) → length (item_words row x) ≡ l.size) →
    Picks g.R.AsSlice.items (FnReturnsAt g.F.Fn l.row_of) l.ledger.local.0 p row →
    Sofar (item_words row) l.size each (keep p es) l.initial.words 0 (keep p (drop l.slot-index es)) l.words l.count l.slot-index)

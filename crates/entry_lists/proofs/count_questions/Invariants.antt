-- What is counted, with the questions of the entries still to come, is all.
use Rattle.std.proofs.Common.{drop, length, ◌≡◌, ◌≤◌, ◌+◌, ◌*◌}
use Rattle.lists.specs.Lists.{concat_map}
use Rattle.rules.specs.Readings.{questions_of}
use Rattle.ledger.specs.Contents.{entries_of}
use Rattle.entry_lists.proofs.count_questions.Given as goal

abbrev pub invariant-loop-slot : goal.invariant-loop-slot
invariant-loop-slot l =
    let es = entries_of l.ledger in
    let q = questions_of l.ledger.local.0 in
    (l.count ≤ 8 * l.slot-index) × (l.count + length (concat_map q (drop l.slot-index es)) ≡ length (concat_map q es))

-- What is written, with the questions of the entries still to come, is the whole run.
use Rattle.std.proofs.Common.{drop, refl, ◌*◌}
use Rattle.lists.specs.Lists.{concat_map}
use Rattle.rules.specs.Readings.{question_words, questions_of}
use Rattle.ledger.specs.Contents.{entries_of}
use Rattle.entry_lists.proofs.Runs.{Sofar}
use Rattle.entry_lists.proofs.write_questions.Given as goal

abbrev pub invariant-loop-slot : goal.invariant-loop-slot
invariant-loop-slot l =
    let es = entries_of l.ledger in
    let q = questions_of l.ledger.local.0 in
    Sofar question_words 5 (λ x. refl) (concat_map q es) l.initial.lent 0 (concat_map q (drop l.slot-index es)) l.lent l.count (8 * l.slot-index)

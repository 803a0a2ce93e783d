-- Counted first: there is no room, or all are written.
use Rattle.std.proofs.Common.{refl, arith}
use Rattle.rules.specs.Readings.{questions, question_words}
use Rattle.ledger.specs.Contents.{contents}
use Rattle.entry_lists.proofs.Runs.{reads_none, reads_all}
use Rattle.entry_lists.proofs.questions.Goals as goal

pub returns-then-lent-count_questions : goal.returns-then-lent-count_questions
returns-then-lent-count_questions c =
    let l = contents c.args.ledger.now in
    reads_none question_words 5 (λ x. refl) (questions l) l c.args.lent.now (omega arith)

pub returns : goal.returns
returns c =
    let l = contents c.args.ledger.now in
    reads_all question_words 5 (λ x. refl) (questions l) l c.args.lent.now _ _ c.write_questions.ensures

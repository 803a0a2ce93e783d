-- Each turn passes an entry by, or writes its questions behind those that are there.
use Rattle.std.proofs.Common.{arith, ap, sym, ◌∙◌, ◌+◌, length}
use Rattle.lists.specs.Lists.{concat_map}
use Rattle.rules.specs.Readings.{questions, questions_of, question_words}
use Rattle.ledger.specs.Contents.{contents, entries_of}
use Rattle.ledger.proofs.Places.{none_left, at_turn}
use Rattle.entry_lists.proofs.ByEntry.{asks_few, next_asks, asks_room, next_silent}
use Rattle.entry_lists.proofs.Runs.{passed_by, put-run, ended}
use Rattle.entry_lists.proofs.write_questions.Goals as goal
use Rattle.entry_lists.proofs.write_questions.Goals.{then-is_asking, else-is_asking}

pub put_questions-count-requires : goal.put_questions-count-requires
unfolding contents questions
put_questions-count-requires c =
    let l = c.loop-slot in
    let a = c.args.ledger.now in
    let t = at_turn a c.requires.0 l.slot-index (omega arith) in
    let all = length (concat_map (questions_of a.local.0) (entries_of a)) in
    asks_room a.local.0 l.count (0 + all) (length l.lent) _ _ _ (t.next _) (sym c.is_asking.ensures ∙ c.if-is_asking.true) l.invariant.some (omega (arith, c.requires.1, l.invariant.size))

pub loop-slot-preserved : goal.loop-slot-preserved
loop-slot-preserved c =
    let l = c.loop-slot in
    let a = c.args.ledger.now in
    let t = at_turn a c.requires.0 l.slot-index (omega arith) in
    elim c.if-is_asking.branch [
      | then-is_asking w ↦ rw (w.count-is, w.lent-is) (put-run question_words 5 _ _ _ _ 8 _ _ _ w.put_questions-count.ensures (next_asks a.local.0 _ _ _ (t.next _) (sym c.is_asking.ensures ∙ w.if-is_asking.true)) (asks_few a.local.0 _) (omega arith) l.invariant)
      | else-is_asking w ↦ rw (w.count-is, w.lent-is) (passed_by question_words 5 _ _ _ _ (next_silent a.local.0 _ _ _ (t.next _) (sym c.is_asking.ensures ∙ w.if-is_asking.false)) (omega arith) l.invariant)
    ]

pub returns : goal.returns
unfolding contents questions
returns c =
    let l = c.loop-slot in
    let a = c.args.ledger.now in
    let e = ap (concat_map (questions_of a.local.0)) (none_left a c.requires.0 l.slot-index (omega arith)) in
    ended question_words 5 _ _ e (omega (arith, c.requires.1, l.invariant.some, ap length e)) l.invariant

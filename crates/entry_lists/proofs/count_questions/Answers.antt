-- Each turn counts the questions of one entry.
use Rattle.std.proofs.Common.{arith, ap, length}
use Rattle.lists.specs.Lists.{concat_map}
use Rattle.rules.specs.Readings.{questions, questions_of}
use Rattle.ledger.specs.Contents.{contents}
use Rattle.ledger.proofs.Places.{none_left, at_turn}
use Rattle.entry_lists.proofs.ByEntry.{asks_next, counted}
use Rattle.entry_lists.proofs.count_questions.Goals as goal

pub asks-count-requires : goal.asks-count-requires
asks-count-requires c = let t = at_turn c.args.ledger.now c.requires c.loop-slot.slot-index (omega arith) in t.good _

pub loop-slot-preserved : goal.loop-slot-preserved
loop-slot-preserved c =
    let l = c.loop-slot in
    let t = at_turn c.args.ledger.now c.requires l.slot-index (omega arith) in
    (omega (arith, c.asks-count.ensures.1), counted _ _ _ _ _ _ c.asks-count.ensures.0 (asks_next c.args.ledger.now.local.0 _ _ _ (t.next _)) l.invariant.1)

pub returns : goal.returns
unfolding contents questions
returns c =
    let l = c.loop-slot in
    let a = c.args.ledger.now in
    let e = ap (λ m. length (concat_map (questions_of a.local.0) m)) (none_left a c.requires l.slot-index (omega arith)) in
    (omega (arith, l.invariant.1, e), omega (arith, c.args.ledger.now.roster.room))

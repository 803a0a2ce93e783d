-- One entry more.
use Rattle.std.proofs.Common.{◌≡◌, ◌+◌, ap, arith, drop, length, length-append}
use Rattle.lists.specs.Lists.{concat_map}
use Rattle.rules.specs.Snapshot.{entry_words}
use Rattle.entry.specs.Entry.{plain_entry}
use Rattle.ledger.specs.Contents.{entries_of, contents}
use Rattle.ledger.proofs.Places.{slots_length}
use Rattle.snapshots.proofs.Fields.{entry-length}
use Rattle.snapshots.proofs.Writing.{met, next_words, no_entry_left}
use Rattle.snapshots.proofs.write.entries_length.Goals as goal

pub overflow_add-n : goal.overflow_add-n
overflow_add-n c =
    let l = c.loop-slot in
    let a = c.args.ledger.now in
    omega (arith, c.entry_length-n.ensures.1, l.invariant.1, c.loop-slot-test.true, slots_length a c.requires, a.roster.room)

pub loop-slot-preserved : goal.loop-slot-preserved
loop-slot-preserved c =
    let l = c.loop-slot in
    let a = c.args.ledger.now in
    let e = met a c.requires l.slot-index c.loop-slot-test.true c.index-ledger-slot.result in
    let next = next_words a c.requires l.slot-index c.loop-slot-test.true c.index-ledger-slot.result in (
      omega (
        arith,
        l.invariant.0,
        c.entry_length-n.ensures.0,
        entry-length e,
        ap length next,
        length-append (entry_words (plain_entry e)) (concat_map entry_words (drop (l.slot-index + 1) (entries_of a))),
      ),
      omega (arith, c.entry_length-n.ensures.1, l.invariant.1),
    )

pub returns : goal.returns
unfolding contents
returns c =
    let l = c.loop-slot in
    let a = c.args.ledger.now in
    let none : length (concat_map entry_words (drop l.slot-index (entries_of a))) ≡ 0 = ap (λ m. length (concat_map entry_words m)) (no_entry_left a c.requires l.slot-index c.loop-slot-test.false) in
    (omega (arith, l.invariant.0, none), omega (arith, l.invariant.1, c.loop-slot.auto.slot-index-end, slots_length a c.requires, a.roster.room))

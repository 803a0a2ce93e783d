-- Each entry is a row.
use Rattle.std.proofs.Common.{◌+◌, ap, drop}
use Rattle.lists.specs.Lists.{concat_map}
use Rattle.rules.specs.Snapshot.{entry_words}
use Rattle.entry.specs.Entry.{plain_entry}
use Rattle.ledger.specs.Contents.{entries_of, contents}
use Rattle.snapshots.proofs.Fields.{entry-length}
use Rattle.snapshots.proofs.Putting.{none_yet, one_put, all_put, room}
use Rattle.snapshots.proofs.Writing.{met, next_words, no_entry_left}
use Rattle.snapshots.proofs.write.put_entries.Goals as goal

pub loop-slot-init : goal.loop-slot-init
loop-slot-init c = none_yet _ _ _

pub put_entry-end-requires : goal.put_entry-end-requires
unfolding contents
put_entry-end-requires c =
    let l = c.loop-slot in
    let a = c.args.ledger.now in
    let e = met a c.requires.0 l.slot-index c.loop-slot-test.true c.index-ledger-slot.result in
    rw (← entry-length e)
    (room (concat_map entry_words (drop l.slot-index (entries_of a))) (entry_words (plain_entry e)) (concat_map entry_words (drop (l.slot-index + 1) (entries_of a)))
    (next_words a c.requires.0 l.slot-index c.loop-slot-test.true c.index-ledger-slot.result) c.requires.1 l.invariant)

pub loop-slot-preserved : goal.loop-slot-preserved
loop-slot-preserved c =
    let l = c.loop-slot in
    let a = c.args.ledger.now in
    let e = met a c.requires.0 l.slot-index c.loop-slot-test.true c.index-ledger-slot.result in
    one_put (concat_map entry_words (drop l.slot-index (entries_of a))) (entry_words (plain_entry e)) (concat_map entry_words (drop (l.slot-index + 1) (entries_of a))) _ _
    (next_words a c.requires.0 l.slot-index c.loop-slot-test.true c.index-ledger-slot.result) c.put_entry-end.ensures l.invariant

pub returns : goal.returns
unfolding contents
returns c =
    let l = c.loop-slot in
    let a = c.args.ledger.now in
    all_put (concat_map entry_words (drop l.slot-index (entries_of a))) (ap (concat_map entry_words) (no_entry_left a c.requires.0 l.slot-index c.loop-slot-test.false)) l.invariant

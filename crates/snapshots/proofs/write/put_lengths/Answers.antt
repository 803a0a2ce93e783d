-- Each length is a row of its own.
use Rattle.std.proofs.Common.{◌+◌, ◌∷◌, [], ap, arith, drop}
use Rattle.ledger.specs.Contents.{entries_of, contents}
use Rattle.snapshots.specs.Put.{entry_lengths, entry_size}
use Rattle.snapshots.proofs.Putting.{none_yet, one_put, all_put, room}
use Rattle.snapshots.proofs.Writing.{met, next_length, no_entry_left, lengths-length}
use Rattle.snapshots.proofs.write.put_lengths.Goals as goal

pub loop-slot-init : goal.loop-slot-init
loop-slot-init c = none_yet _ _ _

pub put-end-requires : goal.put-end-requires
put-end-requires c =
    let l = c.loop-slot in
    let a = c.args.ledger.now in
    let e = met a c.requires.0 l.slot-index c.loop-slot-test.true c.index-ledger-slot.result in
    room (entry_lengths (drop l.slot-index (entries_of a))) (entry_size e ∷ []) (entry_lengths (drop (l.slot-index + 1) (entries_of a)))
    (next_length a c.requires.0 l.slot-index c.loop-slot-test.true c.index-ledger-slot.result) (omega (arith, c.requires.1, lengths-length a c.requires.0)) l.invariant

pub loop-slot-preserved : goal.loop-slot-preserved
loop-slot-preserved c =
    let l = c.loop-slot in
    let a = c.args.ledger.now in
    let e = met a c.requires.0 l.slot-index c.loop-slot-test.true c.index-ledger-slot.result in
    one_put (entry_lengths (drop l.slot-index (entries_of a))) (entry_size e ∷ []) (entry_lengths (drop (l.slot-index + 1) (entries_of a))) _ _
    (next_length a c.requires.0 l.slot-index c.loop-slot-test.true c.index-ledger-slot.result) (rw c.entry_length-n.ensures.0 at c.put-end.ensures) l.invariant

pub returns : goal.returns
unfolding contents
returns c =
    let l = c.loop-slot in
    let a = c.args.ledger.now in
    all_put (entry_lengths (drop l.slot-index (entries_of a))) (ap entry_lengths (no_entry_left a c.requires.0 l.slot-index c.loop-slot-test.false)) l.invariant

-- Each byte is a row of its own.
use Rattle.std.proofs.Common.{◌+◌, ◌∷◌, [], drop, get_or}
use Rattle.lists.proofs.Cuts.{rest_more, rest-none}
use Rattle.snapshots.proofs.Putting.{one_put, all_put, room}
use Rattle.snapshots.proofs.put.put_bytes.Goals as goal

pub put-end-requires : goal.put-end-requires
put-end-requires c =
    let l = c.loop-byte in
    let s = c.args.row.now in
    room (drop l.byte-index s) (get_or s l.byte-index 0 ∷ []) (drop (l.byte-index + 1) s) (rest_more 0 s l.byte-index c.loop-byte-test.true) c.requires l.invariant

pub loop-byte-preserved : goal.loop-byte-preserved
loop-byte-preserved c =
    let l = c.loop-byte in
    let s = c.args.row.now in
    one_put (drop l.byte-index s) (get_or s l.byte-index 0 ∷ []) (drop (l.byte-index + 1) s) _ _ (rest_more 0 s l.byte-index c.loop-byte-test.true) (rw c.from.ensures at c.put-end.ensures) l.invariant

pub returns : goal.returns
returns c = let l = c.loop-byte in all_put (drop l.byte-index c.args.row.now) (rest-none c.args.row.now l.byte-index c.loop-byte-test.false) l.invariant

-- What the table says of the marks is said, else the leaves read are written out.
use Rattle.std.proofs.Common.{rules, ◌≡◌, Err, sym}
use Rattle.rules.specs.Tree.{tree_of, leaves}
use Rattle.rules.specs.Readings.{single}
use Rattle.rules.proofs.Tree.{accepted-height}
use Rattle.readings.proofs.Written.{turned_away}
use Rattle.trees.proofs.Read.{of_read}
use Rattle.shard_lists.proofs.Listed.{of_front}
use Rattle.shard_lists.proofs.leaves.Goals as goal

pub returns-in_err-read : goal.returns-in_err-read
returns-in_err-read c =
    let said : c.from_residual.result ≡ Err c.in_err-read.field-0.0 = search rules in
    rw said (turned_away single _ _ _ c.args.lent.now c.in_err-read.field-0.0 (sym c.in_err-read.ensures.refused))

pub leaves-shards-requires : goal.leaves-shards-requires
leaves-shards-requires c = of_read c.args.marks.now _ c.in_ok-read.ensures.refused c.in_ok-read.ensures.read

pub returns : goal.returns
returns c =
    let m = c.args.marks.now in
    let r = c.in_ok-read.ensures in
    let e = sym r.refused in
    of_front c.leaves-shards.result (leaves (tree_of m)) c.args.lent.now _ _ _ _ e (c.leaves-shards.ensures (tree_of m) (accepted-height m e) r.read) (rw c.as_slice.ensures at c.list.ensures)

-- Each turn passes a departure by, or writes the shard of the next behind those that are there.
use Rattle.std.proofs.Common.{length, ap, arith, refl}
use Rattle.std.proofs.lemmas.Fn.{says_at}
use Rattle.lists.proofs.Held.{held-length}
use Rattle.shard_lists.proofs.OnFile.{none-picked, may-push, picked, passed-by, all-picked}
use Rattle.shard_lists.proofs.shards_of.Goals as goal
use Rattle.shard_lists.proofs.shards_of.Goals.{then-passes, else-passes}

pub loop-d-init : goal.loop-d-init
loop-d-init g c = none-picked _ _ _ c.new-shards.ensures

pub push-requires : goal.push-requires
push-requires g c =
    let l = c.loop-d in
    let said = says_at g.F.Fn c.passes.ensures refl in
    may-push _ c.args.on_file _ c.as_slice-all.ensures _ l.d-index l.shards _ (omega arith) said l.invariant c.if-passes.true

pub loop-d-preserved : goal.loop-d-preserved
loop-d-preserved g c =
    let l = c.loop-d in
    let e = c.as_slice-all.ensures in
    let said = says_at g.F.Fn c.passes.ensures refl in
    elim c.if-passes.branch [
      | then-passes w ↦ rw w.shards-is (picked _ c.args.on_file _ e _ l.d-index l.shards _ (omega arith) said l.invariant w.if-passes.true _ w.push.ensures)
      | else-passes w ↦ rw w.shards-is (passed-by _ c.args.on_file _ e _ l.d-index l.shards _ (omega arith) said l.invariant w.if-passes.false)
    ]

pub returns : goal.returns
returns g c =
    let l = c.loop-d in
    let x = c.args.on_file in
    let e = c.as_slice-all.ensures in
    record {
      gathered = λ p says. all-picked _ x _ e l.d-index l.shards (omega arith) l.invariant p says;
      few = omega (arith, l.invariant.few, ap length e, held-length x.front, x.front.room);
    }

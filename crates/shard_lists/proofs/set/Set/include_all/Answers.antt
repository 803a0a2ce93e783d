-- Each turn puts in the next.
use Rattle.std.proofs.Common.{drop, ◌+◌, arith}
use Rattle.lists.proofs.Cuts.{rest_more}
use Rattle.shard_lists.proofs.Gather.{put_one}
use Rattle.shard_lists.proofs.set.Set.include_all.Goals as goal

pub loop-x-preserved : goal.loop-x-preserved
loop-x-preserved c =
    let l = c.loop-x in
    let s = c.args.shards.now in
    put_one _ _ (drop (l.x-index + 1) s) _ _ (rest_more 0 s l.x-index (omega arith)) (omega arith) l.invariant c.include.ensures

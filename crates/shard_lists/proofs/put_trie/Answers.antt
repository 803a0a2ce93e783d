-- Each turn puts in the trie's shard of the next route.
use Rattle.std.proofs.Common.{arith, refl}
use Rattle.std.proofs.lemmas.Fn.{says}
use Rattle.shard_lists.proofs.Trie.{none_tried, tried, all_tried}
use Rattle.shard_lists.proofs.put_trie.Goals as goal

pub loop-route-init : goal.loop-route-init
loop-route-init g c = none_tried _ _ _

pub loop-route-preserved : goal.loop-route-preserved
loop-route-preserved g c =
    let l = c.loop-route in
    let said = says g.F.Fn c.shard_for.ensures refl in
    tried _ _ _ l.route-index l.shards _ _ (omega arith) said l.invariant c.include.ensures

pub returns : goal.returns
returns g c = rw c.as_slice-route-items.ensures at (all_tried _ _ _ c.loop-route.route-index c.loop-route.shards (omega arith) c.loop-route.invariant)

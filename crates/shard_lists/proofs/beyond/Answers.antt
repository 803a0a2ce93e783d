-- The departed shards with the trie's among them are the set of what each route gives.
use Rattle.std.proofs.Common.{rules, tests}
use Rattle.shard_lists.specs.Sets.{is_over_some}
use Rattle.shard_lists.proofs.Crossing.{counterparts_once}
use Rattle.shard_lists.proofs.beyond.Goals as goal

pub returns : goal.returns
returns g c = λ f says.
    let over = c.shards_of-shards.ensures.gathered (is_over_some c.args.e.anchor.0 _) (λ d b q. search (rules, tests)) in
    counterparts_once c.args.e c.args.local.0 c.args.on_file f _ _ _ c.remote-far.ensures over (c.put_trie.ensures f says)

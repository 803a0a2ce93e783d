-- With the trie's shards of the routes still to come put in, the set is the one wanted.
use Rattle.std.specs.Fn.{FnReturns}
use Rattle.shard_lists.proofs.Trie.{Tried}
use Rattle.shard_lists.proofs.put_trie.Given as goal

abbrev pub invariant-loop-route : goal.invariant-loop-route
invariant-loop-route g l = Tried (λ route. FnReturns g.F.Fn l.shard_for (route, tt)) l.route-items l.initial.shards l.route-index l.shards

-- What is written are the shards of those before that the closure let pass.
use Rattle.std.specs.Fn.{FnReturnsAt}
use Rattle.shard_lists.proofs.OnFile.{Picked}
use Rattle.shard_lists.proofs.shards_of.Given as goal

abbrev pub invariant-loop-d : goal.invariant-loop-d
invariant-loop-d g l = Picked (FnReturnsAt g.F.Fn l.passes) l.fn.on_file l.d-index l.shards

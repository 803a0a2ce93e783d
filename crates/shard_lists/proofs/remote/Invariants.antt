-- What is written, and the remote ones of those still to come, are all of them.
use Rattle.std.proofs.Common.{◌≡◌, ◌≤◌, ◌++◌, drop}
use Rattle.lists.specs.Lists.{keep}
use Rattle.lists.specs.Front.{held}
use Rattle.rules.specs.Plain.{is_remote}
use Rattle.shard_lists.proofs.remote.Given as goal

abbrev pub invariant-loop-route : goal.invariant-loop-route
invariant-loop-route l =
    (l.far.len ≤ l.route-index) × (held l.far ++ keep (is_remote l.local.0) (drop l.route-index l.routes) ≡ keep (is_remote l.local.0) l.routes)

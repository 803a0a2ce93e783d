-- It is found where it stands.
use Rattle.std.proofs.Common.{◌∙◌}
use Rattle.lists.proofs.Loops.{found-known}
use Rattle.rules.specs.Plain.{counted_shard}
use Rattle.store.specs.Counts.{counts_in}
use Rattle.store.proofs.counts.Counts.has.Goals as goal

pub returns : goal.returns
returns c = c.is_some.ensures ∙ found-known counted_shard c.args.shard.0 (counts_in c.args.self.now) _ c.find.ensures

-- It ranks behind all of them.
use Rattle.std.proofs.Common.{sym}
use Rattle.lists.proofs.Coming.{ranked_last}
use Rattle.store.specs.Counts.{counts_in, is_under}
use Rattle.store.proofs.Filed.{counts-length}
use Rattle.store.proofs.counts.Counts.is_last.Goals as goal

pub returns : goal.returns
returns c =
    let x = c.args.self.now in
    ranked_last (is_under c.args.shard.0) (counts_in x) _ _ c.rank.ensures (sym (counts-length x))

-- It ranks behind all of them.
use Rattle.std.proofs.Common.{sym}
use Rattle.lists.proofs.Coming.{ranked_last}
use Rattle.store.specs.Departures.{on_file, is_under}
use Rattle.store.proofs.Filed.{file-length}
use Rattle.store.proofs.departures.Departures.is_last.Goals as goal

pub returns : goal.returns
returns c =
    let x = c.args.self.now in
    ranked_last (is_under c.args.shard.0) (on_file x) _ _ c.rank.ensures (sym (file-length x))

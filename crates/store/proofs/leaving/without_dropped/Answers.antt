-- Where nobody is gone nothing is unnamed.
use Rattle.std.proofs.Common.{take}
use Rattle.store.specs.Roster.{keys_of}
use Rattle.store.specs.Issuers.{pairs_in}
use Rattle.store.proofs.Dropping.{nobody}
use Rattle.store.proofs.leaving.without_dropped.Goals as goal

pub returns-then-gone-eq0 : goal.returns-then-gone-eq0
returns-then-gone-eq0 c =
    let g = c.dropped_from-gone in
    record { pairs = nobody (take c.args.roster.len c.args.stay) (keys_of c.args.roster) (pairs_in c.args.issuers) g.result.items g.result.len g.ensures c.if-gone-eq0.true }

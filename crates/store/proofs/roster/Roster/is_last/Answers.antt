-- It ranks behind all of them.
use Rattle.std.proofs.Common.{sym, arith}
use Rattle.std.proofs.Math.Seq.{length-take-le}
use Rattle.lists.proofs.Coming.{ranked_last}
use Rattle.types.specs.Transactions.{number_of}
use Rattle.store.specs.Roster.{keys_of, below}
use Rattle.store.proofs.roster.Roster.is_last.Goals as goal

pub returns : goal.returns
returns c =
    let r = c.args.self.now in
    ranked_last (below (number_of c.args.tx)) (keys_of r) _ _ c.rank.ensures (sym (length-take-le r.len r.keys (omega (arith, r.room, r.lengths.0))))

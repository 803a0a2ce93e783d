-- The closure's test is the rules'.
use Rattle.std.proofs.Common.{rules, tests}
use Rattle.types.specs.Transactions.{number_of}
use Rattle.store.specs.Roster.{below}
use Rattle.store.proofs.roster.Roster.rank.Goals as goal

pub returns : goal.returns
returns c = c.rank.ensures (below (number_of c.args.tx)) (λ k b q. search (rules, tests))

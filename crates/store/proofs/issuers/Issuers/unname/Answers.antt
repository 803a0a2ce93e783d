-- The closure lets the pairs of the other transactions stay.
use Rattle.std.proofs.Common.{rules, tests, not, nat_eq}
use Rattle.types.specs.Transactions.{number_of}
use Rattle.store.proofs.issuers.Issuers.unname.Goals as goal

pub returns : goal.returns
returns c = c.retain.ensures (λ t. not (nat_eq t (number_of c.args.t))) (λ t b q. search (rules, tests))

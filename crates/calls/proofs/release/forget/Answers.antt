-- Whatever the entry is, it is let go.
use Rattle.std.proofs.Common.{true, rules, tests}
use Rattle.types.specs.Transactions.{number_of}
use Rattle.calls.proofs.Single.{forget-is}
use Rattle.calls.proofs.release.forget.Goals as goal

pub returns-then-let_go : goal.returns-then-let_go
returns-then-let_go c =
    rw (forget-is c.args.ledger.now c.requires (number_of c.args.tx), c.if-let_go.true) at (c.let_go.ensures (λ e. true) (λ e b k. search (rules, tests)) 1)

pub returns-else-let_go : goal.returns-else-let_go
returns-else-let_go c =
    rw (forget-is c.args.ledger.now c.requires (number_of c.args.tx), c.if-let_go.false) at (c.let_go.ensures (λ e. true) (λ e b k. search (rules, tests)) 1)

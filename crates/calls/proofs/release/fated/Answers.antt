-- A leg is let go.
use Rattle.std.proofs.Common.{rules, tests}
use Rattle.rules.specs.Plain.{is_leg}
use Rattle.types.specs.Transactions.{number_of}
use Rattle.entry.specs.Entry.{plain_entry}
use Rattle.calls.proofs.Single.{fated-is}
use Rattle.calls.proofs.release.fated.Goals as goal

pub returns-then-let_go : goal.returns-then-let_go
unfolding plain_entry
returns-then-let_go c =
    rw (fated-is c.args.ledger.now c.requires (number_of c.args.tx), c.if-let_go.true) at (c.let_go.ensures (λ e. is_leg e.part) (λ e b k. search (rules, tests)) 2)

pub returns-else-let_go : goal.returns-else-let_go
unfolding plain_entry
returns-else-let_go c =
    rw (fated-is c.args.ledger.now c.requires (number_of c.args.tx), c.if-let_go.false) at (c.let_go.ensures (λ e. is_leg e.part) (λ e b k. search (rules, tests)) 2)

-- Of an entry that was found the answer is the test's; there is none for a transaction that is not owed.
use Rattle.std.proofs.Common.{refl}
use Rattle.std.proofs.lemmas.Fn.{says_at}
use Rattle.types.specs.Transactions.{number_of}
use Rattle.readings.proofs.Looked.{answered, unanswered}
use Rattle.readings.proofs.lookups.look_up.Goals as goal

pub returns-in_default : goal.returns-in_default
returns-in_default g c = λ q says. unanswered q c.args.ledger.now c.requires.held (number_of c.args.tx) (rw c.in_default.is at c.slot_of.ensures)

pub returns : goal.returns
returns g c = λ q says.
    answered q c.args.ledger.now c.requires.held (number_of c.args.tx) c.in-Some.slot (rw c.in-Some.is at c.slot_of.ensures) _ _ _ c.from.ensures (says _ _ (says_at g.F.Fn c.passes.ensures refl))

-- The entry is changed in its slot where the roster has the transaction.
use Rattle.std.proofs.Common.{ℕ, ◌≡◌, ◌≤◌, arith}
use Rattle.types.specs.Transactions.{number_of}
use Rattle.entry.specs.declared.Certificate.{Certificate}
use Rattle.entry.specs.declared.Certificate.TheVariants.{Missing, ByAbandonment, ByExecution}
use Rattle.entry.specs.Entry.{certificate_number}
use Rattle.calls.proofs.Single.{certify_code, certify_unknown, certify-owed}
use Rattle.calls.proofs.certificate.certify.Goals as goal

-- a certificate's code is one of the three
known : (c : Certificate) (n : ℕ) → certificate_number c ≡ n → n ≤ 2
known Missing n e = omega (arith, e)
known ByAbandonment n e = omega (arith, e)
known ByExecution n e = omega (arith, e)

pub returns-in_default : goal.returns-in_default
returns-in_default c = certify_code c.args.ledger.now c.requires (number_of c.args.tx) c.args.code (omega (arith, c.in_default.ensures))

pub returns-in_default-slot_of : goal.returns-in_default-slot_of
returns-in_default-slot_of c =
    certify_unknown c.args.ledger.now c.requires (number_of c.args.tx) c.args.code (known c.in-Ok.certificate c.args.code c.in-Ok.ensures) (rw c.in_default-slot_of.is at c.slot_of.ensures)

pub returns : goal.returns
returns c =
    certify-owed c.args.ledger.now c.requires (number_of c.args.tx) c.args.code (known c.in-Ok.certificate c.args.code c.in-Ok.ensures) c.in-Some.slot (rw c.in-Some.is at c.slot_of.ensures) _ _
    (rw c.in-Ok.ensures at c.certify.ensures) _

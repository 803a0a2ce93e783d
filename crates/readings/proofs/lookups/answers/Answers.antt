-- What the table gives is said; where it gives none, the four tests in their turn.
use Rattle.std.proofs.Common.{true, false, ◌∙◌, sym, refl, le-ltb, lt-ltb, []}
use Rattle.types.specs.declared.refusal.Refusal.TheVariants.{Malformed}
use Rattle.types.specs.Transactions.{number_of}
use Rattle.ledger.specs.Contents.{contents}
use Rattle.ledger.proofs.Places.{found_at, not_found}
use Rattle.readings.proofs.Looked.{refuses, passes, says, stops, goes_on, fails, follows}
use Rattle.readings.proofs.lookups.answers.Goals as goal

pub returns-then-inclusion-gt1 : goal.returns-then-inclusion-gt1
returns-then-inclusion-gt1 c = refuses Malformed _ _ _ [] (stops _ _ _ (lt-ltb _ _ c.if-inclusion-gt1.true))

pub returns-then-not-is_absent : goal.returns-then-not-is_absent
unfolding contents
returns-then-not-is_absent c =
    passes _ _ _ [] [] _ (goes_on _ _ _ (le-ltb _ _ c.if-inclusion-gt1.false) ∙ sym c.in_ok-check.ensures)
    (says false _ _ _ refl (fails _ _ (sym c.is_absent.ensures ∙ c.if-not-is_absent.true)))

pub returns-in_default : goal.returns-in_default
unfolding contents
returns-in_default c =
    let a = not_found c.args.ledger.now c.requires (number_of c.args.q.tx) (sym c.find.ensures ∙ c.in_default.is) in
    passes _ _ _ [] [] _ (goes_on _ _ _ (le-ltb _ _ c.if-inclusion-gt1.false) ∙ sym c.in_ok-check.ensures)
    (says false _ _ _ refl (follows _ _ _ (sym c.is_absent.ensures ∙ c.if-not-is_absent.false) (sym a.known)))

pub returns : goal.returns
unfolding contents
returns c =
    let a = found_at c.args.ledger.now c.requires (number_of c.args.q.tx) _ (sym c.find.ensures ∙ c.in-Some.is) in
    passes _ _ _ [] [] _ (goes_on _ _ _ (le-ltb _ _ c.if-inclusion-gt1.false) ∙ sym c.in_ok-check.ensures)
    (says true _ _ _ refl (follows _ _ _ (sym c.is_absent.ensures ∙ c.if-not-is_absent.false) (sym a.known)))

-- The table from the top, then what is owed is skipped, and what is not takes the first slot that is free.
use Rattle.std.specs.Prelude.{Err}
use Rattle.std.proofs.Common.{ℕ, ◌≡◌, ap, sym, ◌∙◌, List, arith, rules, Option}
use Rattle.lists.specs.Arrays.{place}
use Rattle.rules.specs.Words.{admission_terms}
use Rattle.store.specs.Roster.{is}
use Rattle.words.proofs.Forms.{all_words_lem}
use Rattle.calls.proofs.Admitting.{turned_away, skipped, full, enters, admits}
use Rattle.calls.proofs.admission.register_committed.Goals as goal

-- what the roster says of the transaction it says of the words' own
says : (f : Option ℕ) (t : ℕ) (ws us keys : List ℕ) → f ≡ place (is t) 0 keys → t ≡ (admission_terms us).transaction → us ≡ ws → (g : Option ℕ) → f ≡ g →
    place (is (admission_terms ws).transaction) 0 keys ≡ g
says f t ws us keys e q r g h = sym (e ∙ ap (λ v. place (is v) 0 keys) (q ∙ ap (λ l. (admission_terms l).transaction) r)) ∙ h

pub returns-in_err-admission : goal.returns-in_err-admission
returns-in_err-admission c =
    let said : c.from_residual.result ≡ Err c.in_err-admission.field-0.0 = search rules in
    rw said (turned_away c.args.ledger.now c.requires c.args.words.now c.in_err-admission.field-0.0 c.in_err-admission.ensures.refused)

pub returns-in_default : goal.returns-in_default
returns-in_default c =
    skipped c.args.ledger.now c.requires c.args.words.now c.in_ok-admission.ensures.refused c.in_default.field-0
    (says _ _ _ _ _ c.find.ensures c.transaction-tx.ensures c.in_ok-admission.ensures.read _ c.in_default.is)

pub returns-then-is_full : goal.returns-then-is_full
returns-then-is_full c =
    full c.args.ledger.now c.requires c.args.words.now c.in_ok-admission.ensures.refused
    (says _ _ _ _ _ c.find.ensures c.transaction-tx.ensures c.in_ok-admission.ensures.read _ c.in-None.is) (search rules)

pub take_in-requires : goal.take_in-requires
take_in-requires c =
    enters c.args.ledger.now c.requires c.args.words.now c.in_ok-admission.ensures.refused
    (says _ _ _ _ _ c.find.ensures c.transaction-tx.ensures c.in_ok-admission.ensures.read _ c.in-None.is) (omega arith)
    c.entry-e.result (rw c.in_ok-admission.ensures.read at c.entry-e.ensures) (all_words_lem c.args.words.now (λ i. omega (arith, c.type_inv.words i)))

pub returns : goal.returns
returns c =
    admits c.args.ledger.now c.requires c.args.words.now c.in_ok-admission.ensures.refused
    (says _ _ _ _ _ c.find.ensures c.transaction-tx.ensures c.in_ok-admission.ensures.read _ c.in-None.is) (omega arith)
    c.entry-e.result (rw c.in_ok-admission.ensures.read at c.entry-e.ensures) (all_words_lem c.args.words.now (λ i. omega (arith, c.type_inv.words i)))
    _ c.take_in.ensures

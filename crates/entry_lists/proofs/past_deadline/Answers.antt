-- What was gathered is written out.
use Rattle.std.proofs.Common.{refl, sym, ap, not, ◌∙◌, rules, tests, ◌∷◌, []}
use Rattle.rules.specs.Plain as plain
use Rattle.rules.specs.Readings.{past_deadline, term_words}
use Rattle.entry.specs.Entry.{plain_entry}
use Rattle.ledger.specs.Contents.{contents}
use Rattle.readings.proofs.Looked.{goes_on}
use Rattle.entry_lists.specs.Tests.{is_past}
use Rattle.entry_lists.proofs.Runs.{reads-run, picked}
use Rattle.entry_lists.proofs.past_deadline.Goals as goal

pub returns : goal.returns
unfolding contents past_deadline plain_entry
returns c =
    let a = c.args.ledger.now in
    let l = contents c.args.ledger.now in
    let p = is_past a.validity c.args.time.0 in
    let run = c.gather-n.ensures.items p (λ (e : plain.Entry). e.terms.at ∷ e.terms.end ∷ e.terms.anchor ∷ e.terms.charge ∷ []) (λ x. refl)
    (λ e r g s. picked (p (plain_entry e)) (e.at.0 ∷ e.end.0 ∷ e.anchor.0 ∷ e.charge ∷ []) r (search (rules, tests))) in
    reads-run term_words 5 (λ x. refl) (past_deadline c.args.time.0 l) _ _ _ l _ c.args.lent.now _ _ (goes_on _ 3 0 (ap not (sym c.is_time.ensures ∙ c.if-not-is_time.false))) run c.list.ensures

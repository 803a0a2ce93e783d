-- What was gathered is written out.
use Rattle.std.proofs.Common.{refl, sym, rules, tests, ◌∷◌, []}
use Rattle.rules.specs.Plain as plain
use Rattle.rules.specs.Readings.{issuers_of, issuer_words}
use Rattle.entry.specs.Entry.{plain_entry}
use Rattle.ledger.specs.Contents.{contents}
use Rattle.entry_lists.specs.Tests.{holds_id}
use Rattle.entry_lists.proofs.ByEntry.{issuers_hold}
use Rattle.entry_lists.proofs.Runs.{reads-run, picked}
use Rattle.entry_lists.proofs.issuers_of.Goals as goal

pub returns : goal.returns
unfolding contents plain_entry
returns c =
    let a = c.args.ledger.now in
    let l = contents c.args.ledger.now in
    let p = holds_id a.local.0 c.args.id in
    let run = c.gather-n.ensures.items p (λ (e : plain.Entry). e.terms.end ∷ []) (λ x. refl)
    (λ e r g s. picked (p (plain_entry e)) (e.end.0 ∷ []) r (search (rules, tests))) in
    let same = rw (sym (issuers_hold l c.requires.good c.args.id)) at run in
    reads-run issuer_words 2 (λ x. refl) (issuers_of c.args.id l) _ _ _ l _ c.args.lent.now _ _ refl same c.list.ensures

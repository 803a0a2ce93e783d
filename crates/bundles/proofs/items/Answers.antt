-- An item of another kind is passed by; one of the kind is done, and where it is refused the items end.
use Rattle.std.specs.Prelude.{Err}
use Rattle.std.proofs.Common.{◌≡◌, ◌∙◌, sym, ap₂, arith, rules, ne_eqb}
use Rattle.words.specs.Bundle.{item_of}
use Rattle.words.proofs.Bundles.{bundled}
use Rattle.ledger.specs.Contents.{contents}
use Rattle.bundles.proofs.Going.{going, gone, passed_by, turned_away, answer-few, taken}
use Rattle.bundles.proofs.items.Goals as goal

pub loop-i-init : goal.loop-i-init
loop-i-init c = going c.args.kind c.args.bundle.words.now c.args.bundle.formed c.args.ledger.now _ c.requires c.items_at-at.ensures

pub item-words-requires : goal.item-words-requires
item-words-requires c = (omega (arith, c.loop-i-test.true, c.len-i-end.ensures), c.loop-i.invariant.reach)

pub loop-i-preserved-then-kind : goal.loop-i-preserved-then-kind
loop-i-preserved-then-kind c =
    let l = c.loop-i in
    passed_by c.args.kind c.args.bundle.words.now c.args.bundle.formed (contents c.args.ledger.now) l.ledger l.at l.count l.i l.invariant (omega (arith, c.loop-i-test.true, c.len-i-end.ensures))
    c.item-words.result.now c.item-words.ensures (ne_eqb _ _ (λ q. c.if-kind.true (c.kind.ensures ∙ q)))

pub item-requires : goal.item-requires
item-requires c = c.loop-i.invariant.held

pub returns-in_err-answers : goal.returns-in_err-answers
returns-in_err-answers c =
    let l = c.loop-i in
    let said : c.from_residual.result ≡ Err c.in_err-answers.field-0.0 = search rules in
    rw said
    (turned_away c.args.kind c.args.bundle.words.now c.args.bundle.formed (contents c.args.ledger.now) l.ledger l.at l.count l.i l.invariant (omega (arith, c.loop-i-test.true, c.len-i-end.ensures))
    c.item-words.result.now (ap₂ item_of (sym c.if-kind.false ∙ c.kind.ensures) c.item-words.ensures) _ _ c.in_err-answers.ensures)

pub overflow_add-count : goal.overflow_add-count
overflow_add-count c =
    let l = c.loop-i in
    let few = answer-few c.args.kind c.args.bundle.words.now c.args.bundle.formed (contents c.args.ledger.now) l.ledger l.at l.count l.i l.invariant (omega (arith, c.loop-i-test.true, c.len-i-end.ensures))
    c.item-words.result.now (ap₂ item_of (sym c.if-kind.false ∙ c.kind.ensures) c.item-words.ensures) _ _ c.in_ok-answers.ensures in
    omega (arith, few, l.invariant.few, c.loop-i-test.true, c.len-i-end.ensures, bundled c.args.bundle.words.now c.args.bundle.formed)

pub loop-i-preserved : goal.loop-i-preserved
loop-i-preserved c =
    let l = c.loop-i in
    taken c.args.kind c.args.bundle.words.now c.args.bundle.formed (contents c.args.ledger.now) l.ledger l.at l.count l.i l.invariant (omega (arith, c.loop-i-test.true, c.len-i-end.ensures))
    c.item-words.result.now (ap₂ item_of (sym c.if-kind.false ∙ c.kind.ensures) c.item-words.ensures) _ _ c.in_ok-answers.ensures

pub returns : goal.returns
returns c =
    gone c.args.kind c.args.bundle.words.now c.args.bundle.formed (contents c.args.ledger.now) c.loop-i.ledger c.loop-i.at c.loop-i.count c.loop-i.i c.loop-i.invariant (omega (arith, c.loop-i-test.false, c.len-i-end.ensures))

-- The form, the making, and what it is filled with.
use Rattle.std.proofs.Common.{◌∙◌, sym}
use Rattle.snapshots.proofs.Restoring.{not_formed, not_framed, is_made, not_filled, is_filled}
use Rattle.snapshots.proofs.restore.restore.Goals as goal

pub returns-then-not-is_formed : goal.returns-then-not-is_formed
returns-then-not-is_formed c = not_formed c.args.words.now (sym c.is_formed.ensures ∙ c.if-not-is_formed.true) _ c.refused.ensures

pub returns-then-is_err : goal.returns-then-is_err
returns-then-is_err c =
    not_framed c.args.words.now (sym c.is_formed.ensures ∙ c.if-not-is_formed.false) c.framed-done.result c.framed-done.ensures
    (sym c.is_err.ensures.value ∙ c.if-is_err.true) _ c.refused-then-is_err.ensures

pub fill-requires : goal.fill-requires
fill-requires c =
    is_made c.args.words.now (sym c.is_formed.ensures ∙ c.if-not-is_formed.false) c.framed-done.result c.framed-done.ensures
    (sym c.is_err.ensures.value ∙ c.if-is_err.false)

pub returns-then-not-fill : goal.returns-then-not-fill
returns-then-not-fill c =
    not_filled c.args.words.now (sym c.is_formed.ensures ∙ c.if-not-is_formed.false) c.framed-done.result c.framed-done.ensures
    (sym c.is_err.ensures.value ∙ c.if-is_err.false) c.fill.new.ledger c.fill.result c.fill.ensures c.if-not-fill.true _ c.refused-then-not-fill.ensures

pub returns : goal.returns
returns c =
    is_filled c.args.words.now (sym c.is_formed.ensures ∙ c.if-not-is_formed.false) c.framed-done.result c.framed-done.ensures
    (sym c.is_err.ensures.value ∙ c.if-is_err.false) c.fill.new.ledger c.fill.result c.fill.ensures c.if-not-fill.false

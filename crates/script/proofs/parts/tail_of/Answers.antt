-- `script::parts::tail_of`: A token more, the lent count, and the end of the line are a law each.
-- Assumes nothing.
use Rattle.std.proofs.Common.{arith, ◌∙◌, ap, sym}
use Rattle.script.specs.Texts.{same_text}
use Rattle.script.proofs.Grammar.{tail_lent, numbers-lent, tail_number, numbers_number, tail_not, tail_many, tail_end, numbers-end, stored_number, all_stored, lent_stored}
use Rattle.script.proofs.parts.tail_of.Goals as goal

pub returns-then-is_lent : goal.returns-then-is_lent
returns-then-is_lent c =
    let s = sym c.if-is_lent.true ∙ c.eq-is_lent.ensures ∙ ap (same_text _) c.as_slice.ensures in
    let q = c.with_lent.ensures ∙ sym (tail_lent _ _ _ c.in-Some.ensures.token _ s) ∙ c.loop-token.invariant.tail in
    record {
      value = q;
      numbers_after = lent_stored _ _ _ _ _ _ c.with_lent.ensures (numbers-lent _ _ _ c.in-Some.ensures.token s) c.loop-token.invariant.numbers;
    }

pub returns-in_err-n-clause-value : goal.returns-in_err-n-clause-value
returns-in_err-n-clause-value c =
    let s = sym c.if-is_lent.false ∙ c.eq-is_lent.ensures ∙ ap (same_text _) c.as_slice.ensures in
    c.from_residual.ensures ∙ sym (tail_not _ _ _ c.in-Some.ensures.token _ s c.in_err-n.ensures) ∙ c.loop-token.invariant.tail

pub returns-then-count-ge8192-clause-value : goal.returns-then-count-ge8192-clause-value
returns-then-count-ge8192-clause-value c =
    let s = sym c.if-is_lent.false ∙ c.eq-is_lent.ensures ∙ ap (same_text _) c.as_slice.ensures in
    sym (tail_many _ _ _ c.in-Some.ensures.token _ _ s c.in_ok-n.ensures c.if-count-ge8192.true) ∙ c.loop-token.invariant.tail

pub loop-token-preserved : goal.loop-token-preserved
loop-token-preserved c =
    let s = sym c.if-is_lent.false ∙ c.eq-is_lent.ensures ∙ ap (same_text _) c.as_slice.ensures in
    record {
      tail = sym (tail_number _ _ _ c.in-Some.ensures.token _ _ s c.in_ok-n.ensures c.if-count-ge8192.false) ∙ c.loop-token.invariant.tail;
      numbers = stored_number c.loop-token.numbers c.loop-token.count _ _ _ _ (omega arith) (numbers_number _ _ _ c.in-Some.ensures.token _ s c.in_ok-n.ensures) c.loop-token.invariant.numbers;
    }

pub returns-clause-value : goal.returns-clause-value
returns-clause-value c = sym (tail_end _ _ c.in_default.ensures.token) ∙ c.loop-token.invariant.tail

pub returns-clause-numbers_after : goal.returns-clause-numbers_after
returns-clause-numbers_after c = all_stored c.loop-token.numbers _ _ c.loop-token.count (numbers-end _ c.in_default.ensures.token) c.loop-token.invariant.numbers

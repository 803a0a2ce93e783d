-- `script::numbers::value_of`: Each turn takes a digit more, or meets a byte that makes no number.
-- Assumes nothing.
use Rattle.std.proofs.Common.{arith, rules, add-one, ◌∙◌}
use Rattle.script.proofs.Digits.{no_token, start, at-taken, at-refused, at-end}
use Rattle.script.proofs.numbers.value_of.Goals as goal

pub returns-then-is_empty : goal.returns-then-is_empty
returns-then-is_empty c = no_token _ (search rules)

pub loop-byte-init : goal.loop-byte-init
loop-byte-init c = (omega arith, start _ (search rules))

pub returns-in_err-value : goal.returns-in_err-value
returns-in_err-value c = c.from_residual.ensures ∙ at-refused _ _ _ c.loop-byte.invariant.1 (omega arith) c.in_err-value.ensures

pub loop-byte-preserved : goal.loop-byte-preserved
loop-byte-preserved c =
    let q = at-taken _ _ _ c.loop-byte.invariant.1 c.in_ok-value.value (omega arith) c.in_ok-value.ensures in
    (q.1, rw add-one q.0)

pub returns : goal.returns
returns c = at-end c.args.token.now c.loop-byte.byte-index _ c.loop-byte.invariant.1 (omega arith) (omega arith)

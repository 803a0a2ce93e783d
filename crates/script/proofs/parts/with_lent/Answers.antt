-- `script::parts::with_lent`: No token, several and one are a law each.
-- Assumes nothing.
use Rattle.std.proofs.Common.{◌∙◌, ap, rules}
use Rattle.script.specs.Grammar.{lent_then}
use Rattle.script.proofs.Grammar.{lent_one}
use Rattle.script.proofs.parts.with_lent.Goals as goal

pub returns-in_err-value_of : goal.returns-in_err-value_of
returns-in_err-value_of c =
    c.from_residual-in_err-value_of.ensures ∙ ap (lent_then _) c.in_err-value_of.ensures ∙ lent_one _ _ _ _ c.in_ok-token.ensures.token (search rules)

pub returns : goal.returns
returns c = c.lent_number.ensures ∙ ap (lent_then _) c.in_ok-value_of.ensures ∙ lent_one _ _ _ _ c.in_ok-token.ensures.token (search rules)

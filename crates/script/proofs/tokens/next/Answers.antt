-- `script::tokens::next`: The first byte is the space, and the token is the first of the rest.
-- Assumes nothing.
use Rattle.script.proofs.Grammar.{next_token}
use Rattle.script.proofs.tokens.next.Goals as goal

pub returns-clause-token : goal.returns-clause-token
returns-clause-token c = next_token _ _ _ _ _ c.in_ok-behind.ensures.cases.0 c.cut.ensures.token c.cut.ensures.rest

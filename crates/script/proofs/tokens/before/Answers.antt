-- `script::tokens::before`: The bytes counted are those in front of the first that is it.
-- Assumes nothing.
use Rattle.std.proofs.Common.{ℕ, Bool, ◌∙◌, ◌==◌, rules, tests}
use mathlib.Core.Bool.{not}
use Rattle.std.proofs.lemmas.Iterator.{YieldsList-from_slice}
use Rattle.std.proofs.lemmas.Iterator.Consumers.{YieldsList-at, count_from_yields_List}
use Rattle.std.proofs.lemmas.Iterator.Search.{YieldsList-from_take_while}
use Rattle.std.proofs.lemmas.List.Folds.{length-prefix_len}
use Rattle.script.proofs.Grammar.{up_to_counted}
use Rattle.script.proofs.tokens.before.Goals as goal

pub returns : goal.returns
returns c =
    let text = c.args.text.now in
    let other : ℕ → Bool = λ b. not (b == c.args.byte) in
    up_to_counted _ _ _ (count_from_yields_List c.take_while.result _ c.count.ensures.ran
    (YieldsList-from_take_while _ other (YieldsList-at c.take_while.ensures.source (YieldsList-from_slice text cc)) c.take_while.ensures.closure c.take_while.ensures.done (λ x b q k. search (rules, tests)))
    ∙ length-prefix_len other text)

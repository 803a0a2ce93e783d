-- What the library counts is the rank by whatever test the closure's answers are.
use Rattle.std.proofs.Common.{◌∙◌, rules, refl}
use Rattle.std.proofs.lemmas.Fn.{says_at}
use Rattle.std.proofs.lemmas.Iterator.{YieldsList-from_slice}
use Rattle.std.proofs.lemmas.Iterator.Consumers.{YieldsList-at, count_from_yields_List}
use Rattle.std.proofs.lemmas.Iterator.Search.{YieldsList-from_take_while}
use Rattle.std.proofs.lemmas.List.Folds.{length-prefix_len}
use Rattle.lists.proofs.Std.{rank_is}
use Rattle.lists.proofs.sorted.rank.Goals as goal

pub returns : goal.returns
returns g c = λ p says.
    let s = c.args.s.now in
    count_from_yields_List c.take_while.result _ c.count.ensures.ran
    (YieldsList-from_take_while _ p (YieldsList-at c.take_while.ensures.source (YieldsList-from_slice s cc)) c.take_while.ensures.closure c.take_while.ensures.done (λ x b q k. (search rules, says _ _ (says_at g.F.Fn {y = x} (search rules) refl))))
    ∙ length-prefix_len p s ∙ rank_is p s

-- What the library finds is the place by whatever test the closure's answers are.
use Rattle.std.proofs.Common.{◌∙◌, rules, refl}
use Rattle.std.proofs.lemmas.Fn.{says_at}
use Rattle.std.proofs.lemmas.Iterator.{YieldsList-from_slice}
use Rattle.std.proofs.lemmas.Iterator.Search.{position_from_yields_List}
use Rattle.std.proofs.lemmas.Iterator.Adapters.{position_from-zero}
use Rattle.lists.proofs.Std.{place_is}
use Rattle.lists.proofs.sorted.find.Goals as goal

pub returns : goal.returns
returns g c = λ p says.
    let s = c.args.s.now in
    position_from_yields_List p _ _ _ c.position.ensures.ran (YieldsList-from_slice s cc) (λ x b q k. (search rules, says _ _ (says_at g.F.Fn {y = x} (search rules) refl)))
    ∙ position_from-zero p s ∙ place_is p 0 s

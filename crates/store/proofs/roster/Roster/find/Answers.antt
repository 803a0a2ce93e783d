-- The library's search, read in the rules' words.
use Rattle.std.proofs.Common.{◌∙◌, rules, tests, take}
use Rattle.std.proofs.lemmas.Iterator.{YieldsList-from_slice}
use Rattle.std.proofs.lemmas.Iterator.Search.{position_from_yields_List}
use Rattle.std.proofs.lemmas.Iterator.Adapters.{position_from-zero}
use Rattle.lists.proofs.Std.{place_is}
use Rattle.store.specs.Roster.{is}
use Rattle.types.specs.Transactions.{number_of}
use Rattle.store.proofs.roster.Roster.find.Goals as goal

pub returns : goal.returns
returns c =
    let test = is (number_of c.args.tx) in
    let l = take c.args.self.now.len c.args.self.now.keys in
    position_from_yields_List test _ _ _ c.position.ensures.ran (YieldsList-from_slice l cc) (λ x b q k. search (rules, tests))
    ∙ position_from-zero test l ∙ place_is test 0 l

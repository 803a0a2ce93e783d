-- Some route is not owned where one is left of those that are not.
use Rattle.std.proofs.Common.{rules, tests, sym, ◌∙◌, take}
use Rattle.std.proofs.lemmas.Iterator.{YieldsList-from_slice}
use Rattle.std.proofs.lemmas.Iterator.Search.{any_from_yields_List}
use Rattle.entry.specs.Entry.{plain_entry}
use Rattle.lists.proofs.Listing.{filled-kept}
use Rattle.rules.specs.Plain.{is_remote}
use Rattle.entry.proofs.Entry.reaches_beyond.Goals as goal

pub returns : goal.returns
unfolding plain_entry
returns c =
    let a = c.args in
    let rs = take a.self.now.routes_len a.self.now.routes in
    any_from_yields_List (is_remote a.local.0) c.any.new.self _ _ c.any.ensures.ran (YieldsList-from_slice rs cc) (λ x b q k. search (rules, tests))
    ∙ sym (filled-kept (is_remote a.local.0) rs)

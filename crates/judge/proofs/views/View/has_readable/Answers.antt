-- A test of the view is one of the departures that it shows.
use Rattle.std.proofs.Common.{rules, tests, ◌∙◌}
use Rattle.std.proofs.lemmas.Iterator.{YieldsList-from_slice}
use Rattle.std.proofs.lemmas.Iterator.Search.{any_from_yields_List}
use Rattle.lists.specs.Front.{held}
use Rattle.judge.proofs.Seeing.{seen_open, said-named, said-open}
use Rattle.judge.proofs.views.View.has_readable.Goals as goal

pub returns : goal.returns
returns c ds now e s named some =
    let v = c.args.self.now in
    let shard = c.args.departed_by.0 in
    said-named now ds e c.any.result shard named some
    (any_from_yields_List (seen_open shard) c.any.new.self _ _ c.any.ensures.ran (YieldsList-from_slice (held v.seen) cc) (λ x b q k. search (rules, tests))
    ∙ said-open ds now v shard s)

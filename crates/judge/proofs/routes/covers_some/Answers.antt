-- The test of a route is the rules', of what local does not own.
use Rattle.std.proofs.Common.{rules, tests, take}
use Rattle.std.proofs.lemmas.Iterator.{YieldsList-from_slice}
use Rattle.std.proofs.lemmas.Iterator.Search.{any_from_yields_List}
use Rattle.judge.specs.View.{departure_of}
use Rattle.judge.proofs.Seeing.{over_remote, said_covers}
use Rattle.judge.proofs.routes.covers_some.Goals as goal

pub returns : goal.returns
returns c d e good es ez ec asks =
    let a = c.args in
    let x = a.d in
    let rs = take a.e.now.routes_len a.e.now.routes in
    let anchor = a.e.now.anchor.0 in
    said_covers a.local.0 rs d e x c.any.result anchor es ec asks
    (any_from_yields_List (over_remote anchor a.local.0 (departure_of x)) c.any.new.self _ _ c.any.ensures.ran (YieldsList-from_slice rs cc) (λ y b q k. search (rules, tests)))

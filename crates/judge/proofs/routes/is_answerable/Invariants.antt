-- The answer over the routes still to come is the answer over all; what is left of the departures over a route is readable as far as it was gone through.
use Rattle.std.proofs.Common.{◌≡◌, ℕ, List, take, drop, false}
use Rattle.lists.specs.Lists.{any}
use Rattle.rules.specs.Plain.{Departure}
use Rattle.judge.specs.View.{Shows}
use Rattle.judge.proofs.Seeing.{answered}
use Rattle.judge.proofs.Leaving.{AllRead}
use Rattle.judge.proofs.routes.is_answerable.Given as goal

abbrev pub invariant-loop-place : goal.invariant-loop-place
invariant-loop-place l = AllRead l.view l.place-items l.place-index

abbrev pub invariant-routes : goal.invariant-routes
invariant-routes l =
    let rs = take l.e.routes_len l.e.routes in
    (l.stands ≡ false)
    × ((ds : List Departure) (now : ℕ) → Shows ds now l.view → any (answered now ds l.anchor.0 l.local.0) (drop l.i rs) ≡ any (answered now ds l.anchor.0 l.local.0) rs)

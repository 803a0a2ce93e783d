-- The first route over which all that is left is readable ends the search; one unreadable departure left makes the next route's turn.
use Rattle.std.proofs.Common.{◌≡◌, sym, ap, ◌∙◌, not, ◌&&◌, true, false, arith, get_or, take}
use Rattle.lists.proofs.Loops.{any_hit, any_miss, any-end}
use Rattle.lists.proofs.Tests.{and_false, and_both}
use Rattle.rules.specs.Plain.{is_remote}
use Rattle.rules.specs.Over.{counting}
use Rattle.rules.specs.Prune.{answerable}
use Rattle.judge.proofs.Seeing.{answered, said-answers}
use Rattle.judge.proofs.Leaving.{answers, silent}
use Rattle.judge.proofs.routes.is_answerable.Goals as goal

pub routes-preserved : goal.routes-preserved
routes-preserved c =
    let l = c.routes in
    let a = c.args in
    let e = a.e.now in
    let v = a.view.now in
    let left = c.departure_over-counting.result in
    let made = c.departure_over-counting.ensures in
    let k = c.loop-place.place-index in (
      l.invariant.0,
      λ ds now s.
          let p = answered now ds e.anchor.0 a.local.0 in
          let route = get_or e.routes l.i 0 in
          let none = silent ds now v s left made.on_file _ c.as_slice-place-items.ensures e.anchor.0 route (made.left ds now s) k c.loop-place-test.true _ c.if-not-view-place.true in
          let miss : p route ≡ false = ap (λ b. is_remote a.local.0 route && b) none ∙ and_false (is_remote a.local.0 route) in
          any_miss p 0 e.routes l.i e.routes_len (omega arith) (omega arith) miss ∙ l.invariant.1 ds now s,
    )

pub returns-after-routes : goal.returns-after-routes
returns-after-routes c ds now x s asks =
    let l = c.routes in
    let a = c.args in
    let e = a.e.now in
    let p = answered now ds e.anchor.0 a.local.0 in
    said-answers now ds a.local.0 (take e.routes_len e.routes) x l.stands e.anchor.0 asks
    (l.invariant.0 ∙ sym (any-end p e.routes l.i e.routes_len (omega arith) (omega arith)) ∙ l.invariant.1 ds now s)

pub returns-after-loop-place : goal.returns-after-loop-place
returns-after-loop-place c ds now x s asks =
    let l = c.routes in
    let a = c.args in
    let e = a.e.now in
    let left = c.departure_over-counting.result in
    let made = c.departure_over-counting.ensures in
    let p = answered now ds e.anchor.0 a.local.0 in
    let route = get_or e.routes l.i 0 in
    let all = answers ds now a.view.now s left made.on_file _ c.as_slice-place-items.ensures e.anchor.0 route (made.left ds now s) c.loop-place.place-index (omega arith) c.loop-place.invariant in
    let hit : p route ≡ true =
    and_both (is_remote a.local.0 route) (answerable now (counting e.anchor.0 route ds))
    (ap not (sym c.owns.ensures ∙ c.if-owns.false)) all in
    said-answers now ds a.local.0 (take e.routes_len e.routes) x true e.anchor.0 asks
    (sym (any_hit p 0 e.routes l.i e.routes_len (omega arith) (omega arith) hit) ∙ l.invariant.1 ds now s)

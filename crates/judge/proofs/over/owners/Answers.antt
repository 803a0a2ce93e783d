-- A turn puts the place of an owner down, and passes another by.
use Rattle.std.proofs.Common.{◌∙◌, arith, sym, ap, get_or}
use Rattle.rules.specs.Over.{is_owner}
use Rattle.judge.specs.Over.{at_place}
use Rattle.judge.proofs.Seeing.{owner_at}
use Rattle.judge.proofs.Leaving.{one_more, passed_by, all_left, still_on_file, owners_in_words}
use Rattle.judge.proofs.over.owners.Goals as goal

pub departures-preserved-then-not-is_owner : goal.departures-preserved-then-not-is_owner
departures-preserved-then-not-is_owner c =
    let l = c.departures in
    let v = c.args.view.now in
    let route = c.args.route in (
      omega (arith, l.invariant.0),
      l.invariant.1,
      λ ds now s. passed_by ds (is_owner route) ds l.j (omega (arith, s.count)) _ (l.invariant.2 ds now s)
          (sym (owner_at ds now v s l.j _ (omega arith) (ap (λ x. get_or v.seen.items l.j x) c.index-view-j.is) route) ∙ sym c.is_owner.ensures ∙ c.if-not-is_owner.true),
    )

pub departures-preserved : goal.departures-preserved
departures-preserved c =
    let l = c.departures in
    let v = c.args.view.now in
    let route = c.args.route in (
      omega (arith, l.invariant.0, c.push.ensures.count),
      still_on_file v.seen.len _ _ l.j l.invariant.1 (omega arith) c.push.ensures.list,
      λ ds now s. one_more ds (is_owner route) ds l.j (omega (arith, s.count)) _ (l.invariant.2 ds now s) _ l.j (λ i. at_place ds l.j)
          (sym (owner_at ds now v s l.j _ (omega arith) (ap (λ x. get_or v.seen.items l.j x) c.index-view-j.is) route) ∙ sym c.is_owner.ensures ∙ c.if-not-is_owner.false) c.push.ensures.list,
    )

pub returns : goal.returns
returns c =
    let l = c.departures in
    let route = c.args.route in
    owners_in_words c.args.view.now route l.left l.invariant.1 (λ ds now s. all_left (is_owner route) ds _ l.j (omega (arith, s.count)) (l.invariant.2 ds now s))

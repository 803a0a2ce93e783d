-- A turn puts the place of a cut after the anchor down, and passes another by.
use Rattle.std.proofs.Common.{◌∙◌, arith, sym, ap, length, get_or}
use Rattle.lists.proofs.Held.{held-length}
use Rattle.rules.specs.Over.{is_after}
use Rattle.judge.specs.Over.{left_of}
use Rattle.judge.proofs.Seeing.{after_at}
use Rattle.judge.proofs.Leaving.{one_more, passed_by, all_left, still_on_file, left_length, turn_on, turn_at, turn_in, cuts_in_words}
use Rattle.judge.proofs.over.cuts_after.Goals as goal

pub departures-preserved-then-not-is_after : goal.departures-preserved-then-not-is_after
departures-preserved-then-not-is_after c =
    let l = c.departures in
    let v = c.args.view.now in
    let owners = c.args.owners.now in
    let anchor = c.args.anchor.0 in
    let same = c.as_slice-place-items.ensures in
    let place = get_or c.as_slice-place-items.result.now l.place-index 0 in
    let more = c.departures-test.true in (
      omega (arith, l.invariant.0),
      l.invariant.1,
      λ ds now s. passed_by ds (is_after anchor) (left_of ds owners) l.place-index (turn_in owners _ same _ more ds) _ (l.invariant.2 ds now s)
          (ap (is_after anchor) (turn_at owners _ same _ more ds)
          ∙ sym (after_at ds now v s place _ (turn_on owners _ same _ more v c.requires) (ap (λ x. get_or v.seen.items place x) c.index-view-place.is) anchor)
          ∙ sym c.is_after.ensures ∙ c.if-not-is_after.true),
    )

pub departures-preserved : goal.departures-preserved
departures-preserved c =
    let l = c.departures in
    let v = c.args.view.now in
    let owners = c.args.owners.now in
    let anchor = c.args.anchor.0 in
    let same = c.as_slice-place-items.ensures in
    let place = get_or c.as_slice-place-items.result.now l.place-index 0 in
    let more = c.departures-test.true in
    let on = turn_on owners _ same _ more v c.requires in (
      omega (arith, l.invariant.0, c.push.ensures.count),
      still_on_file v.seen.len _ _ place l.invariant.1 on c.push.ensures.list,
      λ ds now s. one_more ds (is_after anchor) (left_of ds owners) l.place-index (turn_in owners _ same _ more ds) _ (l.invariant.2 ds now s) _ place (sym (turn_at owners _ same _ more ds))
          (sym (after_at ds now v s place _ on (ap (λ x. get_or v.seen.items place x) c.index-view-place.is) anchor) ∙ sym c.is_after.ensures ∙ c.if-not-is_after.false)
          c.push.ensures.list,
    )

pub returns : goal.returns
returns c =
    let l = c.departures in
    let anchor = c.args.anchor.0 in
    let owners = c.args.owners.now in
    cuts_in_words c.args.view.now anchor owners l.left l.invariant.1
    (λ ds now s. all_left (is_after anchor) (left_of ds owners) _ l.place-index (omega (arith, left_length ds owners, held-length owners.places, ap length c.as_slice-place-items.ensures)) (l.invariant.2 ds now s))

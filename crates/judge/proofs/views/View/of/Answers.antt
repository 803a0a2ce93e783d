-- A turn sees one departure.
use Rattle.std.proofs.Common.{get_or, length, arith, ap, sym, subst, ◌∙◌, refl}
use Rattle.std.specs.Int.Count.{count_leading_zeros}
use Rattle.rules.specs.Plain.{Departure}
use Rattle.lists.proofs.Held.{held-length, held_at, each_pushed}
use Rattle.store.specs.Departures.{on_file}
use Rattle.store.proofs.Filed.{file-length}
use Rattle.judge.specs.View.{Sees}
use Rattle.judge.specs.declared.views.Seen.{Seen}
use Rattle.judge.proofs.Filling.{good_at, place_on_file}
use Rattle.judge.proofs.views.View.of.Goals as goal

pub invariant_of-none-clause-topped : goal.invariant_of-none-clause-topped
unfolding count_leading_zeros
invariant_of-none-clause-topped c = refl

pub of-requires : goal.of-requires
of-requires c = good_at c.args.d _ c.as_slice-departure-items.ensures c.loop-departure.departure-index (omega arith) _ c.requires.rows.each

pub loop-departure-init : goal.loop-departure-init
loop-departure-init c = (c.new-seen.ensures.count, λ k x h d. absurd (omega (arith, c.new-seen.ensures.count)))

pub loop-departure-preserved : goal.loop-departure-preserved
loop-departure-preserved c =
    let l = c.loop-departure in
    let d = c.args.d in
    let e = c.as_slice-departure-items.ensures in
    let here = λ (p : Departure). sym (ap (λ j. get_or (on_file d) j p) l.invariant.0 ∙ place_on_file d _ e l.departure-index (omega arith) p _) in (
      omega (arith, c.push.ensures.count, l.invariant.0),
      λ k x h. each_pushed l.seen (λ j (y : Seen). (p : Departure) → Sees c.args.time.0 (get_or (on_file d) j p) y) c.of.result _ c.push.ensures.list l.invariant.1
          (λ p. subst (λ q. Sees c.args.time.0 q c.of.result) (here p) c.of.ensures) k x (omega (arith, c.push.ensures.count)),
    )

pub returns : goal.returns
returns c =
    let l = c.loop-departure in
    let d = c.args.d in
    record {
      good = c.requires;
      count = omega (arith, file-length d, ap length c.as_slice-departure-items.ensures, held-length d.front);
      seen = λ j p x h. rw (held_at l.seen j x h) at (l.invariant.1 j x h p);
    }

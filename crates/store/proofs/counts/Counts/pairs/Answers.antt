-- Two words more are one pair.
use Rattle.std.proofs.Common.{refl, ap, arith}
use Rattle.lists.specs.Lists.{concat_map}
use Rattle.lists.specs.Front.{held}
use Rattle.lists.proofs.Held.{put_behind, all_put, next_held, none_held}
use Rattle.rules.specs.Snapshot.{count_words}
use Rattle.store.specs.Counts.{plain_count}
use Rattle.store.specs.declared.counts.Count.{Count}
use Rattle.store.proofs.counts.Counts.pairs.Goals as goal

abbrev none : Count
none = record { shard = record { 0 = 0 }; rebuilt = 0 }

pub loop-c-preserved : goal.loop-c-preserved
loop-c-preserved c =
    let l = c.loop-c in
    let xs = c.as_slice-c-items in
    let next = ap (concat_map count_words) (next_held c.args.self.now.front plain_count xs.result.now xs.ensures l.c-index none c.loop-c-test.true) in (
      omega (arith, c.push-in-loop-c.ensures.count, c.push.ensures.count, l.invariant.0),
      put_behind _ _ _ _ _ _ refl c.push-in-loop-c.ensures.list (put_behind _ _ _ _ _ _ next c.push.ensures.list l.invariant.1),
    )

pub returns : goal.returns
returns c =
    let l = c.loop-c in
    let xs = c.as_slice-c-items in
    let none = ap (concat_map count_words) (none_held c.args.self.now.front plain_count xs.result.now xs.ensures l.c-index c.loop-c-test.false) in
    all_put _ (held l.words) _ none l.invariant.1

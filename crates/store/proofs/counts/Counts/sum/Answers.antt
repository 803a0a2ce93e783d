-- What stops at the largest word on the way stops there in all.
use Rattle.std.proofs.Common.{ℕ, ap, arith}
use Rattle.lists.specs.Lists.{total}
use Rattle.lists.proofs.Held.{next_held, none_held}
use Rattle.rules.specs.Plain as plain
use Rattle.store.specs.Counts.{plain_count}
use Rattle.store.specs.declared.counts.Count.{Count}
use Rattle.store.proofs.counts.Counts.sum.Goals as goal

abbrev of_each : plain.Count → ℕ
of_each c = c.rebuilt

abbrev none : Count
none = record { shard = record { 0 = 0 }; rebuilt = 0 }

pub loop-c-preserved : goal.loop-c-preserved
loop-c-preserved c =
    let l = c.loop-c in
    let xs = c.as_slice-c-items in
    let next = ap (total of_each) (next_held c.args.self.now.front plain_count xs.result.now xs.ensures l.c-index none c.loop-c-test.true) in
    (omega (arith, c.add-sum.ensures), omega (arith, next, c.add-sum.ensures, l.invariant.0, l.invariant.1))

pub returns : goal.returns
returns c =
    let l = c.loop-c in
    let xs = c.as_slice-c-items in
    let none = ap (total of_each) (none_held c.args.self.now.front plain_count xs.result.now xs.ensures l.c-index c.loop-c-test.false) in
    omega (arith, none, l.invariant.0, l.invariant.1)

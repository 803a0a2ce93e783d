-- One more is put behind them.
use Rattle.std.proofs.Common.{◌∙◌, sym, arith}
use Rattle.lists.proofs.Coming.{all_to_come}
use Rattle.lists.proofs.Held.{mapped-length}
use Rattle.lists.specs.Lists.{rows}
use Rattle.rules.specs.Plain.{counted_shard}
use Rattle.rules.specs.Snapshot.{count_in, count_sound}
use Rattle.store.specs.Counts.{Holds}
use Rattle.store.specs.Stored.{plain_count}
use Rattle.snapshots.proofs.Rows.{stops_unsound, stops_unordered, may_come, came, all_filed}
use Rattle.snapshots.proofs.counts.count_all.Goals as goal

pub loop-i-init : goal.loop-i-init
loop-i-init c = rw c.requires.0 (all_to_come counted_shard count_sound count_in (rows 2 c.args.count c.args.words.now))

pub returns-then-not-is_count : goal.returns-then-not-is_count
returns-then-not-is_count c =
    let l = c.loop-i in
    stops_unsound counted_shard count_sound count_in Holds 2 c.args.count c.args.words.now l.invariant c.loop-i-test.true _ c.part-row.ensures
    (sym c.is_count.ensures ∙ c.if-not-is_count.true) _

pub returns-then-not-is_last : goal.returns-then-not-is_last
returns-then-not-is_last c =
    let l = c.loop-i in
    stops_unordered counted_shard count_sound count_in Holds 2 c.args.count c.args.words.now l.invariant c.loop-i-test.true _ c.part-row.ensures
    (plain_count c.read_count-c.result) c.read_count-c.ensures (sym c.is_last.ensures ∙ c.if-not-is_last.true) _

pub push-requires : goal.push-requires
push-requires c =
    let l = c.loop-i in
    let may =
    may_come counted_shard count_sound count_in Holds 2 c.args.count c.args.words.now l.invariant c.loop-i-test.true _ c.part-row.ensures
    (plain_count c.read_count-c.result) c.read_count-c.ensures l.counts.rising (sym c.is_last.ensures ∙ c.if-not-is_last.false) in
    (omega (arith, may.0, mapped-length l.counts.front plain_count, c.requires.1), may.1)

pub loop-i-preserved : goal.loop-i-preserved
loop-i-preserved c =
    let l = c.loop-i in
    came counted_shard count_sound count_in Holds 2 c.args.count c.args.words.now l.invariant c.loop-i-test.true _ c.part-row.ensures
    (plain_count c.read_count-c.result) c.read_count-c.ensures (sym c.is_count.ensures ∙ c.if-not-is_count.false) _ c.push.ensures.counts

pub returns : goal.returns
returns c =
    let l = c.loop-i in
    all_filed counted_shard count_sound count_in Holds 2 c.args.count c.args.words.now l.invariant (omega (arith, c.loop-i-test.false)) l.counts.rising l.counts (λ e. record { counts = e })

-- One more is put behind them.
use Rattle.std.proofs.Common.{◌∙◌, sym, arith}
use Rattle.lists.proofs.Coming.{all_to_come}
use Rattle.lists.specs.Lists.{rows}
use Rattle.rules.specs.Plain.{shard_of}
use Rattle.rules.specs.Snapshot.{departure_in, departure_sound}
use Rattle.store.specs.Departures.{Holds}
use Rattle.store.specs.Stored.{plain_departure}
use Rattle.store.proofs.Filed.{file-length}
use Rattle.snapshots.proofs.Rows.{stops_unsound, stops_unordered, may_come, came, all_filed}
use Rattle.snapshots.proofs.departures.file_all.Goals as goal

pub loop-i-init : goal.loop-i-init
loop-i-init c = rw c.requires.0 (all_to_come shard_of departure_sound departure_in (rows 4 c.args.count c.args.words.now))

pub returns-then-not-is_departure : goal.returns-then-not-is_departure
returns-then-not-is_departure c =
    let l = c.loop-i in
    stops_unsound shard_of departure_sound departure_in Holds 4 c.args.count c.args.words.now l.invariant c.loop-i-test.true _ c.part-row.ensures
    (sym c.is_departure.ensures ∙ c.if-not-is_departure.true) _

pub returns-then-not-is_last : goal.returns-then-not-is_last
returns-then-not-is_last c =
    let l = c.loop-i in
    stops_unordered shard_of departure_sound departure_in Holds 4 c.args.count c.args.words.now l.invariant c.loop-i-test.true _ c.part-row.ensures
    (plain_departure c.read_departure-d.result) c.read_departure-d.ensures (sym c.is_last.ensures ∙ c.if-not-is_last.true) _

pub push-requires : goal.push-requires
push-requires c =
    let l = c.loop-i in
    let may =
    may_come shard_of departure_sound departure_in Holds 4 c.args.count c.args.words.now l.invariant c.loop-i-test.true _ c.part-row.ensures
    (plain_departure c.read_departure-d.result) c.read_departure-d.ensures l.departures.rising (sym c.is_last.ensures ∙ c.if-not-is_last.false) in
    (omega (arith, may.0, file-length l.departures, c.requires.1), may.1)

pub loop-i-preserved : goal.loop-i-preserved
loop-i-preserved c =
    let l = c.loop-i in
    came shard_of departure_sound departure_in Holds 4 c.args.count c.args.words.now l.invariant c.loop-i-test.true _ c.part-row.ensures
    (plain_departure c.read_departure-d.result) c.read_departure-d.ensures (sym c.is_departure.ensures ∙ c.if-not-is_departure.false) _ c.push.ensures.file

pub returns : goal.returns
returns c =
    let l = c.loop-i in
    all_filed shard_of departure_sound departure_in Holds 4 c.args.count c.args.words.now l.invariant (omega (arith, c.loop-i-test.false)) l.departures.rising l.departures (λ e. record { file = e })

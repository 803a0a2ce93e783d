-- Each departure is a row.
use Rattle.std.proofs.Common.{◌≡◌, ◌+◌, ◌++◌, ◌<◌, ℕ, List, None, ap, arith, drop, length, get_or}
use Rattle.lists.specs.Lists.{concat_map}
use Rattle.lists.specs.Front.{held}
use Rattle.lists.proofs.Held.{next_held, none_held}
use Rattle.rules.specs.Snapshot.{departure_words}
use Rattle.rules.proofs.SnapshotRead.{departure-length}
use Rattle.store.specs.declared.departures.Departure.{Departure}
use Rattle.store.specs.declared.departures.Departures.{Departures}
use Rattle.store.specs.Departures.{on_file}
use Rattle.store.specs.Stored.{plain_departure}
use Rattle.snapshots.proofs.Putting.{none_yet, one_put, all_put, room}
use Rattle.snapshots.proofs.Writing.{file-size}
use Rattle.snapshots.proofs.write.put_departures.Goals as goal

-- the next of the departures
next : (x : Departures) (xs : List Departure) → xs ≡ held x.front → (i : ℕ) (d : Departure) → i < length xs →
    concat_map departure_words (drop i (on_file x)) ≡ departure_words (plain_departure (get_or xs i d)) ++ concat_map departure_words (drop (i + 1) (on_file x))
next x xs e i d h = ap (concat_map departure_words) (next_held x.front plain_departure xs e i d h)

none : Departure
none = record { shard = record { 0 = 0 }; cut = record { 0 = 0 }; until = None }

pub loop-d-init : goal.loop-d-init
loop-d-init c = none_yet _ _ _

pub put_departure-end-requires : goal.put_departure-end-requires
put_departure-end-requires c =
    let l = c.loop-d in
    let x = c.args.departures.now in
    let d = get_or c.as_slice-d-items.result.now l.d-index none in
    rw (departure-length (plain_departure d)) at
    (room (concat_map departure_words (drop l.d-index (on_file x))) (departure_words (plain_departure d)) (concat_map departure_words (drop (l.d-index + 1) (on_file x)))
    (next x c.as_slice-d-items.result.now c.as_slice-d-items.ensures l.d-index none c.loop-d-test.true) (omega (arith, c.requires, file-size x)) l.invariant)

pub loop-d-preserved : goal.loop-d-preserved
loop-d-preserved c =
    let l = c.loop-d in
    let x = c.args.departures.now in
    one_put (concat_map departure_words (drop l.d-index (on_file x))) _ (concat_map departure_words (drop (l.d-index + 1) (on_file x))) _ _
    (next x c.as_slice-d-items.result.now c.as_slice-d-items.ensures l.d-index _ c.loop-d-test.true) c.put_departure-end.ensures l.invariant

pub returns : goal.returns
returns c =
    let l = c.loop-d in
    let x = c.args.departures.now in
    all_put (concat_map departure_words (drop l.d-index (on_file x))) (ap (concat_map departure_words) (none_held x.front plain_departure c.as_slice-d-items.result.now c.as_slice-d-items.ensures l.d-index c.loop-d-test.false)) l.invariant

-- Each absence is a row of its own.
use Rattle.std.proofs.Common.{◌≡◌, ◌+◌, ◌<◌, ◌++◌, ℕ, List, drop, take, length, get_or, ap, arith}
use Rattle.std.proofs.Math.ListN.{length-map}
use Rattle.lists.specs.Lists.{concat_map}
use Rattle.lists.proofs.Cuts.{rest-none}
use Rattle.rules.specs.Snapshot.{absence_words}
use Rattle.entry.specs.declared.Absence.{Absence}
use Rattle.entry.specs.declared.Entry.{Entry}
use Rattle.entry.specs.Entry.{absences_of, plain_absence}
use Rattle.snapshots.proofs.Fields.{absences-size}
use Rattle.snapshots.proofs.Putting.{one_put, all_put, room, next_row}
use Rattle.snapshots.proofs.put.put_absences.Goals as goal

-- the absences
abbrev held : Entry → List Absence
held e = take e.absences_len e.absences

abbrev none : Absence
none = record { shard = record { 0 = 0 }; key = 0 }

next : (e : Entry) (i : ℕ) → i < length (held e) → concat_map absence_words (drop i (absences_of e)) ≡ absence_words (plain_absence (get_or (held e) i none)) ++ concat_map absence_words (drop (i + 1) (absences_of e))
next e i h = next_row plain_absence absence_words (held e) i none h

pub put-end-requires : goal.put-end-requires
put-end-requires c =
    let l = c.loop-a in
    let e = c.args.e.now in
    room (concat_map absence_words (drop l.a-index (absences_of e))) (absence_words (plain_absence (get_or (held e) l.a-index none))) (concat_map absence_words (drop (l.a-index + 1) (absences_of e)))
    (next e l.a-index c.loop-a-test.true) (omega (arith, c.requires, absences-size e)) l.invariant

pub loop-a-preserved : goal.loop-a-preserved
loop-a-preserved c =
    let l = c.loop-a in
    let e = c.args.e.now in
    one_put (concat_map absence_words (drop l.a-index (absences_of e))) (absence_words (plain_absence (get_or (held e) l.a-index none))) (concat_map absence_words (drop (l.a-index + 1) (absences_of e)))
    _ _ (next e l.a-index c.loop-a-test.true) c.put-end.ensures l.invariant

pub returns : goal.returns
returns c =
    let l = c.loop-a in
    let e = c.args.e.now in
    all_put (concat_map absence_words (drop l.a-index (absences_of e))) (ap (concat_map absence_words) (rest-none (absences_of e) l.a-index (omega (arith, c.loop-a-test.false, length-map (held e) plain_absence)))) l.invariant

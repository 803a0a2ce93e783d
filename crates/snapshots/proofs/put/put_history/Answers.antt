-- The figures, the absences, the marks.
use Rattle.std.proofs.Common.{◌≡◌, ◌∙◌, arith, length, take}
use Rattle.std.proofs.Math.ListN.{length-map}
use Rattle.rules.specs.Outcome.{yes_no}
use Rattle.entry.specs.Entry.{plain_absence, absences_of, plain_entry}
use Rattle.snapshots.proofs.Fields.{absences-size, absences-length, marks-length, returned-is}
use Rattle.snapshots.proofs.Putting.{both}
use Rattle.snapshots.proofs.put.put_history.Goals as goal

pub put-at-requires-2 : goal.put-at-requires-2
put-at-requires-2 c = omega (arith, c.requires, c.put_absences-at.ensures, absences-size c.args.e.now, c.put-at.ensures)

pub put-requires : goal.put-requires
put-requires c = omega (arith, c.requires, marks-length c.args.e.now, c.put-at-2.ensures, c.put_absences-at.ensures, absences-size c.args.e.now, c.put-at.ensures)

pub returns : goal.returns
unfolding plain_entry
returns c =
    let e = c.args.e.now in
    let count : length (absences_of e) ≡ e.absences_len = length-map (take e.absences_len e.absences) plain_absence ∙ absences-length e in
    let returned : c.from.result ≡ yes_no e.returned = c.from.ensures ∙ returned-is e.returned in
    rw (count, marks-length e, ← c.number.ensures, ← c.number-2.ensures, ← returned)
    (both c.put-at.ensures (both c.put_absences-at.ensures (both c.put-at-2.ensures c.put.ensures)))

-- A new absence has room, and where it is put in at its rank the list is the one that has it included. An issued record has room
-- among the marks: they rise and are issued, and no more are issued than there are edges.
-- Assumes nothing.
use Prim.Native.Nat.{ℕ, ◌+◌, ◌≤◌, ◌<◌}
use mathlib.Core.Path.{◌≡◌, ap, ◌∙◌}
use mathlib.Core.Bool.{Bool, true, false, false≢true}
use mathlib.Core.List.{List, map}
use native.Mathlib.Omega.{arith}
use lib.Dec.{eqb}
use lib.ListN.{length, take, length-map}
use Rattle.lists.specs.Lists.{has, include, self}
use Rattle.lists.specs.Arrays.{rank, Inserted}
use Rattle.lists.proofs.Distinct.{map-insert_at}
use Rattle.lists.proofs.Keep.{length-keep}
use Rattle.lists.proofs.Loops.{rank_le, include-rank}
use Rattle.lists.proofs.Order.{ascending-include, every_include, length-include_new}
use Rattle.lists.proofs.Room.{rising-within}
use Rattle.rules.specs.Numbers.{record_key}
use Rattle.rules.specs.Plain as plain
use Rattle.rules.specs.Plain.{Edge, Absence, Terms, absence_key, edges_from, issued, issues, is_settling}
use Rattle.rules.specs.Good.{GoodEntry, GoodPart, Marked}
use Rattle.entry.specs.declared.Entry.{Entry}
use Rattle.entry.specs.declared.Absence as entry
use Rattle.entry.specs.Entry.{plain_entry, plain_part, plain_absence, absence, absences_of, below, RoomForAbsence, RoomForMark}
use Rattle.entry.proofs.Shape.{fits_of}
use Rattle.entry.proofs.Absent.{length-absences}

module _ (e : Entry) (shard key : ℕ) (room : RoomForAbsence (absence shard key) e) where
  abbrev n : ℕ
  n = e.absences_len

  abbrev it : Absence
  it = absence shard key

  pub absence-room : has absence_key (absence_key it) (absences_of e) ≡ false → e.absences_len < 8
  absence-room new =
      omega (arith, length-include_new absence_key it (absences_of e) new, room.room, length-absences e (fits_of e))

  pub absence-rank : rank (below it) (absences_of e) ≤ e.absences_len
  absence-rank = omega (arith, rank_le (below it) (absences_of e), length-absences e (fits_of e))

  pub absence-put : (k : ℕ) (x : entry.Absence) (l : List entry.Absence) → plain_absence x ≡ it → has absence_key (absence_key it) (absences_of e) ≡ false →
      k ≡ rank (below it) (absences_of e) → Inserted e.absences n k x l →
      map plain_absence (take (e.absences_len + 1) l) ≡ include absence_key it (absences_of e)
  absence-put k x l q new at o =
      ap (map plain_absence) o.front ∙ map-insert_at plain_absence k x (take n e.absences) ∙ rw (q, at) (include-rank absence_key it (absences_of e) new)

marked_of : (p : plain.Part) (local : ℕ) (t : Terms) (m : List ℕ) (b : Bool) → is_settling p ≡ true → GoodPart p local t m b → Marked local t m b
marked_of plain.whole local t m b h g = absurd (false≢true h)
marked_of plain.leg local t m b h g = g.1
marked_of plain.core local t m b h g = absurd (false≢true h)
marked_of plain.remainder local t m b h g = g.2

issued-count : (local : ℕ) (t : Terms) → length (issued local t) ≤ length t.edges
issued-count local t =
    omega (arith, length-map (edges_from local t) (λ (g : Edge). record_key g.id), length-keep (λ (g : Edge). eqb g.from local) t.edges)

pub issued_room : (e : Entry) (local r : ℕ) → GoodEntry local (plain_entry e) → is_settling (plain_part e.part) ≡ true →
    issues local r (plain_entry e).terms ≡ true → RoomForMark r e
unfolding plain_entry
issued_room e local r good settling known =
    let t = (plain_entry e).terms in
    let m = (plain_entry e).marks in
    let q = marked_of (plain_part e.part) local t m e.returned settling good.part in
    let w =
    rising-within (include self r m) (issued local t) (ascending-include self r m q.rising)
    (every_include self (λ x. has self x (issued local t) ≡ true) r m known q.among)
    in
    record { rising = q.rising; room = omega (arith, w, issued-count local t, good.terms.edge_count) }

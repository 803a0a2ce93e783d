-- Each word is tested, and the rest is told as it is written.
use Rattle.std.proofs.Common.{◌≡◌, ◌∙◌, sym, refl, arith, rules, map}
use Rattle.lists.specs.Front.{held}
use Rattle.rules.specs.Plain.{part_number}
use Rattle.entry.specs.Entry.{plain_part, plain_absence, certificate_number}
use Rattle.snapshots.proofs.Histories.{told, told_sound}
use Rattle.snapshots.proofs.history.History.read.Goals as goal

pub returns : goal.returns
returns c =
    let ws = c.args.words.now in
    let p : part_number (plain_part c.in_ok-part.part) ≡ c.word_at.result = search rules in
    let q : certificate_number c.in_ok-certified.certified ≡ c.word_at-2.result = search rules in (
      told_sound ws c.in_ok-part.part c.in_ok-certified.certified c.word_at-departed_by.result c.word_at-returned.result (map plain_absence (held c.absences_in-absences.result))
          (p ∙ c.word_at.ensures) (q ∙ c.word_at-2.ensures) c.word_at-departed_by.ensures c.word_at-returned.ensures c.absences_in-absences.ensures
          (sym c.is_naming.ensures ∙ c.if-not-is_naming.false) (omega arith) (rw c.as_slice.ensures at (sym c.are_absences.ensures ∙ c.if-not-are_absences.false)),
      told ws _ (p ∙ c.word_at.ensures) (q ∙ c.word_at-2.ensures) c.word_at-departed_by.ensures c.word_at-returned.result c.word_at-returned.ensures refl c.absences_in-absences.ensures c.marks_in.ensures,
    )

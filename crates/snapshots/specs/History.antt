-- What of a history can be told from its words alone, and an entry with it.
use Rattle.std.specs.Prelude.{ℕ, ◌≡◌, Bool, List, [], ◌∷◌, map, eqb, leb}
use Rattle.lists.specs.Lists.{all, all_of, ascending}
use Rattle.lists.specs.Front.{held}
use Rattle.rules.specs.Numbers.{is_shard}
use Rattle.rules.specs.Plain as plain
use Rattle.rules.specs.Plain.{absence_key}
use Rattle.rules.specs.Words.{word}
use Rattle.rules.specs.Good.{is_departed_by}
use Rattle.rules.specs.Snapshot.{part_named, absence_in, absence_parts, marks_in}
use Rattle.entry.specs.Entry.{plain_part, certificate_number, plain_absence}
use Rattle.snapshots.specs.declared.history.History.{History}

abbrev pub absences_in : List ℕ → List plain.Absence
absences_in hs = map absence_in (absence_parts hs)

-- the tests that need neither the terms nor local
unfoldable pub history_sound : List ℕ → Bool
history_sound hs =
    all_of (
    leb (word 0 hs) 3
    ∷ leb (word 1 hs) 2
    ∷ is_departed_by (word 2 hs)
    ∷ leb (word 3 hs) 1
    ∷ all (λ (a : plain.Absence). is_shard a.shard) (absences_in hs)
    ∷ ascending absence_key (absences_in hs)
    ∷ []
    )

-- h is what the words say
pub record Tells (hs : List ℕ) (h : History) : Type 0 where
  pub part : plain_part h.part ≡ part_named (word 0 hs)
  pub certificate : certificate_number h.certified ≡ word 1 hs
  pub departed_by : h.departed_by.0 ≡ word 2 hs
  pub returned : h.returned ≡ eqb (word 3 hs) 1
  pub absences : map plain_absence (held h.absences) ≡ absences_in hs
  pub marks : held h.marks ≡ marks_in hs

-- an entry with a history in place of its own
abbrev pub with_history : History → plain.Entry → plain.Entry
with_history h e =
    record {
      terms = e.terms;
      part = plain_part h.part;
      certificate = certificate_number h.certified;
      departed_by = h.departed_by.0;
      absences = map plain_absence (held h.absences);
      marks = held h.marks;
      returned = h.returned;
    }

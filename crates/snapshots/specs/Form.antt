-- The form of a snapshot's words as it is asked for: what must hold for an entry's admission to be told and for its history, and the whole's
-- numbers.
use Rattle.std.specs.Prelude.{ℕ, ◌+◌, ◌*◌, ◌≤◌, ◌≡◌, ◌&&◌, Bool, true, List, [], ◌∷◌, eqb, leb, length}
use Rattle.lists.specs.Lists.{all_of}
use Rattle.rules.specs.Numbers.{max_entries, max_departures, max_counts, max_destinations, max_absences, max_marks}
use Rattle.rules.specs.Words.{within, sizes}
use Rattle.rules.specs.Snapshot.{admission_length, absence_count, mark_count, history_length, shard_count, entry_count, departure_count, entries_at}
use Rattle.words.specs.Admission.{Sized}

-- the sizes are within their limits, and the words reach to the admission's end
pub record Measured (ws : List ℕ) : Type 0 where
  pub sized : Sized ws
  pub few : within max_destinations (sizes ws) ≡ true
  pub room : admission_length ws ≤ length ws

abbrev pub history_formed : List ℕ → Bool
history_formed hs =
    all_of (leb (absence_count hs) max_absences ∷ leb (mark_count hs) max_marks ∷ eqb (length hs) (history_length hs) ∷ [])

-- not too many counts, entries and departures, and room for what is not an entry
abbrev pub counted : List ℕ → Bool
counted ws =
    leb (shard_count ws) max_counts
    && (leb (entry_count ws) max_entries
    && (leb (departure_count ws) max_departures && leb (entries_at ws + 4 * departure_count ws) (length ws)))

-- Snapshots: a ledger written as words, and words read as a ledger. A list of words that is read is asked first for its form (12): that it has
-- the length that its sizes require, each within its limit. Only then is it asked for all else that no writing has (13).
use Rattle.std.specs.Prelude.{ℕ, zero, suc, ◌+◌, ◌*◌, Bool, cond, not, ◌&&◌, ◌||◌, List, [], ◌∷◌, ◌++◌, map, eqb, leb, length, take, drop}
use Rattle.std.proofs.Math.Option.{Option, none, some}
use Rattle.lists.specs.Lists.{all, all_of, filled, has, ascending, concat_map, total, self, part, cut, rows}
use Rattle.rules.specs.Numbers.{is_time, is_shard, is_span, max_entries, max_departures, max_counts, max_routes, max_core, max_edges, max_destinations, max_absences, max_marks}
use Rattle.rules.specs.Plain.{Part, whole, leg, core, remainder, part_number, Terms, Absence, Entry, Departure, Count, Plain, transaction_of, absence_key, shard_of, counted_shard, issues, owes}
use Rattle.rules.specs.Words.{word, within, route_count, core_count, edge_count, sizes, decomposed, destinations_at, admission_terms, admission_formed, admission_timed, admission_placed, admission_words}
use Rattle.rules.specs.Outcome.{Outcome, done, unless, ◌gives◌then◌, yes_no}
use Rattle.rules.specs.Calls.{not_made}
use Rattle.rules.specs.Good.{is_departed_by}

-- The writing. An entry is its admission's words, and then its history: part, certificate, naming shard or 0, returned; the absences and
-- the marks, each after their number.
abbrev pub decomposed_word : Part → ℕ
decomposed_word whole = 0
decomposed_word leg = 1
decomposed_word core = 1
decomposed_word remainder = 1

abbrev pub absence_words : Absence → List ℕ
absence_words a = a.shard ∷ a.key ∷ []

abbrev pub history_words : Entry → List ℕ
history_words e =
    part_number e.part
    ∷ e.certificate
    ∷ e.departed_by
    ∷ yes_no e.returned
    ∷ length e.absences
    ∷ (concat_map absence_words e.absences ++ (length e.marks ∷ e.marks))

unfoldable pub entry_words : Entry → List ℕ
entry_words e = admission_words (decomposed_word e.part) e.terms ++ history_words e

-- stamped and until; until is 0 of a departure without a stamp
abbrev pub stamp_words : Option ℕ → List ℕ
stamp_words none = 0 ∷ 0 ∷ []
stamp_words (some until) = 1 ∷ until ∷ []

abbrev pub departure_words : Departure → List ℕ
departure_words d = d.shard ∷ d.cut ∷ stamp_words d.stamp

abbrev pub count_words : Count → List ℕ
count_words c = c.shard ∷ c.rebuilt ∷ []

-- how many entries and departures there are; each entry's length, the entries, the departures
abbrev pub listed_words : List Entry → List Departure → List ℕ
listed_words es ds =
    length es
    ∷ length ds
    ∷ (map (λ e. length (entry_words e)) es ++ (concat_map entry_words es ++ concat_map departure_words ds))

-- local, the spans, how many counts there are and these; entries and departures
unfoldable pub snapshot_words : Plain → List ℕ
snapshot_words p =
    p.local
    ∷ p.validity
    ∷ p.core_span
    ∷ p.leg_span
    ∷ length p.counts
    ∷ (concat_map count_words p.counts ++ listed_words p.entries p.departures)

-- The reading. An entry's words: those of its admission, then its history.
module _ (ws : List ℕ) where
  abbrev pub admission_length : ℕ
  admission_length = destinations_at ws + total self (sizes ws)

  abbrev pub admission_of : List ℕ
  admission_of = take admission_length ws

  abbrev pub history_of : List ℕ
  history_of = drop admission_length ws

-- A history: four words, the number of absences, these, the number of marks, these.
module _ (hs : List ℕ) where
  abbrev pub absence_count : ℕ
  absence_count = word 4 hs

  abbrev pub marks_at : ℕ
  marks_at = 5 + 2 * absence_count

  abbrev pub mark_count : ℕ
  mark_count = word marks_at hs

  abbrev pub history_length : ℕ
  history_length = marks_at + 1 + mark_count

  abbrev pub absence_parts : List (List ℕ)
  absence_parts = rows 2 absence_count (drop 5 hs)

  abbrev pub marks_in : List ℕ
  marks_in = part (marks_at + 1) mark_count hs

-- numbers over 3 are none of the four
abbrev pub part_named : ℕ → Part
part_named zero = whole
part_named (suc zero) = leg
part_named (suc (suc zero)) = core
part_named (suc (suc (suc n))) = remainder

abbrev pub absence_in : List ℕ → Absence
absence_in ws = record { shard = word 0 ws; key = word 1 ws }

unfoldable pub entry_in : List ℕ → Entry
entry_in ws =
    let hs : List ℕ = history_of ws in
    record {
      terms = admission_terms (admission_of ws);
      part = part_named (word 0 hs);
      certificate = word 1 hs;
      departed_by = word 2 hs;
      absences = map absence_in (absence_parts hs);
      marks = marks_in hs;
      returned = eqb (word 3 hs) 1;
    }

abbrev pub stamp_in : ℕ → ℕ → Option ℕ
stamp_in is_stamped until = cond (eqb is_stamped 0) none (some until)

abbrev pub departure_in : List ℕ → Departure
departure_in ws = record { shard = word 0 ws; cut = word 1 ws; stamp = stamp_in (word 2 ws) (word 3 ws) }

abbrev pub count_in : List ℕ → Count
count_in ws = record { shard = word 0 ws; rebuilt = word 1 ws }

module _ (ws : List ℕ) where
  -- how many shards have a count, and the words of each
  abbrev pub shard_count : ℕ
  shard_count = word 4 ws

  abbrev pub count_parts : List (List ℕ)
  count_parts = rows 2 shard_count (drop 5 ws)

  -- where the numbers of entries and of departures stand
  abbrev pub sizes_at : ℕ
  sizes_at = 5 + 2 * shard_count

  abbrev pub entry_count : ℕ
  entry_count = word sizes_at ws

  abbrev pub departure_count : ℕ
  departure_count = word (sizes_at + 1) ws

  abbrev pub entry_lengths : List ℕ
  entry_lengths = part (sizes_at + 2) entry_count ws

  abbrev pub entries_at : ℕ
  entries_at = sizes_at + 2 + entry_count

  abbrev pub departures_at : ℕ
  departures_at = entries_at + total self entry_lengths

  -- the words of each entry, and of each departure
  abbrev pub entry_parts : List (List ℕ)
  entry_parts = cut entry_lengths (drop entries_at ws)

  abbrev pub departure_parts : List (List ℕ)
  departure_parts = rows 4 departure_count (drop departures_at ws)

  unfoldable pub ledger_in : Plain
  ledger_in =
      record {
        local = word 0 ws;
        validity = word 1 ws;
        core_span = word 2 ws;
        leg_span = word 3 ws;
        entries = map entry_in entry_parts;
        departures = map departure_in departure_parts;
        counts = map count_in count_parts;
      }

-- 12, of an entry: a size over its limit, or a length that its sizes do not require. A word that is not there counts as 0, and then the length
-- is less than they require.
unfoldable pub entry_formed : List ℕ → Bool
entry_formed ws =
    let hs : List ℕ = history_of ws in
    all_of (
    leb (route_count ws) max_routes
    ∷ leb (core_count ws) max_core
    ∷ leb (edge_count ws) max_edges
    ∷ within max_destinations (sizes ws)
    ∷ leb (absence_count hs) max_absences
    ∷ leb (mark_count hs) max_marks
    ∷ eqb (length ws) (admission_length ws + history_length hs)
    ∷ []
    )

-- 12, of the whole
unfoldable pub snapshot_formed : List ℕ → Bool
snapshot_formed ws =
    all_of (
    leb (shard_count ws) max_counts
    ∷ leb (entry_count ws) max_entries
    ∷ leb (departure_count ws) max_departures
    ∷ eqb (length ws) (departures_at ws + 4 * departure_count ws)
    ∷ all entry_formed (entry_parts ws)
    ∷ []
    )

-- 13: what each part goes with, and the marks with the part. What is asked is what every ledger that calls reach has, and that each word is the
-- one that is written of it.
abbrev pub part_fits : Part → ℕ → ℕ → Terms → Bool
part_fits whole local is_decomposed t = eqb is_decomposed 0 && (not (filled t.core_shards) && not (filled t.edges))
part_fits leg local is_decomposed t = eqb is_decomposed 1 && not (has self local t.core_shards)
part_fits core local is_decomposed t = eqb is_decomposed 1 && has self local t.core_shards
part_fits remainder local is_decomposed t = eqb is_decomposed 1 && (has self local t.core_shards && owes local t)

abbrev pub are_issued : ℕ → Terms → List ℕ → Bool → Bool
are_issued local t marks is_returned = ascending self marks && (all (λ r. issues local r t) marks && (not is_returned || filled marks))

abbrev pub marks_fit : Part → ℕ → Terms → List ℕ → Bool → Bool
marks_fit whole local t marks is_returned = not (filled marks) && not is_returned
marks_fit leg local t marks is_returned = are_issued local t marks is_returned
marks_fit core local t marks is_returned = not (filled marks) && not is_returned
marks_fit remainder local t marks is_returned = are_issued local t marks is_returned

-- an entry: words that an admission may have, and a history that fits them
unfoldable pub entry_sound : ℕ → List ℕ → Bool
entry_sound local ws =
    let ads : List ℕ = admission_of ws in
    let hs : List ℕ = history_of ws in
    let e : Entry = entry_in ws in
    all_of (
    admission_formed ads
    ∷ admission_timed ads
    ∷ admission_placed ads
    ∷ leb (word 0 hs) 3
    ∷ part_fits e.part local (decomposed ads) e.terms
    ∷ leb e.certificate 2
    ∷ is_departed_by e.departed_by
    ∷ leb (word 3 hs) 1
    ∷ all (λ (a : Absence). is_shard a.shard) e.absences
    ∷ ascending absence_key e.absences
    ∷ marks_fit e.part local e.terms e.marks e.returned
    ∷ []
    )

abbrev pub until_fits : ℕ → ℕ → Bool
until_fits zero until = eqb until 0
until_fits (suc n) until = is_time until

abbrev pub departure_sound : List ℕ → Bool
departure_sound ws =
    all_of (is_shard (word 0 ws) ∷ is_time (word 1 ws) ∷ leb (word 2 ws) 1 ∷ until_fits (word 2 ws) (word 3 ws) ∷ [])

-- a count is of at least one entry; that it is at most 2^64 − 1, each word is
abbrev pub count_sound : List ℕ → Bool
count_sound ws = is_shard (word 0 ws) && leb 1 (word 1 ws)

unfoldable pub snapshot_sound : List ℕ → Bool
snapshot_sound ws =
    let p : Plain = ledger_in ws in
    all_of (
    is_shard p.local
    ∷ is_span p.validity
    ∷ is_span p.core_span
    ∷ is_span p.leg_span
    ∷ all count_sound (count_parts ws)
    ∷ ascending counted_shard p.counts
    ∷ all (entry_sound p.local) (entry_parts ws)
    ∷ ascending transaction_of p.entries
    ∷ all departure_sound (departure_parts ws)
    ∷ ascending shard_of p.departures
    ∷ []
    )

-- Restoring a ledger. A refused one hands back the ledger of a refused making.
abbrev pub snapshot_refusal : List ℕ → ℕ
snapshot_refusal ws = not (snapshot_formed ws) gives 12 then not (snapshot_sound ws) gives 13 then 0

unfoldable pub restoring : List ℕ → Outcome
restoring ws = unless (snapshot_refusal ws) not_made (done [] (ledger_in ws))

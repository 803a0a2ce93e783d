-- A whole snapshot, written and read: the words of a good ledger pass, and are read as that ledger.
-- Assumes nothing.
use Prim.Native.Nat.{ℕ, ◌+◌, ◌*◌}
use mathlib.Core.Path.{◌≡◌, refl, sym, ap, ◌∙◌, subst}
use mathlib.Core.Bool.{Bool, true}
use mathlib.Core.List.{List, [], ◌∷◌, ◌++◌, map, append-nil}
use native.Mathlib.Omega.{arith}
use borrow.Author.Tests.{le-leb, eq-eqb}
use lib.Dec.{eqb, leb}
use lib.ListN.{length, drop, length-map, length-append}
use lib.Seq.{drop-drop}
use Rattle.lists.specs.Lists.{all, ascending, total, concat_map, self}
use Rattle.lists.proofs.Keep.{passes_each, all_passed}
use Rattle.lists.proofs.Cuts.{rest_tail}
use Rattle.lists.proofs.Order.{test_ascending}
use Rattle.lists.proofs.Listing.{length-words}
use Rattle.lists.proofs.Joined.{behind, stands_at, word_at, map_read, cut_joined, length_joined, behind_joined, rows_joined, behind_rows}
use Rattle.rules.specs.Numbers.{is_shard, is_span}
use Rattle.rules.specs.Plain.{Entry, Departure, Count, Plain, transaction_of, shard_of, counted_shard}
use Rattle.rules.specs.Good.{GoodEntry, GoodDeparture, GoodCount, Good}
use Rattle.rules.specs.Snapshot.{entry_words, departure_words, count_words, listed_words, snapshot_words, entry_in, departure_in, count_in, shard_count, count_parts, entry_count, departure_count, entry_lengths, departures_at, entry_parts, departure_parts, ledger_in, entry_formed, snapshot_formed, entry_sound, departure_sound, count_sound, snapshot_sound, snapshot_refusal}
use Rattle.rules.proofs.SnapshotRead.{entry-read, entry-formed, entry-sound, departure-read, departure-length, departure-sound, count-sound}

-- The tests.
module _ (ws : List ℕ) where
  abbrev pub form_tests : List Bool
  form_tests =
      leb (shard_count ws) 32
      ∷ leb (entry_count ws) 48
      ∷ leb (departure_count ws) 32
      ∷ eqb (length ws) (departures_at ws + 4 * departure_count ws)
      ∷ all entry_formed (entry_parts ws)
      ∷ []

  abbrev pub rest_tests : List Bool
  rest_tests =
      is_shard (ledger_in ws).local
      ∷ is_span (ledger_in ws).validity
      ∷ is_span (ledger_in ws).core_span
      ∷ is_span (ledger_in ws).leg_span
      ∷ all count_sound (count_parts ws)
      ∷ ascending counted_shard (ledger_in ws).counts
      ∷ all (entry_sound (ledger_in ws).local) (entry_parts ws)
      ∷ ascending transaction_of (ledger_in ws).entries
      ∷ all departure_sound (departure_parts ws)
      ∷ ascending shard_of (ledger_in ws).departures
      ∷ []

module _ (p : Plain) where
  abbrev cs : List Count
  cs = p.counts

  abbrev es : List Entry
  es = p.entries

  abbrev ds : List Departure
  ds = p.departures

  abbrev size_of : Entry → ℕ
  size_of e = length (entry_words e)

  abbrev leavings : List ℕ
  leavings = concat_map departure_words ds

  abbrev listed : List ℕ
  listed = concat_map entry_words es ++ leavings

  abbrev words : List ℕ
  words = snapshot_words p

  -- where the numbers of entries and of departures stand
  abbrev numbers_at : ℕ
  numbers_at = 5 + 2 * length cs

  shards-read : shard_count words ≡ length cs
  unfolding snapshot_words
  shards-read = refl

  counts-read : count_parts words ≡ map count_words cs
  unfolding snapshot_words
  counts-read = rows_joined count_words 2 (λ c. refl) cs (listed_words es ds)

  at-numbers : drop numbers_at words ≡ length es ∷ length ds ∷ (map size_of es ++ listed)
  unfolding snapshot_words
  at-numbers = behind_rows count_words 2 (λ c. refl) 5 words cs (listed_words es ds) refl

  entry_count-read : entry_count words ≡ length es
  entry_count-read = rw shards-read (word_at numbers_at words (length es) (length ds ∷ (map size_of es ++ listed)) at-numbers)

  departure_count-read : departure_count words ≡ length ds
  departure_count-read =
      rw shards-read (word_at (numbers_at + 1) words (length ds) (map size_of es ++ listed) (rest_tail words numbers_at (length es) (length ds ∷ (map size_of es ++ listed)) at-numbers))

  at-sizes : drop (numbers_at + 2) words ≡ map size_of es ++ listed
  at-sizes = behind numbers_at words (length es ∷ length ds ∷ []) (map size_of es ++ listed) at-numbers

  sizes-read : entry_lengths words ≡ map size_of es
  sizes-read = rw (entry_count-read, shards-read) (stands_at (numbers_at + 2) (length es) words (map size_of es) listed at-sizes (length-map es size_of))

  at-entries : drop (numbers_at + 2 + length es) words ≡ listed
  at-entries = rw (length-map es size_of) at (behind (numbers_at + 2) words (map size_of es) listed at-sizes)

  entries-read : entry_parts words ≡ map entry_words es
  entries-read = rw (sizes-read, entry_count-read, shards-read, at-entries) (cut_joined entry_words es leavings)

  at-departures : drop (numbers_at + 2 + length es + total self (map size_of es)) words ≡ leavings
  at-departures =
      sym (drop-drop (total self (map size_of es)) (numbers_at + 2 + length es) words)
      ∙ ap (drop (total self (map size_of es))) at-entries
      ∙ behind_joined entry_words es leavings

  departures-read : departure_parts words ≡ map departure_words ds
  departures-read =
      rw (sizes-read, entry_count-read, departure_count-read, shards-read, at-departures)
      (rw (append-nil leavings) at (rows_joined departure_words 4 departure-length ds []))

  counts-back : map count_in (count_parts words) ≡ cs
  counts-back = map_read count_words count_in (λ c. refl) cs (count_parts words) counts-read

  entries-back : map entry_in (entry_parts words) ≡ es
  entries-back = map_read entry_words entry_in entry-read es (entry_parts words) entries-read

  departures-back : map departure_in (departure_parts words) ≡ ds
  departures-back = map_read departure_words departure_in departure-read ds (departure_parts words) departures-read

  whole-read : ledger_in words ≡ p
  unfolding ledger_in snapshot_words
  whole-read = rw (counts-back, entries-back, departures-back)

  pub snapshot-length : length words ≡ numbers_at + 2 + length es + total self (map size_of es) + 4 * length ds
  unfolding snapshot_words
  snapshot-length =
      omega (
        arith,
        length-append (concat_map count_words cs) (listed_words es ds),
        length-words count_words 2 (λ c. refl) cs,
        length-append (map size_of es) listed,
        length-map es size_of,
        length-append (concat_map entry_words es) leavings,
        length_joined entry_words es,
        length-words departure_words 4 departure-length ds,
      )

  module _ (g : Good p) where
    words-formed : snapshot_formed words ≡ true
    unfolding snapshot_formed
    words-formed =
        all_passed (form_tests words) (
          rw shards-read (le-leb (length cs) 32 g.counts.count),
          (
            rw entry_count-read (le-leb (length es) 48 g.entries.count),
            (
              rw departure_count-read (le-leb (length ds) 32 g.departures.count),
              (
                rw (sizes-read, entry_count-read, departure_count-read, shards-read)
                    (eq-eqb (length words) (numbers_at + 2 + length es + total self (map size_of es) + 4 * length ds) snapshot-length),
                (
                  rw entries-read (passes_each entry_words (GoodEntry p.local) entry_formed (λ e h. entry-formed e p.local h) es g.entries.rows.each),
                  tt,
                ),
              ),
            ),
          ),
        )

    -- what holds of the ledger holds of the one that is read
    of_read : (P : Plain → Type 0) → P p → P (ledger_in words)
    of_read P h = subst P (sym whole-read) h

    words-sound : snapshot_sound words ≡ true
    unfolding snapshot_sound
    words-sound =
        all_passed (rest_tests words) (
          of_read (λ q. is_shard q.local ≡ true) g.frame.local,
          (
            of_read (λ q. is_span q.validity ≡ true) g.frame.validity,
            (
              of_read (λ q. is_span q.core_span ≡ true) g.frame.core_span,
              (
                of_read (λ q. is_span q.leg_span ≡ true) g.frame.leg_span,
                (
                  rw counts-read (passes_each count_words GoodCount count_sound count-sound cs g.counts.rows.each),
                  (
                    of_read (λ q. ascending counted_shard q.counts ≡ true) (test_ascending counted_shard cs g.counts.rows.order),
                    (
                      of_read (λ q. all (entry_sound q.local) (entry_parts words) ≡ true)
                          (rw entries-read (passes_each entry_words (GoodEntry p.local) (entry_sound p.local) (λ e h. entry-sound e p.local h) es g.entries.rows.each)),
                      (
                        of_read (λ q. ascending transaction_of q.entries ≡ true) (test_ascending transaction_of es g.entries.rows.order),
                        (
                          rw departures-read (passes_each departure_words GoodDeparture departure_sound departure-sound ds g.departures.rows.each),
                          (
                            of_read (λ q. ascending shard_of q.departures ≡ true) (test_ascending shard_of ds g.departures.rows.order),
                            tt,
                          ),
                        ),
                      ),
                    ),
                  ),
                ),
              ),
            ),
          ),
        )

    pub written_read : (snapshot_refusal words ≡ 0) × (ledger_in words ≡ p)
    written_read = (rw (words-formed, words-sound), whole-read)

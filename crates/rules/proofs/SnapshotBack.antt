-- A whole snapshot, read and written again: words that pass are read as a good ledger, and are its words.
-- Assumes nothing.
use Prim.Native.Nat.{ℕ, ◌+◌, ◌*◌, ◌≤◌}
use mathlib.Core.Path.{◌≡◌, refl, sym, ap, ◌∙◌}
use mathlib.Core.Bool.{true}
use mathlib.Core.List.{List, ◌∷◌, ◌++◌, map}
use native.Mathlib.Omega.{arith}
use borrow.Author.Tests.{leb-true, eqb-true}
use lib.Dec.{leb}
use lib.ListN.{length, drop, replicate, length-map, length-drop}
use lib.Seq.{take_all}
use Rattle.lists.specs.Lists.{all, Every, ascending, total, concat_map, self, part, rows}
use Rattle.lists.proofs.Keep.{every_all, every_map, every_more, each_of, Passed}
use Rattle.lists.proofs.Order.{ascending_test}
use Rattle.lists.proofs.Cuts.{part_length}
use Rattle.lists.proofs.Parts.{every_drop, every_both}
use Rattle.lists.proofs.Zip.{length_cut}
use Rattle.lists.proofs.Joined.{part_then, word_then, every_row, every_pair, every_piece, map_back, sizes_again, joined_again, length_read, rows_again}
use Rattle.rules.specs.Numbers.{is_word}
use Rattle.rules.specs.Plain.{transaction_of, shard_of, counted_shard}
use Rattle.rules.specs.Words.{word}
use Rattle.rules.specs.Good.{Holds, GoodEntry, GoodDeparture, GoodCount, GoodFile, GoodDepartures, GoodCounts, Good}
use Rattle.rules.specs.Snapshot.{entry_words, departure_words, count_words, snapshot_words, entry_in, departure_in, count_in, shard_count, count_parts, sizes_at, entry_count, departure_count, entry_lengths, entries_at, departures_at, entry_parts, departure_parts, ledger_in, entry_formed, snapshot_formed, entry_sound, departure_sound, count_sound, snapshot_sound, snapshot_refusal}
use Rattle.rules.proofs.Kept.{tested}
use Rattle.rules.proofs.SnapshotEntry.{entry-good, departure-good, count-good}
use Rattle.rules.proofs.SnapshotAgain.{entry-again, departure-again}
use Rattle.rules.proofs.SnapshotWhole.{form_tests, rest_tests}

-- the rows that are read are a good file
rows-good : {A : Type 0} (key : A → ℕ) (Each : A → Type 0) (limit : ℕ) (g : List ℕ → A) (k n : ℕ) (l : List ℕ) →
    leb n limit ≡ true → Every (λ m. Each (g m)) (rows k n l) → ascending key (map g (rows k n l)) ≡ true →
    GoodFile key Each limit (map g (rows k n l))
rows-good key Each limit g k n l few each order =
    record {
      count = omega (arith, leb-true n limit few, length_read g k n l);
      rows = record { each = every_map g Each (rows k n l) each; order = ascending_test key (map g (rows k n l)) order };
    }

pub departures-good : (n : ℕ) (l : List ℕ) → leb n 32 ≡ true → all departure_sound (rows 4 n l) ≡ true → ascending shard_of (map departure_in (rows 4 n l)) ≡ true →
    GoodDepartures (map departure_in (rows 4 n l))
departures-good n l few sound order =
    rows-good shard_of GoodDeparture 32 departure_in 4 n l few (every_more _ _ departure-good (rows 4 n l) (every_all departure_sound (rows 4 n l) sound)) order

pub counts-good : (n : ℕ) (l : List ℕ) → Every (Holds is_word) l → leb n 32 ≡ true → all count_sound (rows 2 n l) ≡ true → ascending counted_shard (map count_in (rows 2 n l)) ≡ true →
    GoodCounts (map count_in (rows 2 n l))
counts-good n l v few sound order =
    rows-good counted_shard GoodCount 32 count_in 2 n l few
    (every_more _ _ (λ m h. count-good m h.0 h.1) (rows 2 n l)
    (every_both _ _ (rows 2 n l) (every_piece (Holds is_word) (replicate n 2) l v) (every_all count_sound (rows 2 n l) sound)))
    order

module _ (ws : List ℕ) (v : Every (Holds is_word) ws) (accepted : snapshot_refusal ws ≡ 0) where
  abbrev k : ℕ
  k = shard_count ws

  abbrev n : ℕ
  n = entry_count ws

  abbrev m : ℕ
  m = departure_count ws

  abbrev all_sizes : ℕ
  all_sizes = total self (entry_lengths ws)

  form : Every Passed (form_tests ws)
  unfolding snapshot_formed
  form = each_of (form_tests ws) (tested (snapshot_formed ws) 11 _ accepted).0

  rest : Every Passed (rest_tests ws)
  unfolding snapshot_sound
  rest = each_of (rest_tests ws) (tested (snapshot_sound ws) 12 _ (tested (snapshot_formed ws) 11 _ accepted).1).0

  size : length ws ≡ departures_at ws + 4 * m
  size = eqb-true (length ws) (departures_at ws + 4 * m) form.1.1.1.0

  lengths-size : length (entry_lengths ws) ≡ n
  lengths-size = part_length (sizes_at ws + 2) n ws (omega (arith, size))

  formed-parts : Every (λ l. entry_formed l ≡ true) (entry_parts ws)
  formed-parts = every_all entry_formed (entry_parts ws) form.1.1.1.1.0

  sound-parts : Every (λ l. entry_sound (ledger_in ws).local l ≡ true) (entry_parts ws)
  sound-parts = every_all (entry_sound (ledger_in ws).local) (entry_parts ws) rest.1.1.1.1.1.1.0

  departures-sound : Every (λ l. departure_sound l ≡ true) (departure_parts ws)
  departures-sound = every_all departure_sound (departure_parts ws) rest.1.1.1.1.1.1.1.1.0

  pub whole-good : Good (ledger_in ws)
  unfolding ledger_in
  whole-good =
      record {
        frame = record { local = rest.0; validity = rest.1.0; core_span = rest.1.1.0; leg_span = rest.1.1.1.0 };
        entries =
            record {
              count = omega (arith, leb-true n 48 form.1.0, length-map (entry_parts ws) entry_in, length_cut (entry_lengths ws) (drop (entries_at ws) ws), lengths-size);
              rows =
                  record {
                    each =
                        every_map entry_in (GoodEntry (word 0 ws)) (entry_parts ws)
                        (every_more _ _ (λ l h. entry-good (word 0 ws) l h.0 h.1.0 h.1.1) (entry_parts ws)
                        (every_both _ _ (entry_parts ws) (every_piece (Holds is_word) (entry_lengths ws) (drop (entries_at ws) ws) (every_drop (Holds is_word) (entries_at ws) ws v))
                        (every_both _ _ (entry_parts ws) formed-parts sound-parts)));
                    order = ascending_test transaction_of (ledger_in ws).entries rest.1.1.1.1.1.1.1.0;
                  };
            };
        departures = departures-good m (drop (departures_at ws) ws) form.1.1.0 rest.1.1.1.1.1.1.1.1.0 rest.1.1.1.1.1.1.1.1.1.0;
        counts = counts-good k (drop 5 ws) (every_drop (Holds is_word) 5 ws v) form.0 rest.1.1.1.1.0 rest.1.1.1.1.1.0;
      }

  entries-again : map entry_words (map entry_in (entry_parts ws)) ≡ entry_parts ws
  unfolding ledger_in
  entries-again =
      map_back entry_in entry_words (entry_parts ws)
      (every_more _ _ (λ l h. entry-again (word 0 ws) l h.0 h.1) (entry_parts ws) (every_both _ _ (entry_parts ws) formed-parts sound-parts))

  leavings-again : concat_map departure_words (map departure_in (departure_parts ws)) ≡ drop (departures_at ws) ws
  leavings-again =
      rows_again departure_in 4 m (drop (departures_at ws) ws) departure_words
      (every_more _ _ (λ l h. departure-again l h.0 h.1) (departure_parts ws)
      (every_both _ _ (departure_parts ws) (every_row 4 m (drop (departures_at ws) ws) (omega (arith, size, length-drop (departures_at ws) ws))) departures-sound))
      ∙ take_all (4 * m) (drop (departures_at ws) ws) (omega (arith, size, length-drop (departures_at ws) ws))

  counts-again : concat_map count_words (map count_in (count_parts ws)) ≡ part 5 (2 * k) ws
  counts-again = rows_again count_in 2 k (drop 5 ws) count_words (every_pair k (drop 5 ws) (omega (arith, size, length-drop 5 ws)))

  at-lengths : drop (sizes_at ws + 2) ws ≡ entry_lengths ws ++ (part (entries_at ws) all_sizes ws ++ drop (departures_at ws) ws)
  at-lengths = part_then (sizes_at ws + 2) n (entries_at ws) ws _ refl (part_then (entries_at ws) all_sizes (departures_at ws) ws _ refl refl)

  -- a word ahead of the lengths, and what is behind it
  word_ahead : (i next : ℕ) (l : List ℕ) → i + 1 ≡ next → next ≤ sizes_at ws + 2 → drop next ws ≡ l → drop i ws ≡ word i ws ∷ l
  word_ahead i next l e h q = word_then i ws l (omega (arith, size, h, e)) (ap (λ j. drop j ws) e ∙ q)

  at-numbers : drop (sizes_at ws) ws ≡ n ∷ m ∷ (entry_lengths ws ++ (part (entries_at ws) all_sizes ws ++ drop (departures_at ws) ws))
  at-numbers = word_ahead (sizes_at ws) (sizes_at ws + 1) _ refl (omega arith) (word_ahead (sizes_at ws + 1) (sizes_at ws + 2) _ (omega arith) (omega arith) at-lengths)

  pub whole-again : snapshot_words (ledger_in ws) ≡ ws
  unfolding snapshot_words ledger_in
  whole-again =
      rw (
        length_read count_in 2 k (drop 5 ws),
        counts-again,
        length-map (entry_parts ws) entry_in,
        length_cut (entry_lengths ws) (drop (entries_at ws) ws),
        lengths-size,
        length_read departure_in 4 m (drop (departures_at ws) ws),
        sizes_again entry_words (map entry_in (entry_parts ws)) (entry_lengths ws) (drop (entries_at ws) ws) entries-again (omega (arith, size, length-drop (entries_at ws) ws)),
        joined_again entry_words (map entry_in (entry_parts ws)) (entry_lengths ws) (drop (entries_at ws) ws) entries-again,
        leavings-again,
      ) (sym (word_ahead 0 1 _ refl (omega arith) (word_ahead 1 2 _ refl (omega arith) (word_ahead 2 3 _ refl (omega arith) (word_ahead 3 4 _ refl (omega arith) (word_ahead 4 5 _ refl (omega arith) (part_then 5 (2 * k) (sizes_at ws) ws _ refl at-numbers)))))))

  pub read_written : Good (ledger_in ws) × (snapshot_words (ledger_in ws) ≡ ws)
  read_written = (whole-good, whole-again)

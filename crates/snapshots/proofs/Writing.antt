-- The entries and departures gone through as they are written, and the parts of a snapshot put together.
-- Assumes nothing.
use Prim.Native.Nat.{ℕ, ◌+◌, ◌*◌, ◌≤◌, ◌<◌}
use mathlib.Core.Path.{◌≡◌, refl, ap, ◌∙◌}
use mathlib.Core.List.{List, [], ◌∷◌, ◌++◌}
use mathlib.Core.Bool.{true, false}
use borrow.Author.Tests.{lt-ltb, le-ltb}
use Rattle.std.specs.Prelude.{Ok, Err}
use native.Mathlib.Omega.{arith}
use lib.ListN.{length, take, drop, get_or, length-map, length-append}
use Rattle.lists.specs.Lists.{concat_map}
use Rattle.lists.proofs.Listing.{length-words, sets_front}
use Rattle.lists.proofs.Sets.{concat_map-single}
use Rattle.lists.proofs.Held.{mapped-length}
use Rattle.rules.specs.Plain as plain
use Rattle.rules.specs.Plain.{Plain}
use Rattle.rules.specs.Snapshot.{entry_words, departure_words, count_words, listed_words, snapshot_words}
use Rattle.rules.specs.Outcome.{too_short}
use Rattle.rules.specs.Readings.{listing, single}
use Rattle.types.specs.declared.refusal.Refusal.TheVariants.{ListShort}
use Rattle.readings.specs.Reads.{Reads}
use Rattle.readings.proofs.Written.{reads_list}
use Rattle.rules.proofs.SnapshotRead.{departure-length}
use Rattle.entry.specs.declared.Entry.{Entry}
use Rattle.entry.specs.Entry.{plain_entry}
use Rattle.store.specs.declared.counts.Counts.{Counts}
use Rattle.store.specs.Counts.{counts_in, plain_count}
use Rattle.store.specs.declared.departures.Departures.{Departures}
use Rattle.store.specs.Departures.{on_file}
use Rattle.store.proofs.Filed.{file-length}
use Rattle.ledger.specs.declared.Ledger.{Ledger}
use Rattle.ledger.specs.Contents.{entries_of, contents, Held}
use Rattle.ledger.proofs.Places.{slots_length, entries-length, none_left, slot_met, at_turn}
use Rattle.snapshots.specs.Put.{Put, entry_lengths, entry_size}
use Rattle.snapshots.proofs.Fields.{entry-length}

-- counts and departures
pub counts-size : (x : Counts) → length (concat_map count_words (counts_in x)) ≡ 2 * x.front.len
counts-size x = length-words count_words 2 (λ c. refl) (counts_in x) ∙ ap (λ n. 2 * n) (mapped-length x.front plain_count)

pub file-size : (x : Departures) → length (concat_map departure_words (on_file x)) ≡ 4 * x.front.len
file-size x = length-words departure_words 4 departure-length (on_file x) ∙ ap (λ n. 4 * n) (file-length x)

module _ (l : Ledger) (h : Held l) where
  abbrev es : List plain.Entry
  es = entries_of l

  module _ (i : ℕ) (b : i < length (take l.roster.len l.roster.slots)) (d : Entry) where
    abbrev pub met : Entry
    met = get_or l.entries (slot_met l i) d

    within : i < l.roster.len
    within = omega (arith, b, slots_length l h)

    pub next_entry : drop i es ≡ plain_entry met ∷ drop (i + 1) es
    next_entry = (at_turn l h i within).next d

    pub next_words : concat_map entry_words (drop i es) ≡ entry_words (plain_entry met) ++ concat_map entry_words (drop (i + 1) es)
    next_words = ap (concat_map entry_words) next_entry

    pub next_length : entry_lengths (drop i es) ≡ entry_size met ∷ entry_lengths (drop (i + 1) es)
    next_length = ap entry_lengths next_entry ∙ ap (λ n. n ∷ entry_lengths (drop (i + 1) es)) (entry-length met)

  pub no_entry_left : (i : ℕ) → length (take l.roster.len l.roster.slots) ≤ i → drop i es ≡ []
  no_entry_left i b = none_left l h i (omega (arith, b, slots_length l h))

  pub lengths-length : length (entry_lengths es) ≡ l.roster.len
  lengths-length = length-map es (λ e. length (entry_words e)) ∙ entries-length l h

  -- the whole
  pub snapshot-size : length (snapshot_words (contents l)) ≡ 7 + 2 * l.counts.front.len + l.roster.len + length (concat_map entry_words (contents l).entries) + 4 * l.departures.front.len
  unfolding snapshot_words contents
  snapshot-size =
      omega (
        arith,
        length-append (concat_map count_words (counts_in l.counts)) (listed_words es (on_file l.departures)),
        counts-size l.counts,
        length-append (entry_lengths es) (concat_map entry_words es ++ concat_map departure_words (on_file l.departures)),
        length-append (concat_map entry_words es) (concat_map departure_words (on_file l.departures)),
        lengths-length,
        file-size l.departures,
      )

-- words written to the front of a list, and a list that is too short for them
module _ (ws lent : List ℕ) (p : Plain) where
  pub written_out : (after : List ℕ) (to n : ℕ) → Put ws lent 0 after to → n ≡ length ws → n ≤ length lent → Reads (listing 0 (length lent) single ws p) lent after (Ok n)
  written_out after to n h e b =
      let t : too_short (length lent) ws ≡ false = le-ltb (length lent) (length ws) (omega (arith, b, e)) in
      reads_list single ws p 0 lent after (Ok n) refl
      (rw (concat_map-single ws) (record {
        refused = rw t;
        answer = rw t e;
        wrote = rw t (h.wrote ∙ sets_front lent ws (omega (arith, b, e)));
      }))

  pub not_written : (n : ℕ) → n ≡ length ws → length lent < n → Reads (listing 0 (length lent) single ws p) lent lent (Err ListShort)
  not_written n e b =
      let t : too_short (length lent) ws ≡ true = lt-ltb (length lent) (length ws) (omega (arith, b, e)) in
      reads_list single ws p 0 lent lent (Err ListShort) refl
      (rw (concat_map-single ws) (record { refused = rw t; answer = rw t; wrote = rw t }))

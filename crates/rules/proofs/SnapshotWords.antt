-- The words of a snapshot are words, and there are at most 5,959 of them: 119 of an entry, 4 of a departure, 2 of a count.
-- Assumes nothing.
use Prim.Native.Nat.{ℕ, zero, suc, ◌^◌, ◌≤◌}
use mathlib.Core.Path.{◌≡◌, refl}
use mathlib.Core.Bool.{Bool, true}
use mathlib.Core.List.{List, ◌∷◌, ◌++◌, map}
use mathlib.Core.Option.{Option, none, some}
use native.Mathlib.Omega.{arith}
use borrow.Author.Tests.{lt-ltb, leb-true, le-leb}
use lib.Dec.{leb}
use lib.ListN.{length, length-map, length-append}
use Rattle.std.proofs.lemmas.Nat.{mod_below}
use Rattle.lists.specs.Lists.{Every, concat_map}
use Rattle.lists.proofs.Tests.{and_right}
use Rattle.lists.proofs.Keep.{all_every, passes_each, every_always, every_map, every_more, every_append, every_joined, every-has}
use Rattle.lists.proofs.Cuts.{total-within}
use Rattle.rules.specs.Numbers.{is_word, is_span, record_key}
use Rattle.rules.specs.Plain.{Part, whole, leg, core, remainder, part_number, Edge, Terms, Entry, Departure, Count, Plain, edges_from, issued, issues}
use Rattle.rules.specs.Words.{admission_words}
use Rattle.rules.specs.Widths.{entry_room, snapshot_room}
use Rattle.rules.specs.Outcome.{yes_no}
use Rattle.rules.specs.Good.{Holds, GoodAbsence, GoodPart, is_departed_by, GoodEntry, GoodStamp, GoodDeparture, GoodCount, Good}
use Rattle.rules.specs.Snapshot.{decomposed_word, absence_words, history_words, entry_words, stamp_words, departure_words, count_words, listed_words, snapshot_words}
use Rattle.rules.proofs.Written.{small_word, time_word, shard-word, size_of, sizes-within, size_is, words-words}
use Rattle.rules.proofs.SnapshotParts.{decomposed-number, part-number, flag-number, few_marks}
use Rattle.rules.proofs.SnapshotRead.{history-length}
use Rattle.rules.proofs.SnapshotWhole.{snapshot-length}

-- a mark is a record's key, of 32 bits
key_word : (id : ℕ) → is_word (record_key id) ≡ true
key_word id = lt-ltb (record_key id) (2 ^ 64) (omega (arith, mod_below id (2 ^ 32) (omega arith)))

issued-words : (local : ℕ) (t : Terms) (marks : List ℕ) → Every (λ r. issues local r t ≡ true) marks → Every (Holds is_word) marks
issued-words local t marks v =
    every_more (λ r. issues local r t ≡ true) (Holds is_word)
    (λ r h. every-has (Holds is_word) r (issued local t)
    (every_map (λ (g : Edge). record_key g.id) (Holds is_word) (edges_from local t) (every_always (λ g. is_word (record_key g.id) ≡ true) (λ g. key_word g.id) (edges_from local t))) h)
    marks v

marks-words : (local : ℕ) (q : Part) (t : Terms) (marks : List ℕ) (b : Bool) → GoodPart q local t marks b → Every (Holds is_word) marks
marks-words local whole t marks b h = rw h.2.none tt
marks-words local leg t marks b h = issued-words local t marks h.1.among
marks-words local core t marks b h = rw h.1.none tt
marks-words local remainder t marks b h = issued-words local t marks h.2.among

named_word : (n : ℕ) → is_departed_by n ≡ true → is_word n ≡ true
named_word zero h = refl
named_word (suc n) h = shard-word (suc n) h

span_word : (n : ℕ) → is_span n ≡ true → is_word n ≡ true
span_word n h = lt-ltb n (2 ^ 64) (omega (arith, leb-true n (2 ^ 40) (and_right (leb 1 n) (leb n (2 ^ 40)) h)))

module _ (local : ℕ) (e : Entry) (g : GoodEntry local e) where
  abbrev a : List ℕ
  a = admission_words (decomposed_word e.part) e.terms

  abbrev absences : List ℕ
  absences = concat_map absence_words e.absences

  few : length e.marks ≤ 8
  few = few_marks local e.part e.terms e.marks e.returned g.terms g.part

  absences-words : Every (Holds is_word) absences
  absences-words =
      every_joined GoodAbsence (Holds is_word) absence_words (λ x h. (shard-word x.shard h.shard, (h.key, tt))) e.absences g.absences

  history-words : Every (Holds is_word) (history_words e)
  history-words = (
    small_word (part_number e.part) (omega (arith, leb-true (part_number e.part) 3 (part-number e.part))),
    (
      small_word e.certificate (omega (arith, g.certificate)),
      (
        named_word e.departed_by g.departed_by,
        (
          small_word (yes_no e.returned) (omega (arith, leb-true (yes_no e.returned) 1 (flag-number e.returned))),
          (
            small_word (length e.absences) (omega (arith, g.absence_count)),
            every_append (Holds is_word) absences (length e.marks ∷ e.marks) absences-words
                (small_word (length e.marks) (omega (arith, few)), marks-words local e.part e.terms e.marks e.returned g.part),
          ),
        ),
      ),
    ),
  )

  pub entry_is_words : Every (Holds is_word) (entry_words e)
  unfolding entry_words
  entry_is_words =
      every_append (Holds is_word) a (history_words e) (words-words (decomposed_word e.part) e.terms g.terms (decomposed-number e.part)) history-words

  admission-few : length a ≤ 89
  admission-few =
      let sizes = map size_of e.terms.edges in
      omega (
        arith,
        size_is (decomposed_word e.part) e.terms,
        g.terms.routes.size,
        g.terms.core_shards.size,
        g.terms.edge_count,
        length-map e.terms.edges size_of,
        total-within 4 sizes (all_every (λ n. leb n 4) sizes (every_map size_of (λ n. leb n 4 ≡ true) e.terms.edges (sizes-within e.terms.edges g.terms.edges))),
      )

  pub entry-few : length (entry_words e) ≤ entry_room
  unfolding entry_words
  entry-few = omega (arith, admission-few, few, g.absence_count, history-length e, length-append a (history_words e))

-- a departure
departure_is_words : (d : Departure) → GoodDeparture d → Every (Holds is_word) (departure_words d)
departure_is_words d g = (shard-word d.shard g.shard, (time_word d.cut g.cut, go d.stamp g.stamp))
  where
    go : (s : Option ℕ) → GoodStamp s → Every (Holds is_word) (stamp_words s)
    go none h = (refl, (refl, tt))
    go (some until) h = (refl, (time_word until h, tt))

-- a count
count_is_words : (c : Count) → GoodCount c → Every (Holds is_word) (count_words c)
count_is_words c g = (shard-word c.shard g.shard, (lt-ltb c.rebuilt (2 ^ 64) (omega (arith, g.few)), tt))

-- the whole
module _ (p : Plain) (g : Good p) where
  abbrev words_of : Entry → ℕ
  words_of e = length (entry_words e)

  abbrev sizes : List ℕ
  sizes = map words_of p.entries

  few_words : (e : Entry) → GoodEntry p.local e → leb (words_of e) entry_room ≡ true
  few_words e h = le-leb (words_of e) entry_room (entry-few p.local e h)

  pub snapshot-few : length (snapshot_words p) ≤ snapshot_room
  snapshot-few =
      omega (
        arith,
        snapshot-length p,
        g.entries.count,
        g.departures.count,
        g.counts.count,
        length-map p.entries words_of,
        total-within entry_room sizes (passes_each words_of (GoodEntry p.local) (λ n. leb n entry_room) few_words p.entries g.entries.rows.each),
      )

  counts-words : Every (Holds is_word) (concat_map count_words p.counts)
  counts-words = every_joined GoodCount (Holds is_word) count_words count_is_words p.counts g.counts.rows.each

  sizes-words : Every (Holds is_word) sizes
  sizes-words =
      every_map words_of (Holds is_word) p.entries
      (every_more (GoodEntry p.local) (λ e. is_word (words_of e) ≡ true) (λ e h. small_word (words_of e) (omega (arith, entry-few p.local e h))) p.entries g.entries.rows.each)

  listed_is_words : Every (Holds is_word) (listed_words p.entries p.departures)
  listed_is_words = (
    small_word (length p.entries) (omega (arith, g.entries.count)),
    (
      small_word (length p.departures) (omega (arith, g.departures.count)),
      every_append (Holds is_word) sizes (concat_map entry_words p.entries ++ concat_map departure_words p.departures)
          sizes-words
          (every_append (Holds is_word) (concat_map entry_words p.entries) (concat_map departure_words p.departures)
          (every_joined (GoodEntry p.local) (Holds is_word) entry_words (entry_is_words p.local) p.entries g.entries.rows.each)
          (every_joined GoodDeparture (Holds is_word) departure_words departure_is_words p.departures g.departures.rows.each)),
    ),
  )

  pub snapshot_is_words : Every (Holds is_word) (snapshot_words p)
  unfolding snapshot_words
  snapshot_is_words = (
    shard-word p.local g.frame.local,
    (
      span_word p.validity g.frame.validity,
      (
        span_word p.core_span g.frame.core_span,
        (
          span_word p.leg_span g.frame.leg_span,
          (
            small_word (length p.counts) (omega (arith, g.counts.count)),
            every_append (Holds is_word) (concat_map count_words p.counts) (listed_words p.entries p.departures) counts-words listed_is_words,
          ),
        ),
      ),
    ),
  )

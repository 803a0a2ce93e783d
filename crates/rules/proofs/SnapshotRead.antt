-- One entry, one departure and one count of a snapshot, written and read: they pass and are what was written.
-- Assumes nothing.
use Prim.Native.Nat.{ℕ, ◌+◌, ◌*◌}
use mathlib.Core.Path.{◌≡◌, refl, sym, ap, ◌∙◌, subst}
use mathlib.Core.Bool.{true}
use mathlib.Core.List.{List, ◌∷◌, ◌++◌, map}
use mathlib.Core.Option.{Option, none, some}
use native.Mathlib.Omega.{arith}
use borrow.Author.Tests.{le-leb, eq-eqb}
use lib.Dec.{leb}
use lib.ListN.{length, drop, length-append}
use lib.Seq.{take-append_seam, drop-append_seam, take_all}
use Rattle.lists.specs.Lists.{all, ascending, concat_map}
use Rattle.lists.proofs.Tests.{and_both}
use Rattle.lists.proofs.Keep.{all_every, every_map, every_more, all_passed}
use Rattle.lists.proofs.Order.{test_ascending}
use Rattle.lists.proofs.Cuts.{rest_tail}
use Rattle.lists.proofs.Listing.{length-words}
use Rattle.lists.proofs.Joined.{word_at, part_append, rows_joined, behind_rows, map_read}
use Rattle.rules.specs.Numbers.{is_shard}
use Rattle.rules.specs.Plain.{Terms, Absence, Entry, Departure, Count, absence_key}
use Rattle.rules.specs.Words.{sizes, edges_at, decomposed, admission_words}
use Rattle.rules.specs.Good.{GoodAbsence, is_departed_by, GoodEntry, GoodStamp, GoodDeparture, GoodCount}
use Rattle.rules.specs.Snapshot.{decomposed_word, absence_words, history_words, entry_words, stamp_words, departure_words, count_words, admission_length, admission_of, history_of, mark_count, history_length, absence_parts, marks_in, absence_in, entry_in, departure_in, entry_formed, part_fits, marks_fit, entry_sound, departure_sound, count_sound}
use Rattle.rules.proofs.Written.{size_of, sizes-within, sizes-read, size_is, terms-read, words_formed, words-timed, words_placed}
use Rattle.rules.proofs.SnapshotParts.{part-read, part-number, flag-read, flag-number, few_marks, decomposed-number, part-fits, marks-fit}
use Rattle.rules.proofs.SnapshotEntry.{form_tests, rest_tests}

-- An admission's words with others behind them.
module _ (d : ℕ) (t : Terms) (b : List ℕ) where
  abbrev a : List ℕ
  a = admission_words d t

  pub sizes-front : sizes (a ++ b) ≡ map size_of t.edges
  sizes-front =
      part_append (edges_at a + 3 * length t.edges) (length t.edges) a b (omega (arith, size_is d t)) ∙ sizes-read d t

  pub length-front : admission_length (a ++ b) ≡ length a
  length-front = rw sizes-front (sym (size_is d t))

  pub admission-front : admission_of (a ++ b) ≡ a
  admission-front = rw length-front (take-append_seam a b)

  pub history-front : history_of (a ++ b) ≡ b
  history-front = rw length-front (drop-append_seam a b)

-- A history.
module _ (e : Entry) where
  abbrev hs : List ℕ
  hs = history_words e

  abbrev n : ℕ
  n = length e.absences

  two : length (concat_map absence_words e.absences) ≡ 2 * n
  two = length-words absence_words 2 (λ x. refl) e.absences

  at-marks : drop (5 + 2 * n) hs ≡ length e.marks ∷ e.marks
  at-marks = behind_rows absence_words 2 (λ x. refl) 5 hs e.absences (length e.marks ∷ e.marks) refl

  mark_count-read : mark_count hs ≡ length e.marks
  mark_count-read = word_at (5 + 2 * n) hs (length e.marks) e.marks at-marks

  marks-read : marks_in hs ≡ e.marks
  marks-read = rw (mark_count-read, rest_tail hs (5 + 2 * n) (length e.marks) e.marks at-marks) (take_all (length e.marks) e.marks (omega arith))

  absences-read : map absence_in (absence_parts hs) ≡ e.absences
  absences-read =
      map_read absence_words absence_in (λ x. refl) e.absences (absence_parts hs)
      (rows_joined absence_words 2 (λ x. refl) e.absences (length e.marks ∷ e.marks))

  pub history-length : length hs ≡ 6 + 2 * n + length e.marks
  history-length = omega (arith, two, length-append (concat_map absence_words e.absences) (length e.marks ∷ e.marks))

  history-size : length hs ≡ history_length hs
  history-size =
      rw mark_count-read (omega (arith, history-length))

module _ (e : Entry) where
  abbrev ws : List ℕ
  ws = entry_words e

  abbrev d : ℕ
  d = decomposed_word e.part

  abbrev t : Terms
  t = e.terms

  abbrev h : List ℕ
  h = history_words e

  pub entry-read : entry_in (entry_words e) ≡ e
  unfolding entry_words entry_in
  entry-read =
      rw (
        admission-front d t (history_words e),
        history-front d t (history_words e),
        terms-read d t,
        part-read e.part,
        absences-read e,
        marks-read e,
        flag-read e.returned,
      )

  -- an entry's words are cut apart where its admission ends
  pub admission-length : admission_length ws ≡ length (admission_words d t)
  unfolding entry_words
  admission-length = length-front d t h

  module _ (local : ℕ) (g : GoodEntry local e) where
    pub entry-formed : entry_formed (entry_words e) ≡ true
    unfolding entry_words entry_formed
    entry-formed =
        all_passed (form_tests ws) (
          le-leb (length t.routes) 8 g.terms.routes.size,
          (
            le-leb (length t.core_shards) 8 g.terms.core_shards.size,
            (
              le-leb (length t.edges) 8 g.terms.edge_count,
              (
                rw (sizes-front d t h) (all_every (λ n. leb n 4) (map size_of t.edges) (every_map size_of (λ n. leb n 4 ≡ true) t.edges (sizes-within t.edges g.terms.edges))),
                (
                  rw (history-front d t h) (le-leb (length e.absences) 8 g.absence_count),
                  (
                    rw (history-front d t h, mark_count-read e) (le-leb (length e.marks) 8 (few_marks local e.part t e.marks e.returned g.terms g.part)),
                    (
                      rw (history-front d t h, length-front d t h) (eq-eqb (length ws) (length (admission_words d t) + history_length h) (length-append (admission_words d t) h ∙ ap (λ n. length (admission_words d t) + n) (history-size e))),
                      tt,
                    ),
                  ),
                ),
              ),
            ),
          ),
        )

    -- what holds of the entry holds of the one that is read
    of_read : (P : Entry → Type 0) → P e → P (entry_in ws)
    of_read P h = subst P (sym entry-read) h

    pub entry-sound : entry_sound local ws ≡ true
    unfolding entry_words entry_sound
    entry-sound =
        all_passed (rest_tests ws local) (
          rw (admission-front d t h) (words_formed d t g.terms (decomposed-number e.part)),
          (
            rw (admission-front d t h) (words-timed d t g.terms (decomposed-number e.part)),
            (
              rw (admission-front d t h) (words_placed d t g.terms (decomposed-number e.part)),
              (
                rw (history-front d t h) (part-number e.part),
                (
                  of_read (λ x. part_fits x.part local (decomposed (admission_of ws)) x.terms ≡ true) (rw (admission-front d t h) (part-fits local e.part t e.marks e.returned g.part)),
                  (
                    of_read (λ x. leb x.certificate 2 ≡ true) (le-leb e.certificate 2 g.certificate),
                    (
                      of_read (λ x. is_departed_by x.departed_by ≡ true) g.departed_by,
                      (
                        rw (history-front d t h) (flag-number e.returned),
                        (
                          of_read (λ x. all (λ (a : Absence). is_shard a.shard) x.absences ≡ true)
                              (all_every (λ (a : Absence). is_shard a.shard) e.absences (every_more GoodAbsence (λ a. is_shard a.shard ≡ true) (λ a k. k.shard) e.absences g.absences)),
                          (
                            of_read (λ x. ascending absence_key x.absences ≡ true) (test_ascending absence_key e.absences g.absence_order),
                            (
                              of_read (λ x. marks_fit x.part local x.terms x.marks x.returned ≡ true) (marks-fit local e.part t e.marks e.returned g.part),
                              tt,
                            ),
                          ),
                        ),
                      ),
                    ),
                  ),
                ),
              ),
            ),
          ),
        )

-- a departure
pub departure-read : (d : Departure) → departure_in (departure_words d) ≡ d
departure-read d = go d.stamp
  where
    go : (s : Option ℕ) → departure_in (d.shard ∷ d.cut ∷ stamp_words s) ≡ record { shard = d.shard; cut = d.cut; stamp = s }
    go none = refl
    go (some until) = refl

pub departure-length : (d : Departure) → length (departure_words d) ≡ 4
departure-length d = go d.stamp
  where
    go : (s : Option ℕ) → length (d.shard ∷ d.cut ∷ stamp_words s) ≡ 4
    go none = refl
    go (some until) = refl

pub departure-sound : (d : Departure) → GoodDeparture d → departure_sound (departure_words d) ≡ true
departure-sound d g = go d.stamp g.stamp
  where
    go : (s : Option ℕ) → GoodStamp s → departure_sound (d.shard ∷ d.cut ∷ stamp_words s) ≡ true
    go none h = rw (g.shard, g.cut)
    go (some until) h = rw (g.shard, g.cut, h)

-- a count
pub count-sound : (c : Count) → GoodCount c → count_sound (count_words c) ≡ true
count-sound c g = and_both (is_shard c.shard) (leb 1 c.rebuilt) g.shard (le-leb 1 c.rebuilt g.some)

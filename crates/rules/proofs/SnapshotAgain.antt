-- One entry and one departure of a snapshot, read and written again: the words are those that were read.
-- Assumes nothing.
use Prim.Native.Nat.{ℕ, zero, suc, ◌+◌, ◌*◌, ◌≤◌}
use mathlib.Core.Path.{◌≡◌, refl, sym, ap, ap₂, ◌∙◌}
use mathlib.Core.Bool.{true}
use mathlib.Core.List.{List, [], ◌∷◌, ◌++◌, map}
use native.Mathlib.Omega.{arith}
use borrow.Author.Tests.{leb-true, eqb-true}
use lib.Dec.{eqb}
use lib.ListN.{length, drop, length-drop, take-append-drop}
use lib.Seq.{take_all}
use Rattle.std.proofs.lemmas.List.{nil_from_length}
use Rattle.lists.specs.Lists.{concat_map, part}
use Rattle.lists.proofs.Tests.{and_left}
use Rattle.lists.proofs.Keep.{each_of}
use Rattle.lists.proofs.Cuts.{part_length}
use Rattle.lists.proofs.Joined.{part_then, word_then, every_pair, length_read, rows_again}
use Rattle.rules.specs.Plain.{Part, whole, leg, core, remainder, part_number, Terms}
use Rattle.rules.specs.Words.{word, decomposed, admission_words}
use Rattle.rules.specs.Outcome.{yes_no}
use Rattle.rules.specs.Snapshot.{decomposed_word, absence_words, entry_words, stamp_words, departure_words, admission_length, admission_of, history_of, absence_count, marks_at, mark_count, history_length, absence_parts, marks_in, part_named, absence_in, entry_in, stamp_in, departure_in, entry_formed, part_fits, entry_sound, until_fits, departure_sound}
use Rattle.rules.proofs.SnapshotAdmission.{written_again}
use Rattle.rules.proofs.SnapshotEntry.{rest_passed, form_passed, departure_tests}

-- small numbers that are read as something else
number-again : (n : ℕ) → n ≤ 3 → part_number (part_named n) ≡ n
number-again zero h = refl
number-again (suc zero) h = refl
number-again (suc (suc zero)) h = refl
number-again (suc (suc (suc zero))) h = refl
number-again (suc (suc (suc (suc n)))) h = absurd (omega (arith, h))

yes_no-again : (n : ℕ) → n ≤ 1 → yes_no (eqb n 1) ≡ n
yes_no-again zero h = refl
yes_no-again (suc zero) h = refl
yes_no-again (suc (suc n)) h = absurd (omega (arith, h))

decomposed-again : (q : Part) (local d : ℕ) (t : Terms) → part_fits q local d t ≡ true → decomposed_word q ≡ d
decomposed-again whole local d t h = sym (eqb-true d 0 (and_left (eqb d 0) _ h))
decomposed-again leg local d t h = sym (eqb-true d 1 (and_left (eqb d 1) _ h))
decomposed-again core local d t h = sym (eqb-true d 1 (and_left (eqb d 1) _ h))
decomposed-again remainder local d t h = sym (eqb-true d 1 (and_left (eqb d 1) _ h))

-- A history.
module _ (hs : List ℕ) (size : length hs ≡ history_length hs) where
  abbrev n : ℕ
  n = absence_count hs

  absences-again : concat_map absence_words (map absence_in (absence_parts hs)) ≡ part 5 (2 * n) hs
  absences-again =
      rows_again absence_in 2 n (drop 5 hs) absence_words (every_pair n (drop 5 hs) (omega (arith, size, length-drop 5 hs)))

  at-marks : drop (marks_at hs + 1) hs ≡ marks_in hs
  at-marks = sym (take_all (mark_count hs) (drop (marks_at hs + 1) hs) (omega (arith, size, length-drop (marks_at hs + 1) hs)))

  at-absences : drop 5 hs ≡ part 5 (2 * n) hs ++ (mark_count hs ∷ marks_in hs)
  at-absences = part_then 5 (2 * n) (marks_at hs) hs _ refl (word_then (marks_at hs) hs (marks_in hs) (omega (arith, size)) at-marks)

  history_again : word 0 hs ≤ 3 → word 3 hs ≤ 1 →
      part_number (part_named (word 0 hs)) ∷ word 1 hs ∷ word 2 hs ∷ yes_no (eqb (word 3 hs) 1) ∷ length (map absence_in (absence_parts hs))
      ∷ (concat_map absence_words (map absence_in (absence_parts hs)) ++ (length (marks_in hs) ∷ marks_in hs)) ≡ hs
  history_again h k =
      let w : (i : ℕ) (m : List ℕ) → i ≤ 4 → drop (i + 1) hs ≡ m → drop i hs ≡ word i hs ∷ m = λ i m l e. word_then i hs m (omega (arith, size, l)) e in
      rw (
        number-again (word 0 hs) h,
        yes_no-again (word 3 hs) k,
        length_read absence_in 2 n (drop 5 hs),
        absences-again,
        part_length (marks_at hs + 1) (mark_count hs) hs (omega (arith, size)),
      ) (sym (w 0 _ (omega arith) (w 1 _ (omega arith) (w 2 _ (omega arith) (w 3 _ (omega arith) (w 4 _ (omega arith) at-absences))))))

module _ (local : ℕ) (ws : List ℕ) (f : entry_formed ws ≡ true) (s : entry_sound local ws ≡ true) where
  abbrev past : List ℕ
  past = history_of ws

  history-size : length past ≡ history_length past
  history-size =
      let size = eqb-true (length ws) (admission_length ws + history_length past) (form_passed ws f).1.1.1.1.1.1.0 in
      length-drop (admission_length ws) ws ∙ omega (arith, size)

  pub entry-again : entry_words (entry_in ws) ≡ ws
  unfolding entry_words entry_in
  entry-again =
      let t = rest_passed ws local s in
      ap₂ (λ a b. a ++ b)
      (ap (λ d. admission_words d (entry_in ws).terms) (decomposed-again (part_named (word 0 past)) local (decomposed (admission_of ws)) (entry_in ws).terms t.1.1.1.1.0) ∙ written_again (admission_of ws) t.0)
      (history_again past history-size (leb-true (word 0 past) 3 t.1.1.1.0) (leb-true (word 3 past) 1 t.1.1.1.1.1.1.1.0))
      ∙ take-append-drop (admission_length ws) ws

-- a departure
pub departure-again : (ws : List ℕ) → length ws ≡ 4 → departure_sound ws ≡ true → departure_words (departure_in ws) ≡ ws
departure-again ws size h =
    let t = each_of (departure_tests ws) h in
    let w : (i : ℕ) (m : List ℕ) → i ≤ 3 → drop (i + 1) ws ≡ m → drop i ws ≡ word i ws ∷ m = λ i m l e. word_then i ws m (omega (arith, size, l)) e in
    ap (λ m. word 0 ws ∷ word 1 ws ∷ m) (go (word 2 ws) (word 3 ws) (leb-true (word 2 ws) 1 t.1.1.0) t.1.1.1.0)
    ∙ sym (w 0 _ (omega arith) (w 1 _ (omega arith) (w 2 _ (omega arith) (w 3 _ (omega arith) (nil_from_length (drop 4 ws) (length-drop 4 ws ∙ omega (arith, size)))))))
  where
    go : (n until : ℕ) → n ≤ 1 → until_fits n until ≡ true → stamp_words (stamp_in n until) ≡ n ∷ until ∷ []
    go zero until k q = ap (λ m. 0 ∷ m ∷ []) (sym (eqb-true until 0 q))
    go (suc zero) until k q = refl
    go (suc (suc n)) until k q = absurd (omega (arith, k))

-- One entry, one departure and one count of a snapshot: what words that the reader lets pass give is good.
-- Assumes nothing.
use Prim.Native.Nat.{ℕ, zero, suc, ◌+◌, ◌^◌, ◌≤◌}
use mathlib.Core.Path.{◌≡◌}
use mathlib.Core.Bool.{Bool, true}
use mathlib.Core.List.{List, [], ◌∷◌}
use native.Mathlib.Omega.{arith}
use borrow.Author.Tests.{leb-true, ltb-true, ne_eqb}
use lib.Dec.{eqb, leb}
use lib.ListN.{length, drop, replicate}
use Rattle.lists.specs.Lists.{all, Every, ascending}
use Rattle.lists.proofs.Keep.{every_all, every_map, every_unmap, every_more, Passed, each_of}
use Rattle.lists.proofs.Order.{ascending_test}
use Rattle.lists.proofs.Parts.{every_take, every_drop, every_both}
use Rattle.lists.proofs.Tests.{and_left, and_right}
use Rattle.lists.proofs.Joined.{length_read, every_piece}
use Rattle.rules.specs.Numbers.{is_word, is_time, is_shard}
use Rattle.rules.specs.Plain.{Absence, absence_key}
use Rattle.rules.specs.Words.{word, within, route_count, core_count, edge_count, sizes, decomposed, admission_formed, admission_timed, admission_placed}
use Rattle.rules.specs.Good.{Holds, GoodAbsence, is_departed_by, GoodEntry, GoodStamp, GoodDeparture, GoodCount}
use Rattle.rules.specs.Snapshot.{admission_length, admission_of, history_of, absence_count, mark_count, history_length, absence_parts, absence_in, entry_in, stamp_in, departure_in, count_in, entry_formed, part_fits, marks_fit, entry_sound, until_fits, departure_sound, count_sound}
use Rattle.rules.proofs.SnapshotParts.{part-good}
use Rattle.rules.proofs.Taken.{words-at, formed, terms-good}

-- The tests.
module _ (ws : List ℕ) where
  abbrev pub form_tests : List Bool
  form_tests =
      leb (route_count ws) 8
      ∷ leb (core_count ws) 8
      ∷ leb (edge_count ws) 8
      ∷ within 4 (sizes ws)
      ∷ leb (absence_count (history_of ws)) 8
      ∷ leb (mark_count (history_of ws)) 8
      ∷ eqb (length ws) (admission_length ws + history_length (history_of ws))
      ∷ []

  abbrev pub rest_tests : ℕ → List Bool
  rest_tests local =
      admission_formed (admission_of ws)
      ∷ admission_timed (admission_of ws)
      ∷ admission_placed (admission_of ws)
      ∷ leb (word 0 (history_of ws)) 3
      ∷ part_fits (entry_in ws).part local (decomposed (admission_of ws)) (entry_in ws).terms
      ∷ leb (entry_in ws).certificate 2
      ∷ is_departed_by (entry_in ws).departed_by
      ∷ leb (word 3 (history_of ws)) 1
      ∷ all (λ (a : Absence). is_shard a.shard) (entry_in ws).absences
      ∷ ascending absence_key (entry_in ws).absences
      ∷ marks_fit (entry_in ws).part local (entry_in ws).terms (entry_in ws).marks (entry_in ws).returned
      ∷ []

  pub form_passed : entry_formed ws ≡ true → Every Passed form_tests
  unfolding entry_formed
  form_passed f = each_of form_tests f

  pub rest_passed : (local : ℕ) → entry_sound local ws ≡ true → Every Passed (rest_tests local)
  unfolding entry_sound
  rest_passed local s = each_of (rest_tests local) s

module _ (local : ℕ) (ws : List ℕ) (v : Every (Holds is_word) ws) (f : entry_formed ws ≡ true) (s : entry_sound local ws ≡ true) where
  abbrev hs : List ℕ
  hs = history_of ws

  abbrev t : Every Passed (rest_tests ws local)
  t = rest_passed ws local s

  few_absences : length (entry_in ws).absences ≤ 8
  unfolding entry_in
  few_absences =
      omega (arith, leb-true (absence_count hs) 8 (form_passed ws f).1.1.1.1.0, length_read absence_in 2 (absence_count hs) (drop 5 hs))

  absences-good : Every GoodAbsence (entry_in ws).absences
  unfolding entry_in
  absences-good =
      let shards = every_unmap absence_in (λ a. is_shard a.shard ≡ true) (absence_parts hs) (every_all (λ (a : Absence). is_shard a.shard) (entry_in ws).absences t.1.1.1.1.1.1.1.1.0) in
      let keys = every_piece (Holds is_word) (replicate (absence_count hs) 2) (drop 5 hs) (every_drop (Holds is_word) 5 hs (every_drop (Holds is_word) (admission_length ws) ws v)) in
      every_map absence_in GoodAbsence (absence_parts hs)
      (every_more _ _ (λ m k. record { shard = k.0; key = words-at 1 m k.1 }) (absence_parts hs) (every_both _ _ (absence_parts hs) shards keys))

  pub entry-good : GoodEntry local (entry_in ws)
  unfolding entry_in
  entry-good =
      record {
        terms = terms-good (admission_of ws) (every_take (Holds is_word) (admission_length ws) ws v) (formed (admission_of ws) t.0) t.1.0 t.1.1.0;
        certificate = leb-true (word 1 hs) 2 t.1.1.1.1.1.0;
        departed_by = t.1.1.1.1.1.1.0;
        absence_count = few_absences;
        absences = absences-good;
        absence_order = ascending_test absence_key (entry_in ws).absences t.1.1.1.1.1.1.1.1.1.0;
        part = part-good (entry_in ws).part local (decomposed (admission_of ws)) (entry_in ws).terms (entry_in ws).marks (entry_in ws).returned t.1.1.1.1.0 t.1.1.1.1.1.1.1.1.1.1.0;
      }

-- a departure
abbrev pub departure_tests : List ℕ → List Bool
departure_tests ws = is_shard (word 0 ws) ∷ is_time (word 1 ws) ∷ leb (word 2 ws) 1 ∷ until_fits (word 2 ws) (word 3 ws) ∷ []

pub departure-good : (ws : List ℕ) → departure_sound ws ≡ true → GoodDeparture (departure_in ws)
departure-good ws h =
    let t = each_of (departure_tests ws) h in
    record { shard = t.0; cut = t.1.0; stamp = go (word 2 ws) (word 3 ws) t.1.1.1.0 }
  where
    go : (n until : ℕ) → until_fits n until ≡ true → GoodStamp (stamp_in n until)
    go zero until h = tt
    go (suc n) until h = rw (ne_eqb (suc n) 0 (λ e. omega (arith, e))) h

-- a count
pub count-good : (ws : List ℕ) → Every (Holds is_word) ws → count_sound ws ≡ true → GoodCount (count_in ws)
count-good ws v h =
    record {
      shard = and_left (is_shard (word 0 ws)) (leb 1 (word 1 ws)) h;
      some = leb-true 1 (word 1 ws) (and_right (is_shard (word 0 ws)) (leb 1 (word 1 ws)) h);
      few = omega (arith, ltb-true (word 1 ws) (2 ^ 64) (words-at 1 ws v));
    }

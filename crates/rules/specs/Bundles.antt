-- A bundle on closed examples, both sides of each edge: what it says, and how many entries and departures there are after it.
-- Local 4, V 100, C 50, L 200.
use Rattle.std.specs.Prelude.{ℕ, zero, suc, ◌-◌, ◌^◌, ◌≡◌, refl, List, [], ◌∷◌, ◌++◌, map, length}
use Rattle.lists.specs.Lists.{concat_map}
use Rattle.rules.specs.Words.{admission_terms, admission_formed, admission_timed, admission_placed, record_groups, record_formed, record_timed, finalization_lines, deciding, finalization_formed, bundle_whole, bundle_known, bundle_measured, bundle_items}
use Rattle.rules.specs.Entries.{admitted}
use Rattle.rules.specs.Outcome.{Outcome, said}
use Rattle.rules.specs.Calls.{making, after_admission, after_absence, after_abandonment, after_finalization, after_terminal, after_bundle}
use Rattle.rules.specs.Instances.{Row}

abbrev times : {A : Type 0} → ℕ → A → List A
times zero x = []
times (suc n) x = x ∷ times n x

abbrev pub up_to : ℕ → List ℕ
up_to zero = []
up_to (suc n) = suc n ∷ up_to n

-- items of their kinds, put down as a bundle; items of one kind
abbrev pub bundle_of : List ℕ → List (List ℕ) → List ℕ
bundle_of kinds items = length kinds ∷ kinds ++ (map (λ ws. length ws) items ++ concat_map (λ ws. ws) items)

abbrev all_of_kind : ℕ → List (List ℕ) → List ℕ
all_of_kind k items = bundle_of (times (length items) k) items

abbrev shown : Outcome → List ℕ
shown o = said o ++ (length o.ledger.entries ∷ length o.ledger.departures ∷ [])

abbrev given : List ℕ → List ℕ
given ws = shown (after_bundle ws (making 4 100 50 200).ledger)

-- of transaction t: an absence of shard 5's cell 1; an admission alone, at a time; a line that ends it as Aborted
abbrev pub absence_on : ℕ → List ℕ
absence_on t = t ∷ 5 ∷ 1 ∷ []

abbrev pub admission_of : ℕ → ℕ → List ℕ
admission_of t at = 0 ∷ 0 ∷ 0 ∷ t ∷ at ∷ 2000 ∷ 10 ∷ 77 ∷ 0 ∷ []

abbrev pub line_of : ℕ → List ℕ
line_of t = 1 ∷ 0 ∷ t ∷ 2 ∷ []

-- of a shard: a terminal; a record of some transactions
abbrev pub terminal_of : ℕ → List ℕ
terminal_of shard = shard ∷ 11 ∷ 0 ∷ 0 ∷ []

abbrev pub record_of : ℕ → List ℕ → List ℕ
record_of shard ts = length ts ∷ shard ∷ times (length ts) 0 ++ concat_map (λ t. t ∷ 1000 ∷ 2000 ∷ 10 ∷ 77 ∷ []) ts

-- absences on transaction 9, of so many cells
abbrev absences : ℕ → List (List ℕ)
absences n = map (λ k. 9 ∷ 5 ∷ k ∷ []) (up_to n)

abbrev pub bundles : List Row
bundles =
    record { name = "no item"; given = given (0 ∷ []); stated = 0 ∷ 0 ∷ 0 ∷ 0 ∷ 0 ∷ 0 ∷ [] }
    ∷ record { name = "no word"; given = given []; stated = 11 ∷ 0 ∷ 0 ∷ [] }
    ∷ record { name = "64 items"; given = given (bundle_of (times 64 5) (times 64 (absence_on 9))); stated = 0 ∷ 0 ∷ 0 ∷ 0 ∷ 0 ∷ 0 ∷ [] }
    ∷ record { name = "65 items"; given = given (bundle_of (times 65 5) (times 65 (absence_on 9))); stated = 11 ∷ 0 ∷ 0 ∷ [] }
    ∷ record { name = "kind 0"; given = given (bundle_of (0 ∷ []) (absence_on 9 ∷ [])); stated = 10 ∷ 0 ∷ 0 ∷ [] }
    ∷ record { name = "kind 6"; given = given (bundle_of (6 ∷ []) (absence_on 9 ∷ [])); stated = 10 ∷ 0 ∷ 0 ∷ [] }
    ∷ record { name = "kind 6 and a length that is not made up: 10"; given = given (1 ∷ 6 ∷ 5 ∷ []); stated = 10 ∷ 0 ∷ 0 ∷ [] }
    ∷ record { name = "kind 0 and a length that is not made up: 10"; given = given (1 ∷ 0 ∷ 5 ∷ []); stated = 10 ∷ 0 ∷ 0 ∷ [] }
    ∷ record { name = "kind 6 and no length: 11"; given = given (1 ∷ 6 ∷ []); stated = 11 ∷ 0 ∷ 0 ∷ [] }
    ∷ record { name = "kind 6 and 65 items: 11"; given = given (bundle_of (times 65 6) (times 65 (absence_on 9))); stated = 11 ∷ 0 ∷ 0 ∷ [] }
    ∷ record { name = "a word too many"; given = given (bundle_of (5 ∷ []) (absence_on 9 ∷ []) ++ (0 ∷ [])); stated = 11 ∷ 0 ∷ 0 ∷ [] }
    ∷ record { name = "lengths that are made up only if they wrap"; given = given (2 ∷ 5 ∷ 5 ∷ (2 ^ 64 - 1) ∷ 4 ∷ absence_on 9); stated = 11 ∷ 0 ∷ 0 ∷ [] }
    ∷ record { name = "two items of no words: an absence's 5"; given = given (2 ∷ 5 ∷ 5 ∷ 0 ∷ 0 ∷ []); stated = 5 ∷ 0 ∷ 0 ∷ [] }
    ∷ record { name = "two items of no words, one length missing"; given = given (2 ∷ 5 ∷ 5 ∷ 0 ∷ []); stated = 11 ∷ 0 ∷ 0 ∷ [] }
    ∷ record { name = "an absence of two words: its 5, ahead of its 4"; given = given (bundle_of (5 ∷ []) ((9 ∷ 0 ∷ []) ∷ [])); stated = 5 ∷ 0 ∷ 0 ∷ [] }
    ∷ record { name = "a terminal of three words"; given = given (bundle_of (1 ∷ []) ((5 ∷ 11 ∷ 0 ∷ []) ∷ [])); stated = 5 ∷ 0 ∷ 0 ∷ [] }
    ∷ record {
      name = "an absence, written before the admission that brings its transaction";
      given = given (bundle_of (5 ∷ 4 ∷ []) (absence_on 9 ∷ admission_of 9 1000 ∷ []));
      stated = 0 ∷ 1 ∷ 0 ∷ 0 ∷ 1 ∷ 0 ∷ [];
    }
    ∷ record {
      name = "a record, a finalization and admissions, of which one is of the same transaction, written in another order";
      given = given (bundle_of (4 ∷ 4 ∷ 4 ∷ 3 ∷ 2 ∷ 1 ∷ []) (admission_of 9 1000 ∷ admission_of 7 1000 ∷ admission_of 6 1000 ∷ line_of 9 ∷ record_of 5 (9 ∷ 8 ∷ []) ∷ terminal_of 5 ∷ []));
      stated = 0 ∷ 3 ∷ 2 ∷ 1 ∷ 4 ∷ 1 ∷ [];
    }
    ∷ record {
      name = "an item refused between others: nothing is done";
      given = given (bundle_of (1 ∷ 4 ∷ 4 ∷ 5 ∷ []) (terminal_of 5 ∷ admission_of 8 1000 ∷ admission_of 9 (2 ^ 48) ∷ absence_on 8 ∷ []));
      stated = 3 ∷ 0 ∷ 0 ∷ [];
    }
    ∷ record {
      name = "two refused: a terminal that is written last is done first";
      given = given (bundle_of (4 ∷ 1 ∷ []) (admission_of 9 (2 ^ 48) ∷ terminal_of 0 ∷ []));
      stated = 4 ∷ 0 ∷ 0 ∷ [];
    }
    ∷ record {
      name = "3, by a terminal's cut, by a time of a record and of an admission";
      given =
          given (all_of_kind 1 ((5 ∷ (2 ^ 48) ∷ 0 ∷ 0 ∷ []) ∷ [])) ++ given (all_of_kind 2 ((1 ∷ 5 ∷ 0 ∷ 9 ∷ (2 ^ 48) ∷ 2000 ∷ 10 ∷ 77 ∷ []) ∷ []))
          ++ given (all_of_kind 4 (admission_of 9 (2 ^ 48) ∷ []));
      stated = 3 ∷ 0 ∷ 0 ∷ 3 ∷ 0 ∷ 0 ∷ 3 ∷ 0 ∷ 0 ∷ [];
    }
    ∷ record {
      name = "4, by shard 0 of a terminal, a record, an admission's core, an absence";
      given =
          given (all_of_kind 1 (terminal_of 0 ∷ [])) ++ given (all_of_kind 2 (record_of 0 (9 ∷ []) ∷ []))
          ++ (given (all_of_kind 4 ((0 ∷ 1 ∷ 0 ∷ 9 ∷ 1000 ∷ 2000 ∷ 10 ∷ 77 ∷ 1 ∷ 0 ∷ []) ∷ [])) ++ given (all_of_kind 5 ((9 ∷ 0 ∷ 1 ∷ []) ∷ [])));
      stated = 4 ∷ 0 ∷ 0 ∷ 4 ∷ 0 ∷ 0 ∷ 4 ∷ 0 ∷ 0 ∷ 4 ∷ 0 ∷ 0 ∷ [];
    }
    ∷ record {
      name = "5, by a terminal stamped twice, by no words of a record and of an admission, by decision 4";
      given =
          given (all_of_kind 1 ((5 ∷ 11 ∷ 2 ∷ 0 ∷ []) ∷ [])) ++ given (all_of_kind 2 ([] ∷ [])) ++ (given (all_of_kind 3 ((1 ∷ 0 ∷ 9 ∷ 4 ∷ []) ∷ [])) ++ given (all_of_kind 4 ([] ∷ [])));
      stated = 5 ∷ 0 ∷ 0 ∷ 5 ∷ 0 ∷ 0 ∷ 5 ∷ 0 ∷ 0 ∷ 5 ∷ 0 ∷ 0 ∷ [];
    }
    ∷ record {
      name = "48 entries, one of them named by a second record";
      given = given (bundle_of (4 ∷ 2 ∷ 2 ∷ []) (admission_of 48 1000 ∷ record_of 5 (up_to 47) ∷ record_of 6 (1 ∷ []) ∷ []));
      stated = 0 ∷ 1 ∷ 47 ∷ 0 ∷ 48 ∷ 0 ∷ [];
    }
    ∷ record {
      name = "6: a 49th, by a record and by an admission";
      given =
          given (all_of_kind 2 (record_of 5 (up_to 48) ∷ record_of 6 (49 ∷ []) ∷ [])) ++ given (bundle_of (4 ∷ 2 ∷ []) (admission_of 49 1000 ∷ record_of 5 (up_to 48) ∷ []));
      stated = 6 ∷ 0 ∷ 0 ∷ 6 ∷ 0 ∷ 0 ∷ [];
    }
    ∷ record {
      name = "eight absences, on what an admission brings that is written last";
      given = given (bundle_of (times 8 5 ++ (4 ∷ [])) (absences 8 ++ (admission_of 9 1000 ∷ [])));
      stated = 0 ∷ 1 ∷ 0 ∷ 0 ∷ 1 ∷ 0 ∷ [];
    }
    ∷ record {
      name = "7: nine absences on it, and so it was there";
      given = given (bundle_of (times 9 5 ++ (4 ∷ [])) (absences 9 ++ (admission_of 9 1000 ∷ [])));
      stated = 7 ∷ 0 ∷ 0 ∷ [];
    }
    ∷ record { name = "32 departures"; given = given (all_of_kind 1 (map terminal_of (up_to 32))); stated = 0 ∷ 0 ∷ 0 ∷ 0 ∷ 0 ∷ 32 ∷ [] }
    ∷ record { name = "8: a 33rd"; given = given (all_of_kind 1 (map terminal_of (up_to 33))); stated = 8 ∷ 0 ∷ 0 ∷ [] }
    ∷ []

pub bundled : map (λ (r : Row). r.given) bundles ≡ map (λ (r : Row). r.stated) bundles
unfolding admission_terms admission_formed admission_timed admission_placed record_groups record_formed record_timed finalization_lines deciding finalization_formed bundle_whole bundle_known bundle_measured bundle_items admitted making after_admission after_absence after_abandonment after_finalization after_terminal after_bundle
bundled = refl

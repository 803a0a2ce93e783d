-- Paper 3 on closed examples, both sides of each edge: the words of ledgers that calls reach, what the reader gives for words, and what it hands
-- back. Local 4, V 100, C 50, L 200.
use Rattle.std.specs.Prelude.{ℕ, ◌+◌, ◌-◌, ◌^◌, ◌≡◌, refl, List, [], ◌∷◌, ◌++◌, map, length, replicate}
use Rattle.lists.specs.Lists.{concat_map}
use Rattle.rules.specs.Words.{admission_terms, admission_formed, admission_timed, admission_placed, record_groups, record_formed, record_timed, finalization_lines, deciding, finalization_formed}
use Rattle.rules.specs.Entries.{admitted}
use Rattle.rules.specs.Outcome.{Outcome, said}
use Rattle.rules.specs.Calls.{Call, admission, absence, certify, abandonment, settled, returned, closes, finalization, terminal, step, run, making, after_admission, after_absence, after_certify, after_abandonment, after_mark, after_closes, after_finalization, after_terminal}
use Rattle.rules.specs.Snapshot.{entry_words, snapshot_words, entry_in, ledger_in, entry_formed, snapshot_formed, entry_sound, snapshot_sound, restoring}
use Rattle.rules.specs.Widths.{snapshot_room}
use Rattle.rules.specs.Instances.{Row, first}

-- what is written after a list of calls; the numbers that the reader gives, list by list; what it hands back, written again behind its number
abbrev written : List Call → List ℕ
written cs = snapshot_words (run cs (making 4 100 50 200).ledger)

abbrev numbers : List (List ℕ) → List ℕ
numbers l = map (λ ws. (restoring ws).refused) l

abbrev back : Outcome → List ℕ
back o = o.refused ∷ snapshot_words o.ledger

abbrev read_back : List ℕ → List ℕ
read_back ws = back (restoring ws)

-- entries and departures put down, as they stand behind the counts; counts, entries and departures as a snapshot; one of each alone
abbrev listed : List (List ℕ) → List (List ℕ) → List ℕ
listed es ds = length es ∷ length ds ∷ (map (λ e. length e) es ++ (concat_map (λ e. e) es ++ concat_map (λ d. d) ds))

abbrev counting : List (List ℕ) → List ℕ → List ℕ
counting cs behind = 4 ∷ 100 ∷ 50 ∷ 200 ∷ length cs ∷ (concat_map (λ c. c) cs ++ behind)

abbrev counts_alone : List (List ℕ) → List ℕ
counts_alone cs = counting cs (0 ∷ 0 ∷ [])

abbrev snapshot_of : List (List ℕ) → List (List ℕ) → List ℕ
snapshot_of es ds = counting [] (listed es ds)

abbrev one : List ℕ → List ℕ
one e = snapshot_of (e ∷ []) []

abbrev gone : List ℕ → List ℕ
gone d = snapshot_of [] (d ∷ [])

-- transaction t, whole and by itself; the words of transaction 9 that stand behind an entry's three sizes
abbrev whole_of : ℕ → List ℕ
whole_of t = 0 ∷ 0 ∷ 0 ∷ t ∷ 1000 ∷ 2000 ∷ 10 ∷ 77 ∷ 0 ∷ 0 ∷ 0 ∷ 0 ∷ 0 ∷ 0 ∷ 0 ∷ []

abbrev nine : ℕ → List ℕ
nine is_decomposed = 9 ∷ 1000 ∷ 2000 ∷ 10 ∷ 77 ∷ is_decomposed ∷ []

-- a history of no absences: part, certificate, naming shard, returned, marks
abbrev history : ℕ → ℕ → ℕ → ℕ → List ℕ → List ℕ
history part code shard is_returned marks = part ∷ code ∷ shard ∷ is_returned ∷ 0 ∷ length marks ∷ marks

-- whole, with this history; with routes; with absences
abbrev whole_with : List ℕ → List ℕ
whole_with past = 0 ∷ 0 ∷ 0 ∷ nine 0 ++ past

abbrev routed : ℕ → List ℕ
routed n = n ∷ 0 ∷ 0 ∷ nine 0 ++ (replicate n 5 ++ history 0 0 0 0 [])

abbrev absent : List (List ℕ) → List ℕ
absent cells = 0 ∷ 0 ∷ 0 ∷ nine 0 ++ (0 ∷ 0 ∷ 0 ∷ 0 ∷ length cells ∷ (concat_map (λ a. a) cells ++ (0 ∷ [])))

-- a leg with core shard 5 that issues records of these ids; an entry with this core that issues record 7, of a kind
abbrev leg_of : List ℕ → List ℕ → List ℕ
leg_of ids past = 0 ∷ 1 ∷ length ids ∷ nine 1 ++ (5 ∷ ids ++ (replicate (length ids) 4 ++ (replicate (length ids) 0 ++ (replicate (length ids) 0 ++ past))))

abbrev core_of : List ℕ → ℕ → List ℕ → List ℕ
core_of shards kind past = 0 ∷ length shards ∷ 1 ∷ nine 1 ++ (shards ++ (7 ∷ 4 ∷ kind ∷ 0 ∷ past))

-- a leg with core shard 5 that issues record 7 to these shards
abbrev sent_to : List ℕ → List ℕ
sent_to shards = 0 ∷ 1 ∷ 1 ∷ nine 1 ++ (5 ∷ 7 ∷ 4 ∷ 0 ∷ length shards ∷ shards ++ history 1 0 0 0 [])

-- the calls that bring a leg of two records, a core with an owed record, and what is left of it
abbrev leg_comes : Call
leg_comes = admission (0 ∷ 1 ∷ 2 ∷ 9 ∷ 1000 ∷ 2000 ∷ 10 ∷ 77 ∷ 1 ∷ 5 ∷ 1 ∷ 2 ∷ 4 ∷ 4 ∷ 0 ∷ 0 ∷ 1 ∷ 0 ∷ 5 ∷ [])

abbrev core_stays : List Call
core_stays =
    admission (0 ∷ 1 ∷ 1 ∷ 9 ∷ 1000 ∷ 2000 ∷ 10 ∷ 77 ∷ 1 ∷ 4 ∷ 7 ∷ 4 ∷ 1 ∷ 0 ∷ []) ∷ finalization (1 ∷ 1 ∷ 9 ∷ 1 ∷ 9 ∷ []) ∷ returned 7 9 ∷ []

-- the words of some of these ledgers, by hand
abbrev of_leg : List ℕ
of_leg =
    4 ∷ 100 ∷ 50 ∷ 200 ∷ 0 ∷ 1 ∷ 0 ∷ 28 ∷ 0 ∷ 1 ∷ 2 ∷ 9 ∷ 1000 ∷ 2000 ∷ 10 ∷ 77 ∷ 1 ∷ 5 ∷ 1 ∷ 2 ∷ 4 ∷ 4 ∷ 0 ∷ 0 ∷ 1 ∷ 0 ∷ 5 ∷ 1 ∷ 0 ∷ 0 ∷ 0 ∷ 1 ∷ 5 ∷ 2014 ∷ 1 ∷ 1 ∷ []

abbrev of_remainder : List ℕ
of_remainder = 4 ∷ 100 ∷ 50 ∷ 200 ∷ 0 ∷ 1 ∷ 0 ∷ 21 ∷ 0 ∷ 1 ∷ 1 ∷ 9 ∷ 1000 ∷ 2000 ∷ 10 ∷ 77 ∷ 1 ∷ 4 ∷ 7 ∷ 4 ∷ 1 ∷ 0 ∷ 3 ∷ 0 ∷ 0 ∷ 1 ∷ 0 ∷ 1 ∷ 7 ∷ []

abbrev of_departures : List ℕ
of_departures = 4 ∷ 100 ∷ 50 ∷ 200 ∷ 0 ∷ 0 ∷ 2 ∷ 5 ∷ 11 ∷ 1 ∷ 30 ∷ 6 ∷ 12 ∷ 0 ∷ 0 ∷ []

abbrev of_two : List ℕ
of_two =
    4 ∷ 100 ∷ 50 ∷ 200 ∷ 1 ∷ 6 ∷ 1 ∷ 2 ∷ 0 ∷ 15 ∷ 16
    ∷ 0 ∷ 0 ∷ 0 ∷ 8 ∷ 1000 ∷ 2000 ∷ 10 ∷ 77 ∷ 0 ∷ 0 ∷ 2 ∷ 6 ∷ 0 ∷ 0 ∷ 0
    ∷ 1 ∷ 0 ∷ 0 ∷ 9 ∷ 1000 ∷ 2000 ∷ 10 ∷ 77 ∷ 0 ∷ 55 ∷ 0 ∷ 1 ∷ 0 ∷ 0 ∷ 0 ∷ 0 ∷ []

-- the ledger of a refused making, written
abbrev anew : List ℕ
anew = 1 ∷ 1 ∷ 1 ∷ 1 ∷ 0 ∷ 0 ∷ 0 ∷ []

-- transaction t with all that an entry may hold, 119 words
abbrev full_of : ℕ → List ℕ
full_of t =
    8 ∷ 8 ∷ 8 ∷ t ∷ 1000 ∷ 2000 ∷ 10 ∷ 77 ∷ 1
    ∷ (replicate 8 55
    ++ (map (λ k. k + 4) (first 8)
    ++ (first 8
    ++ (replicate 8 4
    ++ (replicate 8 0
    ++ (replicate 8 4
    ++ (concat_map (λ k. first 4) (first 8)
    ++ (1 ∷ 2 ∷ 6 ∷ 1 ∷ 8 ∷ (concat_map (λ k. 5 ∷ k ∷ []) (first 8) ++ (8 ∷ first 8))))))))))

abbrev full : List ℕ
full = counting (map (λ k. k ∷ 7 ∷ []) (first 32)) (listed (map full_of (first 48)) (map (λ k. k ∷ 11 ∷ 1 ∷ 30 ∷ []) (first 32)))

abbrev pub snapshots : List Row
snapshots =
    record { name = "an empty ledger"; given = written []; stated = 4 ∷ 100 ∷ 50 ∷ 200 ∷ 0 ∷ 0 ∷ 0 ∷ [] }
    ∷ record { name = "a leg of two records, one settled, and an absence"; given = written (leg_comes ∷ settled 1 9 ∷ absence 9 5 2014 ∷ []); stated = of_leg }
    ∷ record { name = "what is left of a core, its record returned"; given = written core_stays; stated = of_remainder }
    ∷ record {
      name = "two departures, the later shard filed first: one stamped, one not";
      given = written (terminal 6 12 0 30 ∷ terminal 5 11 1 30 ∷ []);
      stated = of_departures;
    }
    ∷ record {
      name = "two entries, one rebuilt and counted; the first by transaction stands first";
      given = written (admission (1 ∷ 0 ∷ 0 ∷ 9 ∷ 1000 ∷ 2000 ∷ 10 ∷ 77 ∷ 0 ∷ 55 ∷ []) ∷ certify 9 1 ∷ abandonment (1 ∷ 6 ∷ 0 ∷ 8 ∷ 1000 ∷ 2000 ∷ 10 ∷ 77 ∷ []) ∷ []);
      stated = of_two;
    }
    ∷ record {
      name = "each of these read back";
      given = concat_map read_back ((4 ∷ 100 ∷ 50 ∷ 200 ∷ 0 ∷ 0 ∷ 0 ∷ []) ∷ of_leg ∷ of_remainder ∷ of_departures ∷ of_two ∷ []);
      stated = concat_map (λ ws. 0 ∷ ws) ((4 ∷ 100 ∷ 50 ∷ 200 ∷ 0 ∷ 0 ∷ 0 ∷ []) ∷ of_leg ∷ of_remainder ∷ of_departures ∷ of_two ∷ []);
    }
    ∷ record { name = "a restored ledger closes what was left: Aborted"; given = said (step (closes 2) (restoring of_remainder).ledger); stated = 0 ∷ 1 ∷ 9 ∷ 2 ∷ [] }
    ∷ record {
      name = "what is refused hands back the ledger of a refused making";
      given = read_back [] ++ read_back (0 ∷ 100 ∷ 50 ∷ 200 ∷ 0 ∷ 0 ∷ 0 ∷ []);
      stated = 12 ∷ anew ++ (13 ∷ anew);
    }
    ∷ record { name = "the fullest has 5,959 words"; given = length full ∷ snapshot_room ∷ numbers (full ∷ []); stated = 5959 ∷ 5959 ∷ 0 ∷ [] }
    ∷ record {
      name = "32 counts; 33; none, and 2^64 - 1 of none";
      given =
          numbers
          (map (λ (n : ℕ). counts_alone (map (λ k. k ∷ 7 ∷ []) (first n))) (32 ∷ 33 ∷ 0 ∷ [])
          ++ ((4 ∷ 100 ∷ 50 ∷ 200 ∷ (2 ^ 64 - 1) ∷ 0 ∷ 0 ∷ []) ∷ []));
      stated = 0 ∷ 12 ∷ 0 ∷ 12 ∷ [];
    }
    ∷ record {
      name = "a count with half a pair, with nothing behind it, with one number, with both";
      given =
          numbers
          ((4 ∷ 100 ∷ 50 ∷ 200 ∷ 1 ∷ 6 ∷ []) ∷ counting ((6 ∷ 7 ∷ []) ∷ []) [] ∷ counting ((6 ∷ 7 ∷ []) ∷ []) (0 ∷ [])
          ∷ counting ((6 ∷ 7 ∷ []) ∷ []) (0 ∷ 0 ∷ []) ∷ []);
      stated = 12 ∷ 12 ∷ 12 ∷ 0 ∷ [];
    }
    ∷ record {
      name = "48 entries; 49";
      given = numbers (snapshot_of (map whole_of (first 48)) [] ∷ snapshot_of (map whole_of (first 49)) [] ∷ []);
      stated = 0 ∷ 12 ∷ [];
    }
    ∷ record {
      name = "32 departures; 33";
      given = numbers (map (λ (n : ℕ). snapshot_of [] (map (λ k. k ∷ 11 ∷ 0 ∷ 0 ∷ []) (first n))) (32 ∷ 33 ∷ []));
      stated = 0 ∷ 12 ∷ [];
    }
    ∷ record { name = "8 routes; 9"; given = numbers (one (routed 8) ∷ one (routed 9) ∷ []); stated = 0 ∷ 12 ∷ [] }
    ∷ record {
      name = "8 core shards; 9";
      given = numbers (map (λ (n : ℕ). one (core_of (first n) 0 (history 2 0 0 0 []))) (8 ∷ 9 ∷ []));
      stated = 0 ∷ 12 ∷ [];
    }
    ∷ record { name = "8 edges; 9"; given = numbers (map (λ (n : ℕ). one (leg_of (first n) (history 1 0 0 0 []))) (8 ∷ 9 ∷ [])); stated = 0 ∷ 12 ∷ [] }
    ∷ record {
      name = "8 absences; 9";
      given = numbers (map (λ (n : ℕ). one (absent (map (λ k. 5 ∷ k ∷ []) (first n)))) (8 ∷ 9 ∷ []));
      stated = 0 ∷ 12 ∷ [];
    }
    ∷ record { name = "8 marks; 9"; given = numbers (map (λ (n : ℕ). one (leg_of (first 8) (history 1 0 0 0 (first n)))) (8 ∷ 9 ∷ [])); stated = 0 ∷ 12 ∷ [] }
    ∷ record { name = "4 destinations; 5"; given = numbers (map (λ (n : ℕ). one (sent_to (first n))) (4 ∷ 5 ∷ [])); stated = 0 ∷ 12 ∷ [] }
    ∷ record {
      name = "an entry of 15 words, said to have 14, 15, 16; and with a word less or more, said to have as many";
      given =
          numbers
          (map (λ (n : ℕ). 4 ∷ 100 ∷ 50 ∷ 200 ∷ 0 ∷ 1 ∷ 0 ∷ n ∷ whole_of 9) (14 ∷ 15 ∷ 16 ∷ [])
          ++ (one (0 ∷ 0 ∷ 0 ∷ 9 ∷ 1000 ∷ 2000 ∷ 10 ∷ 77 ∷ 0 ∷ 0 ∷ 0 ∷ 0 ∷ 0 ∷ 0 ∷ []) ∷ one (whole_of 9 ++ (0 ∷ [])) ∷ []));
      stated = 12 ∷ 0 ∷ 12 ∷ 12 ∷ 12 ∷ [];
    }
    ∷ record {
      name = "two entries of 15 words, said to have 14 and 16";
      given = numbers ((4 ∷ 100 ∷ 50 ∷ 200 ∷ 0 ∷ 2 ∷ 0 ∷ 14 ∷ 16 ∷ whole_of 8 ++ whole_of 9) ∷ (4 ∷ 100 ∷ 50 ∷ 200 ∷ 0 ∷ 2 ∷ 0 ∷ 15 ∷ 15 ∷ whole_of 8 ++ whole_of 9) ∷ []);
      stated = 12 ∷ 0 ∷ [];
    }
    ∷ record {
      name = "no word, six words, seven, eight; an entry's length and no entry; half a departure";
      given =
          numbers
          ([] ∷ (4 ∷ 100 ∷ 50 ∷ 200 ∷ 0 ∷ 0 ∷ []) ∷ (4 ∷ 100 ∷ 50 ∷ 200 ∷ 0 ∷ 0 ∷ 0 ∷ []) ∷ (4 ∷ 100 ∷ 50 ∷ 200 ∷ 0 ∷ 0 ∷ 0 ∷ 0 ∷ [])
          ∷ (4 ∷ 100 ∷ 50 ∷ 200 ∷ 0 ∷ 1 ∷ 0 ∷ 15 ∷ []) ∷ (4 ∷ 100 ∷ 50 ∷ 200 ∷ 0 ∷ 0 ∷ 1 ∷ 5 ∷ 11 ∷ []) ∷ []);
      stated = 12 ∷ 12 ∷ 0 ∷ 12 ∷ 12 ∷ 12 ∷ [];
    }
    ∷ record {
      name = "a word behind the last entry, behind the last departure";
      given = numbers ((one (whole_of 9) ++ (0 ∷ [])) ∷ (gone (5 ∷ 11 ∷ 1 ∷ 30 ∷ []) ++ (0 ∷ [])) ∷ []);
      stated = 12 ∷ 12 ∷ [];
    }
    ∷ record {
      name = "an entry of no words, and one of its admission's words alone";
      given = numbers (one [] ∷ one (0 ∷ 0 ∷ 0 ∷ nine 0) ∷ []);
      stated = 12 ∷ 12 ∷ [];
    }
    ∷ record {
      name = "2^64 - 1 as each size: n, m, an entry's length, r, c, e, a destination size, absences, marks";
      given =
          (let huge : ℕ = 2 ^ 64 - 1 in
          numbers
          ((4 ∷ 100 ∷ 50 ∷ 200 ∷ 0 ∷ huge ∷ 0 ∷ []) ∷ (4 ∷ 100 ∷ 50 ∷ 200 ∷ 0 ∷ 0 ∷ huge ∷ []) ∷ (4 ∷ 100 ∷ 50 ∷ 200 ∷ 0 ∷ 1 ∷ 0 ∷ huge ∷ whole_of 9)
          ∷ one (huge ∷ 0 ∷ 0 ∷ nine 0 ++ history 0 0 0 0 []) ∷ one (0 ∷ huge ∷ 0 ∷ nine 0 ++ history 0 0 0 0 []) ∷ one (0 ∷ 0 ∷ huge ∷ nine 0 ++ history 0 0 0 0 [])
          ∷ one (0 ∷ 1 ∷ 1 ∷ nine 1 ++ (5 ∷ 7 ∷ 4 ∷ 0 ∷ huge ∷ history 1 0 0 0 [])) ∷ one (0 ∷ 0 ∷ 0 ∷ nine 0 ++ (0 ∷ 0 ∷ 0 ∷ 0 ∷ huge ∷ 0 ∷ []))
          ∷ one (0 ∷ 0 ∷ 0 ∷ nine 0 ++ (0 ∷ 0 ∷ 0 ∷ 0 ∷ 0 ∷ huge ∷ [])) ∷ []));
      stated = replicate 9 12;
    }
    ∷ record {
      name = "lengths that are made up only if they wrap";
      given = numbers ((4 ∷ 100 ∷ 50 ∷ 200 ∷ 0 ∷ 2 ∷ 0 ∷ (2 ^ 64 - 1) ∷ 16 ∷ whole_of 9) ∷ []);
      stated = 12 ∷ [];
    }
    ∷ record {
      name = "12 ahead of 13: local 0 and a word too many; the last entry's length behind a first of part 4";
      given =
          numbers
          ((0 ∷ 100 ∷ 50 ∷ 200 ∷ 0 ∷ 0 ∷ 0 ∷ 0 ∷ []) ∷ snapshot_of (whole_with (history 4 0 0 0 []) ∷ (whole_of 10 ++ (0 ∷ [])) ∷ []) []
          ∷ snapshot_of (whole_with (history 4 0 0 0 []) ∷ whole_of 10 ∷ []) [] ∷ []);
      stated = 12 ∷ 12 ∷ 13 ∷ [];
    }
    ∷ []

abbrev pub unwritten : List Row
unwritten =
    record {
      name = "marks on a leg that issued 1 and 2: each, both, none; one that was never issued, out of order, twice";
      given =
          numbers
          (map (λ (ms : List ℕ). one (leg_of (1 ∷ 2 ∷ []) (history 1 0 0 0 ms)))
          ((1 ∷ []) ∷ (2 ∷ []) ∷ (1 ∷ 2 ∷ []) ∷ [] ∷ (3 ∷ []) ∷ (2 ∷ 1 ∷ []) ∷ (1 ∷ 1 ∷ []) ∷ []));
      stated = 0 ∷ 0 ∷ 0 ∷ 0 ∷ 13 ∷ 13 ∷ 13 ∷ [];
    }
    ∷ record {
      name = "a mark is a record's key: of id 2^32 + 7 it is 7";
      given = numbers (map (λ (r : ℕ). one (leg_of ((2 ^ 32 + 7) ∷ []) (history 1 0 0 0 (r ∷ [])))) (7 ∷ (2 ^ 32 + 7) ∷ []));
      stated = 0 ∷ 13 ∷ [];
    }
    ∷ record {
      name = "a core without marks, with one, returned; what is left of it with one, returned; returned without a mark";
      given =
          numbers
          (one (core_of (4 ∷ []) 1 (history 2 0 0 0 [])) ∷ one (core_of (4 ∷ []) 1 (history 2 0 0 0 (7 ∷ []))) ∷ one (core_of (4 ∷ []) 1 (history 2 0 0 1 []))
          ∷ one (core_of (4 ∷ []) 1 (history 3 0 0 0 (7 ∷ []))) ∷ one (core_of (4 ∷ []) 1 (history 3 0 0 1 (7 ∷ []))) ∷ one (core_of (4 ∷ []) 1 (history 3 0 0 1 [])) ∷ []);
      stated = 0 ∷ 13 ∷ 13 ∷ 0 ∷ 0 ∷ 13 ∷ [];
    }
    ∷ record {
      name = "a remainder with an owed edge, without one, without local in its core";
      given =
          numbers
          (one (core_of (4 ∷ []) 1 (history 3 0 0 0 [])) ∷ one (core_of (4 ∷ []) 0 (history 3 0 0 0 [])) ∷ one (core_of (5 ∷ []) 1 (history 3 0 0 0 [])) ∷ []);
      stated = 0 ∷ 13 ∷ 13 ∷ [];
    }
    ∷ record {
      name = "a leg with local in its core; a core without it";
      given =
          numbers
          (one (core_of (5 ∷ []) 0 (history 1 0 0 0 [])) ∷ one (core_of (4 ∷ 5 ∷ []) 0 (history 1 0 0 0 [])) ∷ one (core_of (4 ∷ 5 ∷ []) 0 (history 2 0 0 0 []))
          ∷ one (core_of (5 ∷ []) 0 (history 2 0 0 0 [])) ∷ []);
      stated = 0 ∷ 13 ∷ 0 ∷ 13 ∷ [];
    }
    ∷ record {
      name = "absences by shard, then key; out of order by either; twice; of shard 0, of 2^33 - 1, of 2^33; of any key";
      given =
          numbers
          (map (λ (cells : List (List ℕ)). one (absent cells))
          (((5 ∷ 9 ∷ []) ∷ (6 ∷ 1 ∷ []) ∷ (6 ∷ 2 ∷ []) ∷ []) ∷ ((6 ∷ 1 ∷ []) ∷ (5 ∷ 9 ∷ []) ∷ []) ∷ ((6 ∷ 2 ∷ []) ∷ (6 ∷ 1 ∷ []) ∷ []) ∷ ((6 ∷ 1 ∷ []) ∷ (6 ∷ 1 ∷ []) ∷ [])
          ∷ ((0 ∷ 1 ∷ []) ∷ []) ∷ (((2 ^ 33 - 1) ∷ 1 ∷ []) ∷ []) ∷ (((2 ^ 33) ∷ 1 ∷ []) ∷ []) ∷ ((5 ∷ (2 ^ 64 - 1) ∷ []) ∷ []) ∷ []));
      stated = 0 ∷ 13 ∷ 13 ∷ 13 ∷ 13 ∷ 0 ∷ 13 ∷ 0 ∷ [];
    }
    ∷ record {
      name = "a departure stamped, unstamped, with an until and no stamp, stamped 2; cut and until 2^48";
      given =
          numbers
          (map gone
          ((5 ∷ 11 ∷ 1 ∷ 30 ∷ []) ∷ (5 ∷ 11 ∷ 0 ∷ 0 ∷ []) ∷ (5 ∷ 11 ∷ 0 ∷ 30 ∷ []) ∷ (5 ∷ 11 ∷ 2 ∷ 30 ∷ []) ∷ (5 ∷ (2 ^ 48) ∷ 0 ∷ 0 ∷ []) ∷ (5 ∷ 11 ∷ 1 ∷ (2 ^ 48) ∷ [])
          ∷ (5 ∷ (2 ^ 48 - 1) ∷ 1 ∷ (2 ^ 48 - 1) ∷ []) ∷ (5 ∷ 11 ∷ 1 ∷ 0 ∷ []) ∷ []));
      stated = 0 ∷ 0 ∷ 13 ∷ 13 ∷ 13 ∷ 13 ∷ 0 ∷ 0 ∷ [];
    }
    ∷ record {
      name = "departures of shard 0, of 2^33 - 1, of 2^33; two out of order, one twice";
      given =
          numbers
          (map (λ (shards : List ℕ). snapshot_of [] (map (λ s. s ∷ 11 ∷ 0 ∷ 0 ∷ []) shards))
          ((0 ∷ []) ∷ ((2 ^ 33 - 1) ∷ []) ∷ ((2 ^ 33) ∷ []) ∷ (6 ∷ 5 ∷ []) ∷ (5 ∷ 5 ∷ []) ∷ []));
      stated = 13 ∷ 0 ∷ 13 ∷ 13 ∷ 13 ∷ [];
    }
    ∷ record {
      name = "a count of 0, of 1; of shard 0, of 2^33 - 1, of 2^33; two in order, out of order, one twice";
      given =
          numbers
          (map counts_alone
          (((6 ∷ 0 ∷ []) ∷ []) ∷ ((6 ∷ 1 ∷ []) ∷ []) ∷ ((0 ∷ 1 ∷ []) ∷ []) ∷ (((2 ^ 33 - 1) ∷ 1 ∷ []) ∷ []) ∷ (((2 ^ 33) ∷ 1 ∷ []) ∷ [])
          ∷ ((5 ∷ 2 ∷ []) ∷ (6 ∷ 1 ∷ []) ∷ []) ∷ ((6 ∷ 1 ∷ []) ∷ (5 ∷ 2 ∷ []) ∷ []) ∷ ((5 ∷ 2 ∷ []) ∷ (5 ∷ 2 ∷ []) ∷ []) ∷ []));
      stated = 13 ∷ 0 ∷ 13 ∷ 0 ∷ 13 ∷ 0 ∷ 13 ∷ 13 ∷ [];
    }
    ∷ record {
      name = "two entries in order, out of order, one twice";
      given =
          numbers
          (snapshot_of (whole_of 8 ∷ whole_of 9 ∷ []) [] ∷ snapshot_of (whole_of 9 ∷ whole_of 8 ∷ []) [] ∷ snapshot_of (whole_of 9 ∷ whole_of 9 ∷ []) [] ∷ []);
      stated = 0 ∷ 13 ∷ 13 ∷ [];
    }
    ∷ record {
      name = "decomposed 1 on a whole entry, 0 and 2 on a leg";
      given =
          numbers
          (one (0 ∷ 0 ∷ 0 ∷ nine 1 ++ history 0 0 0 0 []) ∷ one (0 ∷ 0 ∷ 0 ∷ nine 0 ++ history 1 0 0 0 []) ∷ one (0 ∷ 0 ∷ 0 ∷ nine 2 ++ history 1 0 0 0 [])
          ∷ one (0 ∷ 0 ∷ 0 ∷ nine 1 ++ history 1 0 0 0 []) ∷ []);
      stated = 13 ∷ 13 ∷ 13 ∷ 0 ∷ [];
    }
    ∷ record {
      name = "a whole entry with a core shard, with an edge, with a mark, returned";
      given =
          numbers
          (one (0 ∷ 1 ∷ 0 ∷ nine 0 ++ (5 ∷ history 0 0 0 0 [])) ∷ one (0 ∷ 0 ∷ 1 ∷ nine 0 ++ (7 ∷ 4 ∷ 0 ∷ 0 ∷ history 0 0 0 0 [])) ∷ one (whole_with (history 0 0 0 0 (7 ∷ [])))
          ∷ one (whole_with (history 0 0 0 1 [])) ∷ []);
      stated = 13 ∷ 13 ∷ 13 ∷ 13 ∷ [];
    }
    ∷ record {
      name = "part 4 of a leg, returned 2 with a mark, returned without one; certificates 2 and 3";
      given =
          numbers
          (one (leg_of (7 ∷ []) (history 4 0 0 0 [])) ∷ one (leg_of (7 ∷ []) (history 1 0 0 2 (7 ∷ []))) ∷ one (leg_of (7 ∷ []) (history 1 0 0 1 []))
          ∷ one (leg_of (7 ∷ []) (history 1 0 0 1 (7 ∷ []))) ∷ one (whole_with (history 0 2 0 0 [])) ∷ one (whole_with (history 0 3 0 0 [])) ∷ []);
      stated = 13 ∷ 13 ∷ 13 ∷ 0 ∷ 0 ∷ 13 ∷ [];
    }
    ∷ record {
      name = "part 4 with all that a remainder has";
      given = numbers (map (λ (q : ℕ). one (core_of (4 ∷ []) 1 (history q 0 0 0 []))) (3 ∷ 4 ∷ (2 ^ 64 - 1) ∷ []));
      stated = 0 ∷ 13 ∷ 13 ∷ [];
    }
    ∷ record {
      name = "named by shard 1, 2^33 - 1, 2^33";
      given = numbers (map (λ (s : ℕ). one (whole_with (history 0 0 s 0 []))) (1 ∷ (2 ^ 33 - 1) ∷ (2 ^ 33) ∷ []));
      stated = 0 ∷ 0 ∷ 13 ∷ [];
    }
    ∷ record {
      name = "local 0, 1, 2^33 - 1, 2^33";
      given = numbers (map (λ (s : ℕ). s ∷ 100 ∷ 50 ∷ 200 ∷ 0 ∷ 0 ∷ 0 ∷ []) (0 ∷ 1 ∷ (2 ^ 33 - 1) ∷ (2 ^ 33) ∷ []));
      stated = 13 ∷ 0 ∷ 0 ∷ 13 ∷ [];
    }
    ∷ record {
      name = "each span 0, 1, 2^40, 2^40 + 1";
      given =
          concat_map (λ (s : ℕ). numbers ((4 ∷ s ∷ 50 ∷ 200 ∷ 0 ∷ 0 ∷ 0 ∷ []) ∷ (4 ∷ 100 ∷ s ∷ 200 ∷ 0 ∷ 0 ∷ 0 ∷ []) ∷ (4 ∷ 100 ∷ 50 ∷ s ∷ 0 ∷ 0 ∷ 0 ∷ []) ∷ []))
          (0 ∷ 1 ∷ (2 ^ 40) ∷ (2 ^ 40 + 1) ∷ []);
      stated = 13 ∷ 13 ∷ 13 ∷ 0 ∷ 0 ∷ 0 ∷ 0 ∷ 0 ∷ 0 ∷ 13 ∷ 13 ∷ 13 ∷ [];
    }
    ∷ record {
      name = "any word as a charge, a transaction, a route, an edge's id, a count";
      given =
          (let huge : ℕ = 2 ^ 64 - 1 in
          numbers
          (one (0 ∷ 0 ∷ 0 ∷ 9 ∷ 1000 ∷ 2000 ∷ 10 ∷ huge ∷ 0 ∷ history 0 0 0 0 []) ∷ one (whole_of huge) ∷ one (1 ∷ 0 ∷ 0 ∷ nine 0 ++ (huge ∷ history 0 0 0 0 []))
          ∷ one (leg_of (huge ∷ []) (history 1 0 0 0 [])) ∷ counts_alone ((6 ∷ huge ∷ []) ∷ []) ∷ []));
      stated = 0 ∷ 0 ∷ 0 ∷ 0 ∷ 0 ∷ [];
    }
    ∷ record {
      name = "2^48 as at, end, anchor, and one less: 13 and not 3";
      given =
          concat_map (λ (n : ℕ).
          numbers
          (one (0 ∷ 0 ∷ 0 ∷ 9 ∷ n ∷ 2000 ∷ 10 ∷ 77 ∷ 0 ∷ history 0 0 0 0 []) ∷ one (0 ∷ 0 ∷ 0 ∷ 9 ∷ 1000 ∷ n ∷ 10 ∷ 77 ∷ 0 ∷ history 0 0 0 0 [])
          ∷ one (0 ∷ 0 ∷ 0 ∷ 9 ∷ 1000 ∷ 2000 ∷ n ∷ 77 ∷ 0 ∷ history 0 0 0 0 []) ∷ []))
          ((2 ^ 48) ∷ (2 ^ 48 - 1) ∷ []);
      stated = 13 ∷ 13 ∷ 13 ∷ 0 ∷ 0 ∷ 0 ∷ [];
    }
    ∷ record {
      name = "shard 0 in a core, as a from, as a destination: 13 and not 4; a core and destinations that do not rise, kind 2: 13 and not 5";
      given =
          numbers
          (one (core_of (0 ∷ 4 ∷ []) 0 (history 2 0 0 0 [])) ∷ one (0 ∷ 1 ∷ 1 ∷ nine 1 ++ (5 ∷ 7 ∷ 0 ∷ 0 ∷ 0 ∷ history 1 0 0 0 [])) ∷ one (sent_to (0 ∷ []))
          ∷ one (core_of (5 ∷ 4 ∷ []) 0 (history 2 0 0 0 [])) ∷ one (sent_to (6 ∷ 5 ∷ [])) ∷ one (core_of (4 ∷ []) 2 (history 2 0 0 0 [])) ∷ []);
      stated = 13 ∷ 13 ∷ 13 ∷ 13 ∷ 13 ∷ 13 ∷ [];
    }
    ∷ []

pub snapshots_hold : map (λ (r : Row). r.given) (snapshots ++ unwritten) ≡ map (λ (r : Row). r.stated) (snapshots ++ unwritten)
unfolding admission_terms admission_formed admission_timed admission_placed record_groups record_formed record_timed finalization_lines deciding finalization_formed admitted making after_admission after_absence after_certify after_abandonment after_mark after_closes after_finalization after_terminal entry_words snapshot_words entry_in ledger_in entry_formed snapshot_formed entry_sound snapshot_sound restoring
snapshots_hold = refl

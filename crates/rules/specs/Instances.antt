-- Paper, 'Instances with edges': the starred instances a to l, each on both sides of its edge, and the four wrong readings.
-- One table, one theorem: what the rules give in each row is what the paper says. Local 4, V 100, C 50, L 200.
use Rattle.std.specs.Prelude.{ℕ, ◌+◌, ◌-◌, ◌^◌, ◌≡◌, refl, List, [], ◌∷◌, ◌++◌, map}
use Prim.Native.String.{String}
use Rattle.lists.specs.Lists.{concat_map}
use Rattle.rules.specs.Numbers.{depth, owns, count_from}
use Rattle.rules.specs.Plain.{Plain}
use Rattle.rules.specs.Words.{admission_terms, admission_formed, admission_timed, admission_placed, record_groups, record_formed, record_timed, finalization_lines, deciding, finalization_formed}
use Rattle.rules.specs.Index.{index}
use Rattle.rules.specs.Prune.{rule_of, survivors, fallen, reports, pruned}
use Rattle.rules.specs.Entries.{admitted}
use Rattle.rules.specs.Outcome.{said, yes_no}
use Rattle.rules.specs.Calls.{Call, admission, absence, certify, abandonment, settled, returned, closes, finalization, terminal, stamp, prune, step, run, making, after_admission, after_absence, after_certify, after_abandonment, after_mark, after_closes, after_fated, after_finalization, after_forget, after_terminal, after_stamp, after_prune}
use Rattle.rules.specs.Readings.{Reading, ask_questions, list_past_deadline, list_issuers, read, questions, past_deadline, issuers_of, claimants, counterparts, unstamped_departures}

-- a row: what is asked, what the rules give, what the paper says
pub record Row : Type 0 where
  pub name : String
  pub given : List ℕ
  pub stated : List ℕ

-- 1 to n
abbrev pub first : ℕ → List ℕ
first n = count_from 1 n

-- what a call or a reading says after a list of calls on the fresh ledger
abbrev after : List Call → Plain
after cs = run cs (making 4 100 50 200).ledger

abbrev says : List Call → Call → List ℕ
says cs c = said (step c (after cs))

abbrev reads : List Call → Reading → List ℕ
reads cs r = said (read r (after cs))

-- admissions of transaction 9: at 1000, end 2000, anchor 10, charge 77
abbrev whole_over : ℕ → Call
whole_over route = admission (1 ∷ 0 ∷ 0 ∷ 9 ∷ 1000 ∷ 2000 ∷ 10 ∷ 77 ∷ 0 ∷ route ∷ [])

abbrev whole_alone : Call
whole_alone = admission (0 ∷ 0 ∷ 0 ∷ 9 ∷ 1000 ∷ 2000 ∷ 10 ∷ 77 ∷ 0 ∷ [])

abbrev core_of456 : Call
core_of456 = admission (0 ∷ 3 ∷ 0 ∷ 9 ∷ 1000 ∷ 2000 ∷ 10 ∷ 77 ∷ 1 ∷ 4 ∷ 5 ∷ 6 ∷ [])

-- a leg with two records of the ids given, its core shard 5; a core with an owed edge
abbrev leg_issuing : ℕ → ℕ → Call
leg_issuing id id' =
    admission (0 ∷ 1 ∷ 2 ∷ 9 ∷ 1000 ∷ 2000 ∷ 10 ∷ 77 ∷ 1 ∷ 5 ∷ id ∷ id' ∷ 4 ∷ 4 ∷ 0 ∷ 0 ∷ 1 ∷ 0 ∷ 5 ∷ [])

abbrev core_owing : Call
core_owing = admission (0 ∷ 1 ∷ 1 ∷ 9 ∷ 1000 ∷ 2000 ∷ 10 ∷ 77 ∷ 1 ∷ 4 ∷ 7 ∷ 4 ∷ 1 ∷ 0 ∷ [])

-- a whole entry over shard 5's route, executed, with a departure of shard 5
abbrev answering : ℕ → List Call
answering cut = whole_over (2 ^ 62) ∷ certify 9 2 ∷ terminal 5 cut 1 30 ∷ []

-- transaction 9 with end 1000 and an at that tells the two apart: a leg, a core with an owed edge, whole
abbrev leg_at : ℕ → Call
leg_at at = admission (0 ∷ 1 ∷ 0 ∷ 9 ∷ at ∷ 1000 ∷ 10 ∷ 77 ∷ 1 ∷ 5 ∷ [])

abbrev core_at : ℕ → Call
core_at at = admission (0 ∷ 1 ∷ 1 ∷ 9 ∷ at ∷ 1000 ∷ 10 ∷ 77 ∷ 1 ∷ 4 ∷ 7 ∷ 4 ∷ 1 ∷ 0 ∷ [])

abbrev whole_at : ℕ → Call
whole_at at = admission (0 ∷ 0 ∷ 0 ∷ 9 ∷ at ∷ 1000 ∷ 10 ∷ 77 ∷ 0 ∷ [])

-- what a prune says at the last clock before end + L, and what at that sum
abbrev about_horizon : List Call → List ℕ
about_horizon cs = says cs (prune 1199 3) ++ says cs (prune 1200 3)

-- transaction 9 accepted by one line, and by two
abbrev accepted : Call
accepted = finalization (1 ∷ 1 ∷ 9 ∷ 1 ∷ 9 ∷ [])

abbrev accepted_twice : Call
accepted_twice = finalization (2 ∷ 1 ∷ 9 ∷ 9 ∷ 1 ∷ 1 ∷ 9 ∷ [])

-- a record of a shard that names transaction 9
abbrev record_of : ℕ → Call
record_of shard = abandonment (1 ∷ shard ∷ 0 ∷ 9 ∷ 1000 ∷ 2000 ∷ 10 ∷ 77 ∷ [])

abbrev pub table : List Row
table =
    record {
      name = "a: shard 5 owns 2^62, neither 2^62 - 1 nor 2^63";
      given = yes_no (owns 5 (2 ^ 62)) ∷ yes_no (owns 5 (2 ^ 62 - 1)) ∷ yes_no (owns 5 (2 ^ 63)) ∷ [];
      stated = 1 ∷ 0 ∷ 0 ∷ [];
    }
    ∷ record {
      name = "b: anchor 10: cut 11 is over, 10 is not";
      given = says (answering 11) (prune 31 3) ++ says (answering 10) (prune 31 3);
      stated = 0 ∷ 1 ∷ 1 ∷ 9 ∷ 0 ∷ 77 ∷ 0 ∷ 0 ∷ 0 ∷ [];
    }
    ∷ record {
      name = "c: until 30: readable at 30, not 31";
      given = says (answering 11) (prune 30 3) ++ says (answering 11) (prune 31 3);
      stated = 0 ∷ 0 ∷ 0 ∷ 0 ∷ 1 ∷ 1 ∷ 9 ∷ 0 ∷ 77 ∷ [];
    }
    ∷ record {
      name = "d: a leg with end 1000 stands at 1199, falls at 1200, whether its at is 900 or 1100";
      given = concat_map (λ (at : ℕ). about_horizon (leg_at at ∷ [])) (900 ∷ 1100 ∷ []);
      stated = 0 ∷ 0 ∷ 0 ∷ 0 ∷ 0 ∷ 1 ∷ 0 ∷ 0 ∷ 0 ∷ 0 ∷ 0 ∷ 1 ∷ [];
    }
    ∷ record {
      name = "d, of a remainder; of a whole entry with an absence; without one it is judged from its at";
      given =
          about_horizon (core_at 900 ∷ accepted ∷ [])
          ++ about_horizon (whole_at 900 ∷ absence 9 5 1 ∷ [])
          ++ about_horizon (whole_at 1100 ∷ []);
      stated = 0 ∷ 0 ∷ 0 ∷ 0 ∷ 0 ∷ 1 ∷ 0 ∷ 0 ∷ 0 ∷ 0 ∷ 0 ∷ 1 ∷ 0 ∷ 0 ∷ 0 ∷ 0 ∷ 0 ∷ 1 ∷ [];
    }
    ∷ record {
      name = "e: core, certificate 0, stands at 2^48 - 1; executed it does not";
      given =
          says (core_of456 ∷ []) (prune (2 ^ 48 - 1) 3) ++ says (core_of456 ∷ certify 9 2 ∷ []) (prune (2 ^ 48 - 1) 3);
      stated = 0 ∷ 0 ∷ 0 ∷ 0 ∷ 0 ∷ 1 ∷ [];
    }
    ∷ record {
      name = "f: core 4, 5, 6 asks 5, 6; one absence from 5 ends both";
      given = reads (core_of456 ∷ []) (ask_questions 10) ++ reads (core_of456 ∷ absence 9 5 2014 ∷ []) (ask_questions 10);
      stated = 0 ∷ 2 ∷ 9 ∷ 5 ∷ 2014 ∷ 1000 ∷ 2000 ∷ 9 ∷ 6 ∷ 2015 ∷ 1000 ∷ 2000 ∷ 0 ∷ 0 ∷ [];
    }
    ∷ record {
      name = "g: whole, code 2, uncovered, at 1000: past deadline at 1000 and 1099, not 999 or 1100";
      given =
          concat_map (λ (now : ℕ). reads (whole_alone ∷ certify 9 2 ∷ []) (list_past_deadline now 5)) (999 ∷ 1000 ∷ 1099 ∷ 1100 ∷ []);
      stated = 0 ∷ 0 ∷ 0 ∷ 1 ∷ 9 ∷ 1000 ∷ 2000 ∷ 10 ∷ 77 ∷ 0 ∷ 1 ∷ 9 ∷ 1000 ∷ 2000 ∷ 10 ∷ 77 ∷ 0 ∷ 0 ∷ [];
    }
    ∷ record {
      name = "h: two records, one settled, one returned: Aborted; both settled: Accept; one alone: open";
      given =
          says (leg_issuing 1 2 ∷ settled 1 9 ∷ returned 2 9 ∷ []) (closes 2)
          ++ says (leg_issuing 1 2 ∷ settled 1 9 ∷ settled 2 9 ∷ []) (closes 2)
          ++ says (leg_issuing 1 2 ∷ returned 2 9 ∷ []) (closes 2);
      stated = 0 ∷ 1 ∷ 9 ∷ 2 ∷ 0 ∷ 1 ∷ 9 ∷ 1 ∷ 0 ∷ 0 ∷ [];
    }
    ∷ record {
      name = "i: a leg without records never closes";
      given = says (leg_at 1000 ∷ []) (closes 2);
      stated = 0 ∷ 0 ∷ [];
    }
    ∷ record {
      name = "j: ids 7 and 2^32 + 7 share key 7, not issuers";
      given =
          said (step (settled 7 9) (after (leg_issuing 7 7 ∷ [])))
          ++ says (leg_issuing 7 (2 ^ 32 + 7) ∷ settled 7 9 ∷ []) (closes 2)
          ++ reads (leg_issuing 7 7 ∷ []) (list_issuers 7 2)
          ++ reads (leg_issuing 7 7 ∷ []) (list_issuers (2 ^ 32 + 7) 2);
      stated = 0 ∷ 0 ∷ 1 ∷ 9 ∷ 1 ∷ 0 ∷ 1 ∷ 9 ∷ 2000 ∷ 0 ∷ 0 ∷ [];
    }
    ∷ record {
      name = "k: one finalization naming an owing core twice, Accept, deciding: released; once: kept";
      given = says (core_owing ∷ []) accepted_twice ++ says (core_owing ∷ []) accepted;
      stated = 0 ∷ 1 ∷ 0 ∷ 0 ∷ [];
    }
    ∷ record {
      name = "l: whole, named for a shard without a departure: falls at 0, reported; with one: stands";
      given = says (record_of 6 ∷ []) (prune 0 3) ++ says (record_of 6 ∷ terminal 6 11 0 0 ∷ []) (prune 0 3);
      stated = 0 ∷ 1 ∷ 1 ∷ 9 ∷ 1 ∷ 77 ∷ 0 ∷ 0 ∷ 0 ∷ [];
    }
    ∷ record {
      name = "marks made on a core do not count later";
      given = says (core_owing ∷ settled 7 9 ∷ accepted ∷ []) (closes 2) ++ says (core_owing ∷ accepted ∷ settled 7 9 ∷ []) (closes 2);
      stated = 0 ∷ 0 ∷ 0 ∷ 1 ∷ 9 ∷ 1 ∷ [];
    }
    ∷ record {
      name = "a stamp may not be renewed, by either call";
      given =
          says (answering 11 ++ (stamp 5 40 ∷ [])) (prune 31 3)
          ++ says (answering 11 ++ (terminal 5 50 1 40 ∷ [])) (prune 31 3);
      stated = 0 ∷ 1 ∷ 1 ∷ 9 ∷ 0 ∷ 77 ∷ 0 ∷ 1 ∷ 1 ∷ 9 ∷ 0 ∷ 77 ∷ [];
    }
    ∷ record {
      name = "rule 2 before rule 3: a leg named for a shard without a departure stands to its horizon, then falls unreported";
      given = about_horizon (leg_at 900 ∷ record_of 6 ∷ []);
      stated = 0 ∷ 0 ∷ 0 ∷ 0 ∷ 0 ∷ 1 ∷ [];
    }
    ∷ []

pub instances : map (λ (r : Row). r.given) table ≡ map (λ (r : Row). r.stated) table
unfolding depth owns admission_terms admission_formed admission_timed admission_placed record_groups record_formed record_timed finalization_lines deciding finalization_formed index rule_of survivors fallen reports pruned admitted making after_admission after_absence after_certify after_abandonment after_mark after_closes after_fated after_finalization after_forget after_terminal after_stamp after_prune questions past_deadline issuers_of claimants counterparts unstamped_departures
instances = refl

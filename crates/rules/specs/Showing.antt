-- Prunes that were left out, on closed examples: calls of every kind that stay apart, where nothing shows, and for each hypothesis calls
-- that fail it alone, where it shows. Local 4, V 100, C 50, L 200. Scripts of the same kind, run on the Rust too, are in beside/instances/left-out.calls.
use Rattle.std.specs.Prelude.{ℕ, suc, ◌+◌, ◌^◌, ◌≡◌, refl, Bool, cond, List, [], ◌∷◌, ◌++◌, map, leb, length}
use Prim.Native.String.{String}
use Rattle.lists.specs.Lists.{concat_map}
use Rattle.rules.specs.Numbers.{depth, owns}
use Rattle.rules.specs.Plain.{Plain}
use Rattle.rules.specs.Words.{admission_terms, admission_formed, admission_timed, admission_placed, record_groups, record_formed, record_timed, finalization_lines, deciding, finalization_formed, bundle_whole, bundle_known, bundle_measured, bundle_items}
use Rattle.rules.specs.Prune.{Report, report_words, rule_of, survivors, fallen, reports, pruned, in_order}
use Rattle.rules.specs.Entries.{admitted}
use Rattle.rules.specs.Calls.{Call, admission, absence, certify, abandonment, settled, closes, fated, finalization, forget, terminal, stamp, prune, bundle, run, making, after_admission, after_absence, after_certify, after_abandonment, after_mark, after_closes, after_fated, after_finalization, after_forget, after_terminal, after_stamp, after_prune, after_bundle}
use Rattle.rules.specs.Bundles.{up_to, bundle_of, absence_on, admission_of, line_of, terminal_of, record_of}
use Rattle.rules.specs.LeftOut.{dropped, Omitted, none_yet, after, bare, calls_of, each_tests, all_said, all_told, all_gone, all_said_less, all_closed_fallen}

-- A row: the calls before, the calls with their prunes, the clock of the last prune; which tests fail, by their places from 1; then what the
-- calls say, the words of all reports, how many fell (or closed before), and how many entries and departures are left, with the prunes and
-- without them.
pub record Row : Type 0 where
  pub name : String
  pub made : List Call
  pub calls : List Call
  pub last : ℕ
  pub fails : List ℕ
  pub with : List ℕ
  pub without : List ℕ

abbrev failed : ℕ → List Bool → List ℕ
failed n [] = []
failed n (b ∷ bs) = cond b [] (n ∷ []) ++ failed (suc n) bs

abbrev all_failed : Omitted → ℕ → List Call → Plain → List ℕ
all_failed o u [] p = cond (leb o.clock u) [] (6 ∷ [])
all_failed o u (c ∷ cs) p = concat_map (failed 1) (each_tests o (calls_of c) p) ++ all_failed (after c p o) u cs (run (bare (c ∷ [])) p)

abbrev shown : List (List ℕ) → List Report → ℕ → Plain → List ℕ
shown ss rs n p = concat_map (λ s. s) ss ++ (concat_map report_words rs ++ (n ∷ length p.entries ∷ length p.departures ∷ []))

-- what the definitions give of a row, and what it states
abbrev given : Row → List (List ℕ)
given r =
    let p : Plain = run r.made (making 4 100 50 200).ledger in
    let q : Plain = run r.calls p in
    let b : Plain = run (bare r.calls) p in
    all_failed none_yet r.last r.calls p
    ∷ shown (all_said r.calls p) (in_order (all_told r.calls p ++ reports r.last q)) (all_gone r.calls p + length (fallen r.last q)) (pruned r.last q)
    ∷ shown (all_said_less none_yet r.calls p) (reports r.last b) (length (fallen r.last b) + all_closed_fallen none_yet r.calls p) (pruned r.last b)
    ∷ []

abbrev stated : Row → List (List ℕ)
stated r = r.fails ∷ r.with ∷ r.without ∷ []

-- whole, at 1000, end 2000, charge 77: a transaction with an anchor over a route, and the words of its admission; a transaction alone
abbrev over_words : ℕ → ℕ → ℕ → List ℕ
over_words t anchor route = 1 ∷ 0 ∷ 0 ∷ t ∷ 1000 ∷ 2000 ∷ anchor ∷ 77 ∷ 0 ∷ route ∷ []

abbrev whole_over : ℕ → ℕ → ℕ → Call
whole_over t anchor route = admission (over_words t anchor route)

abbrev whole_alone : ℕ → Call
whole_alone t = admission (admission_of t 1000)

-- a leg at 900 with an end and one record of key 7; the same, settled
abbrev leg_of : ℕ → ℕ → Call
leg_of t end = admission (0 ∷ 0 ∷ 1 ∷ t ∷ 900 ∷ end ∷ 10 ∷ 77 ∷ 1 ∷ 7 ∷ 4 ∷ 0 ∷ 0 ∷ [])

abbrev settled_leg : ℕ → ℕ → List Call
settled_leg t end = leg_of t end ∷ settled 7 t ∷ []

abbrev recorded : ℕ → ℕ → Call
recorded shard t = abandonment (record_of shard (t ∷ []))

-- transaction 9 over shard 5's route, executed, with a departure of shard 5 readable until 30: at 31 it falls with a report, and the
-- departure is dropped
abbrev departing : List Call
departing = whole_over 9 10 (2 ^ 62) ∷ certify 9 2 ∷ terminal 5 11 1 30 ∷ []

abbrev pub apart : List Row
apart =
    record {
      name = "an admission, a certificate, a terminal, a stamp";
      made = departing;
      calls = prune 31 144 ∷ whole_over 8 10 (2 ^ 63) ∷ certify 8 2 ∷ terminal 6 11 0 0 ∷ stamp 6 40 ∷ [];
      last = 41;
      fails = [];
      with = 0 ∷ 1 ∷ 0 ∷ 0 ∷ 0 ∷ 8 ∷ 0 ∷ 77 ∷ 9 ∷ 0 ∷ 77 ∷ 2 ∷ 0 ∷ 0 ∷ [];
      without = 0 ∷ 1 ∷ 0 ∷ 0 ∷ 0 ∷ 8 ∷ 0 ∷ 77 ∷ 9 ∷ 0 ∷ 77 ∷ 2 ∷ 0 ∷ 0 ∷ [];
    }
    ∷ record {
      name = "a mark on a fallen leg, a stamp on a dropped departure, a record, closes that lists the leg where it was not pruned";
      made = leg_of 3 0 ∷ terminal 5 11 0 0 ∷ [];
      calls = prune 200 144 ∷ settled 7 3 ∷ stamp 5 60 ∷ recorded 6 7 ∷ closes 2 ∷ [];
      last = 200;
      fails = [];
      with = 0 ∷ 0 ∷ 0 ∷ 1 ∷ 0 ∷ 0 ∷ 7 ∷ 1 ∷ 77 ∷ 2 ∷ 0 ∷ 0 ∷ [];
      without = 0 ∷ 0 ∷ 0 ∷ 1 ∷ 0 ∷ 0 ∷ 7 ∷ 1 ∷ 77 ∷ 2 ∷ 0 ∷ 0 ∷ [];
    }
    ∷ record {
      name = "a fate of a leg that would have fallen if L counted from its at, and stands";
      made = leg_of 9 1000 ∷ [];
      calls = prune 1199 144 ∷ fated 9 ∷ [];
      last = 1199;
      fails = [];
      with = 0 ∷ 2 ∷ 0 ∷ 0 ∷ 0 ∷ [];
      without = 0 ∷ 2 ∷ 0 ∷ 0 ∷ 0 ∷ [];
    }
    ∷ record {
      name = "two admissions, an absence, a finalization, a fate, a forgetting";
      made = departing;
      calls = prune 31 144 ∷ whole_alone 2 ∷ whole_alone 3 ∷ absence 3 5 1 ∷ finalization (1 ∷ 0 ∷ 2 ∷ 2 ∷ []) ∷ fated 3 ∷ forget 3 ∷ [];
      last = 41;
      fails = [];
      with = 0 ∷ 1 ∷ 0 ∷ 1 ∷ 0 ∷ 1 ∷ 0 ∷ 1 ∷ 0 ∷ 0 ∷ 0 ∷ 1 ∷ 9 ∷ 0 ∷ 77 ∷ 1 ∷ 0 ∷ 0 ∷ [];
      without = 0 ∷ 1 ∷ 0 ∷ 1 ∷ 0 ∷ 1 ∷ 0 ∷ 1 ∷ 0 ∷ 0 ∷ 0 ∷ 1 ∷ 9 ∷ 0 ∷ 77 ∷ 1 ∷ 0 ∷ 0 ∷ [];
    }
    ∷ record {
      name = "several prunes: one at no time, one whose list is too short where none was made";
      made = departing;
      calls = prune 31 144 ∷ whole_over 8 10 (2 ^ 63) ∷ certify 8 2 ∷ terminal 6 11 1 40 ∷ prune 41 144 ∷ whole_alone 3 ∷ prune (2 ^ 48) 144 ∷ prune 41 0 ∷ [];
      last = 1100;
      fails = [];
      with = 0 ∷ 1 ∷ 0 ∷ 0 ∷ 0 ∷ 1 ∷ 8 ∷ 0 ∷ 77 ∷ 9 ∷ 0 ∷ 77 ∷ 3 ∷ 0 ∷ 0 ∷ [];
      without = 0 ∷ 1 ∷ 0 ∷ 0 ∷ 0 ∷ 1 ∷ 8 ∷ 0 ∷ 77 ∷ 9 ∷ 0 ∷ 77 ∷ 3 ∷ 0 ∷ 0 ∷ [];
    }
    ∷ record {
      name = "a bundle of each kind of item: one transaction is released and taken in anew";
      made = whole_alone 1 ∷ departing;
      calls = prune 31 144 ∷ bundle (bundle_of (5 ∷ 4 ∷ 3 ∷ 2 ∷ 1 ∷ []) (absence_on 1 ∷ admission_of 1 1000 ∷ line_of 1 ∷ record_of 6 (7 ∷ []) ∷ terminal_of 6 ∷ [])) ∷ [];
      last = 1100;
      fails = [];
      with = 0 ∷ 1 ∷ 1 ∷ 1 ∷ 9 ∷ 0 ∷ 77 ∷ 1 ∷ 2 ∷ 1 ∷ [];
      without = 0 ∷ 1 ∷ 1 ∷ 1 ∷ 9 ∷ 0 ∷ 77 ∷ 1 ∷ 2 ∷ 1 ∷ [];
    }
    ∷ record {
      name = "a bundle on a full table, with room for its admission once its finalization is done";
      made = map whole_alone (up_to 48);
      calls = prune 31 144 ∷ bundle (bundle_of (4 ∷ 3 ∷ []) (admission_of 99 5000 ∷ line_of 1 ∷ [])) ∷ [];
      last = 1100;
      fails = [];
      with = 0 ∷ 1 ∷ 0 ∷ 1 ∷ 47 ∷ 1 ∷ 0 ∷ [];
      without = 0 ∷ 1 ∷ 0 ∷ 1 ∷ 47 ∷ 1 ∷ 0 ∷ [];
    }
    ∷ record {
      name = "a bundle that is refused ahead of an item which names a fallen transaction";
      made = whole_alone 9 ∷ [];
      calls = prune 1100 144 ∷ bundle (bundle_of (3 ∷ 1 ∷ []) (line_of 9 ∷ terminal_of 0 ∷ [])) ∷ [];
      last = 1100;
      fails = [];
      with = 4 ∷ 1 ∷ 0 ∷ 0 ∷ [];
      without = 4 ∷ 1 ∷ 0 ∷ 0 ∷ [];
    }
    ∷ record {
      name = "a bundle whose terminal is a word short, which names nothing: transaction 0 neither";
      made = whole_alone 0 ∷ [];
      calls = prune 1100 144 ∷ bundle (bundle_of (1 ∷ []) ((5 ∷ 11 ∷ 0 ∷ []) ∷ [])) ∷ [];
      last = 1100;
      fails = [];
      with = 5 ∷ 1 ∷ 0 ∷ 0 ∷ [];
      without = 5 ∷ 1 ∷ 0 ∷ 0 ∷ [];
    }
    ∷ []

abbrev pub showing : List Row
showing =
    record {
      name = "named, 1: a transfer that would have fallen is certified, and stands";
      made = whole_over 9 10 (2 ^ 62) ∷ [];
      calls = prune 1100 144 ∷ certify 9 2 ∷ [];
      last = 1100;
      fails = 1 ∷ [];
      with = 0 ∷ 1 ∷ 0 ∷ 0 ∷ [];
      without = 0 ∷ 0 ∷ 1 ∷ 0 ∷ [];
    }
    ∷ record {
      name = "named, 1: a leg that would have fallen is fated, and says so";
      made = leg_of 9 1000 ∷ [];
      calls = prune 1200 144 ∷ fated 9 ∷ [];
      last = 1200;
      fails = 1 ∷ [];
      with = 0 ∷ 0 ∷ 1 ∷ 0 ∷ 0 ∷ [];
      without = 0 ∷ 2 ∷ 0 ∷ 0 ∷ 0 ∷ [];
    }
    ∷ record {
      name = "clear, 2: an admission over a route of a shard whose departure would have been dropped";
      made = terminal 5 11 1 30 ∷ [];
      calls = prune 31 144 ∷ whole_over 9 10 (2 ^ 62) ∷ certify 9 2 ∷ [];
      last = 50;
      fails = 2 ∷ [];
      with = 0 ∷ 1 ∷ 0 ∷ 0 ∷ 1 ∷ 0 ∷ [];
      without = 0 ∷ 1 ∷ 0 ∷ 9 ∷ 0 ∷ 77 ∷ 1 ∷ 0 ∷ 0 ∷ [];
    }
    ∷ record {
      name = "kept, 3: a record of a shard whose departure would have been dropped, on an owed entry";
      made = whole_alone 9 ∷ terminal 5 11 0 0 ∷ [];
      calls = prune 12 144 ∷ recorded 5 9 ∷ [];
      last = 50;
      fails = 3 ∷ [];
      with = 0 ∷ 0 ∷ 9 ∷ 1 ∷ 77 ∷ 1 ∷ 0 ∷ 0 ∷ [];
      without = 0 ∷ 0 ∷ 0 ∷ 1 ∷ 1 ∷ [];
    }
    ∷ record {
      name = "kept, 3: a terminal anew of a shard whose departure would have been dropped";
      made = terminal 5 11 1 30 ∷ [];
      calls = prune 12 144 ∷ terminal 5 20 1 60 ∷ whole_over 9 15 (2 ^ 62) ∷ certify 9 2 ∷ [];
      last = 50;
      fails = 3 ∷ [];
      with = 0 ∷ 0 ∷ 1 ∷ 0 ∷ 0 ∷ 1 ∷ 1 ∷ [];
      without = 0 ∷ 0 ∷ 1 ∷ 0 ∷ 0 ∷ 1 ∷ 0 ∷ [];
    }
    ∷ record {
      name = "unheld, 4: the terminal for want of which a transfer would have fallen";
      made = recorded 6 9 ∷ [];
      calls = prune 0 144 ∷ terminal 6 11 0 0 ∷ [];
      last = 0;
      fails = 4 ∷ [];
      with = 0 ∷ 9 ∷ 1 ∷ 77 ∷ 1 ∷ 0 ∷ 0 ∷ [];
      without = 0 ∷ 0 ∷ 1 ∷ 1 ∷ [];
    }
    ∷ record {
      name = "room, 5: a list too short for what closes, one of which would have fallen";
      made = settled_leg 8 1000 ++ settled_leg 9 2000;
      calls = prune 1200 144 ∷ closes 2 ∷ [];
      last = 1200;
      fails = 5 ∷ [];
      with = 0 ∷ 1 ∷ 9 ∷ 1 ∷ 1 ∷ 0 ∷ 0 ∷ [];
      without = 9 ∷ 1 ∷ 1 ∷ 0 ∷ [];
    }
    ∷ record {
      name = "steady, 6: a last prune before the one left out";
      made = recorded 6 9 ∷ terminal 6 11 1 30 ∷ [];
      calls = prune 31 144 ∷ [];
      last = 30;
      fails = 6 ∷ [];
      with = 9 ∷ 1 ∷ 77 ∷ 1 ∷ 0 ∷ 0 ∷ [];
      without = 0 ∷ 1 ∷ 1 ∷ [];
    }
    ∷ record {
      name = "room, 5: an admission to a table full of transfers that would have fallen";
      made = map whole_alone (up_to 48);
      calls = prune 1100 144 ∷ admission (0 ∷ 0 ∷ 0 ∷ 99 ∷ 5000 ∷ 6000 ∷ 10 ∷ 77 ∷ 0 ∷ []) ∷ [];
      last = 1100;
      fails = 5 ∷ [];
      with = 0 ∷ 1 ∷ 48 ∷ 1 ∷ 0 ∷ [];
      without = 6 ∷ 48 ∷ 0 ∷ 0 ∷ [];
    }
    ∷ record {
      name = "room, 5: a terminal to a file full of departures that would have been dropped";
      made = map (λ s. terminal s 11 0 0) (up_to 32);
      calls = prune 12 144 ∷ terminal 37 20 1 60 ∷ [];
      last = 12;
      fails = 5 ∷ [];
      with = 0 ∷ 0 ∷ 0 ∷ 0 ∷ [];
      without = 8 ∷ 0 ∷ 0 ∷ 0 ∷ [];
    }
    ∷ record {
      name = "named, 1, by an item of a bundle: a transfer that would have fallen is released, and counted";
      made = whole_alone 9 ∷ [];
      calls = prune 1100 144 ∷ bundle (bundle_of (3 ∷ []) (line_of 9 ∷ [])) ∷ [];
      last = 1100;
      fails = 1 ∷ [];
      with = 0 ∷ 0 ∷ 0 ∷ 0 ∷ 1 ∷ 0 ∷ 0 ∷ [];
      without = 0 ∷ 0 ∷ 0 ∷ 1 ∷ 0 ∷ 0 ∷ 0 ∷ [];
    }
    ∷ record {
      name = "clear, 2, by an item of a bundle: an admission over such a route of a transaction that was owed until the item ahead of it";
      made = whole_alone 9 ∷ terminal 5 11 1 30 ∷ [];
      calls = prune 31 144 ∷ bundle (bundle_of (3 ∷ 4 ∷ []) (line_of 9 ∷ over_words 9 10 (2 ^ 62) ∷ [])) ∷ certify 9 2 ∷ [];
      last = 50;
      fails = 2 ∷ [];
      with = 0 ∷ 1 ∷ 0 ∷ 1 ∷ 0 ∷ 0 ∷ 1 ∷ 0 ∷ [];
      without = 0 ∷ 1 ∷ 0 ∷ 1 ∷ 0 ∷ 9 ∷ 0 ∷ 77 ∷ 1 ∷ 0 ∷ 0 ∷ [];
    }
    ∷ []

pub rows : map given (apart ++ showing) ≡ map stated (apart ++ showing)
unfolding depth owns admission_terms admission_formed admission_timed admission_placed record_groups record_formed record_timed finalization_lines deciding finalization_formed bundle_whole bundle_known bundle_measured bundle_items rule_of survivors fallen dropped reports pruned admitted making after_admission after_absence after_certify after_abandonment after_mark after_closes after_fated after_finalization after_forget after_terminal after_stamp after_prune after_bundle
rows = refl

-- Paper 5 on closed examples, both sides of each edge: which counts stand after abandonment records, their sum, and 14. Local 4, V 100, C 50,
-- L 200.
use Rattle.std.specs.Prelude.{ℕ, ◌-◌, ◌^◌, ◌≡◌, refl, List, [], ◌∷◌, ◌++◌, map, length, replicate}
use Rattle.lists.specs.Lists.{concat_map}
use Rattle.rules.specs.Numbers.{max_count}
use Rattle.rules.specs.Plain.{Plain, empty, with_counts}
use Rattle.rules.specs.Words.{record_groups, record_formed, record_timed, bundle_whole, bundle_known, bundle_measured, bundle_items}
use Rattle.rules.specs.Outcome.{said}
use Rattle.rules.specs.Calls.{Call, abandonment, forget, bundle, step, run, after_abandonment, after_forget, after_bundle}
use Rattle.rules.specs.Readings.{rebuilt, rebuilt_by_shard, read}
use Rattle.rules.specs.Instances.{Row, first}

-- a shard's record that names these transactions
abbrev words_of : ℕ → List ℕ → List ℕ
words_of shard ts = length ts ∷ shard ∷ replicate (length ts) 0 ++ concat_map (λ t. t ∷ 1000 ∷ 2000 ∷ 10 ∷ 77 ∷ []) ts

abbrev named : ℕ → List ℕ → Call
named shard ts = abandonment (words_of shard ts)

abbrev fresh : Plain
fresh = empty 4 100 50 200

-- the ledger after the records of shards 1 to n, each of which rebuilt transaction 9, forgotten since; one with these counts
abbrev full_to : ℕ → Plain
full_to n = run (concat_map (λ s. named s (9 ∷ []) ∷ forget 9 ∷ []) (first n)) fresh

abbrev with_two : ℕ → ℕ → Plain
with_two m n = with_counts (record { shard = 6; rebuilt = m } ∷ record { shard = 7; rebuilt = n } ∷ []) fresh

-- what is said of a call; the counts after calls, in a list of 64 words
abbrev says : Plain → Call → List ℕ
says p c = said (step c p)

abbrev counts_after : Plain → List Call → List ℕ
counts_after p cs = said (read (rebuilt_by_shard 64) (run cs p))

abbrev pub counting : List Row
counting =
    record { name = "none at first"; given = counts_after fresh []; stated = 0 ∷ 0 ∷ [] }
    ∷ record {
      name = "by rising shard, each with what its records rebuilt, and their sum";
      given =
          (let cs : List Call = named 7 (1 ∷ []) ∷ named 6 (2 ∷ 3 ∷ []) ∷ named 6 (4 ∷ []) ∷ [] in
          counts_after fresh cs ++ said (read rebuilt (run cs fresh)));
      stated = 0 ∷ 2 ∷ 6 ∷ 3 ∷ 7 ∷ 1 ∷ 0 ∷ 4 ∷ [];
    }
    ∷ record { name = "named twice in one record, rebuilt once"; given = counts_after fresh (named 6 (1 ∷ 1 ∷ []) ∷ []); stated = 0 ∷ 1 ∷ 6 ∷ 1 ∷ [] }
    ∷ record {
      name = "a record that rebuilds nothing opens none: all owed, or no group";
      given = counts_after fresh (named 7 (1 ∷ []) ∷ named 6 (1 ∷ []) ∷ named 5 [] ∷ []);
      stated = 0 ∷ 1 ∷ 7 ∷ 1 ∷ [];
    }
    ∷ record { name = "what is forgotten stays counted"; given = counts_after fresh (named 7 (1 ∷ []) ∷ forget 1 ∷ named 7 (1 ∷ []) ∷ []); stated = 0 ∷ 1 ∷ 7 ∷ 2 ∷ [] }
    ∷ record {
      name = "the thirty-second shard, the thirty-third";
      given = says (full_to 31) (named 32 (9 ∷ [])) ++ says (full_to 32) (named 33 (9 ∷ []));
      stated = 0 ∷ 1 ∷ 14 ∷ [];
    }
    ∷ record {
      name = "the thirty-third rebuilds nothing: no group, all owed; one owed and one not";
      given =
          (let p : Plain = run (named 7 (9 ∷ []) ∷ []) (full_to 32) in says p (named 33 []) ++ (says p (named 33 (9 ∷ [])) ++ says p (named 33 (9 ∷ 8 ∷ []))));
      stated = 0 ∷ 0 ∷ 0 ∷ 0 ∷ 14 ∷ [];
    }
    ∷ record { name = "with 32 counts, a shard that has one"; given = says (full_to 32) (named 17 (9 ∷ [])); stated = 0 ∷ 1 ∷ [] }
    ∷ record {
      name = "14 and 6 at once: 6; at 47 entries 14, and 6 with two new";
      given =
          says (run (named 1 (first 48) ∷ []) (full_to 32)) (named 33 (99 ∷ []))
          ++ (let p : Plain = run (named 1 (first 47) ∷ []) (full_to 32) in says p (named 33 (99 ∷ [])) ++ says p (named 33 (98 ∷ 99 ∷ [])));
      stated = 6 ∷ 14 ∷ 6 ∷ [];
    }
    ∷ record {
      name = "5, 3 and 4 ahead of 14";
      given =
          (let p : Plain = full_to 32 in
          says p (abandonment (1 ∷ 33 ∷ [])) ++ (says p (abandonment (1 ∷ 0 ∷ 0 ∷ 9 ∷ 2 ^ 48 ∷ 2000 ∷ 10 ∷ 77 ∷ [])) ++ says p (named 0 (9 ∷ []))));
      stated = 5 ∷ 3 ∷ 4 ∷ [];
    }
    ∷ record {
      name = "a count at its stop, and one that gets there: the answer is still how many were rebuilt";
      given =
          says (with_two max_count 1) (named 6 (1 ∷ 2 ∷ []))
          ++ (counts_after (with_two max_count 1) (named 6 (1 ∷ 2 ∷ []) ∷ []) ++ counts_after (with_two (max_count - 1) 1) (named 6 (1 ∷ 2 ∷ []) ∷ []));
      stated = 0 ∷ 2 ∷ 0 ∷ 2 ∷ 6 ∷ max_count ∷ 7 ∷ 1 ∷ 0 ∷ 2 ∷ 6 ∷ max_count ∷ 7 ∷ 1 ∷ [];
    }
    ∷ record {
      name = "the sum at its stop, one before it, past it";
      given = concat_map (λ n. said (read rebuilt (with_two (max_count - 5) n))) (4 ∷ 5 ∷ 6 ∷ max_count ∷ []);
      stated = 0 ∷ (max_count - 1) ∷ 0 ∷ max_count ∷ 0 ∷ max_count ∷ 0 ∷ max_count ∷ [];
    }
    ∷ record {
      name = "a list for just both, and one word less";
      given = said (read (rebuilt_by_shard 4) (with_two 1 2)) ++ said (read (rebuilt_by_shard 3) (with_two 1 2));
      stated = 0 ∷ 2 ∷ 6 ∷ 1 ∷ 7 ∷ 2 ∷ 9 ∷ [];
    }
    ∷ record {
      name = "a bundle of the thirty-second shard's record and the thirty-third's: 14, and neither is done";
      given =
          (let c : Call = bundle (2 ∷ 2 ∷ 2 ∷ 8 ∷ 8 ∷ words_of 32 (9 ∷ []) ++ words_of 33 (8 ∷ [])) in
          says (full_to 31) c ++ (says (full_to 30) c ++ said (read rebuilt (step c (full_to 31)).ledger)));
      stated = 14 ∷ 0 ∷ 0 ∷ 2 ∷ 0 ∷ 0 ∷ 31 ∷ [];
    }
    ∷ []

pub counts_hold : map (λ (r : Row). r.given) counting ≡ map (λ (r : Row). r.stated) counting
unfolding record_groups record_formed record_timed bundle_whole bundle_known bundle_measured bundle_items after_abandonment after_forget after_bundle
counts_hold = refl

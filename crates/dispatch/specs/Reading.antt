-- The readings by number: which reading a kind is, on which of its words, with a lent list of which length.
use Rattle.std.specs.Prelude.{ℕ, cond, List, eqb, drop}
use Rattle.rules.specs.Words.{word, transaction_size}
use Rattle.rules.specs.Readings.{Reading, ask_questions, open_at, answers, list_past_deadline, list_issuers, list_claimants, list_counterparts, list_unstamped, reach, abandonment, covered, departed, executed, reaches_beyond, issued_by, local, rebuilt, take_snapshot, rebuilt_by_shard, leaf_for_route, list_leaves, list_counterparts_by_tree}

-- words that are missing count as 0
abbrev pub question_open : List ℕ → Reading
question_open ws = open_at (word 0 ws) (word 1 ws) (word 2 ws) (word 3 ws) (word 4 ws) (word 5 ws)

abbrev pub question_answered : List ℕ → Reading
question_answered ws = answers (word 0 ws) (word 1 ws) (word 2 ws) (word 3 ws) (word 4 ws) (word 5 ws) (word 6 ws)

-- the lookups; 17 and every other number is the sum of the counts
unfoldable pub lookup_of : ℕ → List ℕ → Reading
lookup_of kind ws =
    cond (eqb kind 2) (question_open ws)
    (cond (eqb kind 3) (question_answered ws)
    (cond (eqb kind 10) (abandonment (word 0 ws))
    (cond (eqb kind 11) (covered (word 0 ws))
    (cond (eqb kind 12) (departed (word 0 ws))
    (cond (eqb kind 13) (executed (word 0 ws))
    (cond (eqb kind 14) (reaches_beyond (word 0 ws))
    (cond (eqb kind 15) (issued_by (word 0 ws) (word 1 ws))
    (cond (eqb kind 16) local
    (cond (eqb kind 20) (leaf_for_route (word 0 ws) (drop 1 ws))
    rebuilt)))))))))

-- the readings that take a list, the snapshot, the counts and those of a tree the last of them, and the lookups
unfoldable pub reading_of : ℕ → List ℕ → ℕ → Reading
reading_of kind ws room =
    cond (eqb kind 1) (ask_questions room)
    (cond (eqb kind 4) (list_past_deadline (word 0 ws) room)
    (cond (eqb kind 5) (list_issuers (word 0 ws) room)
    (cond (eqb kind 6) (list_claimants (word 0 ws) (word 1 ws) room)
    (cond (eqb kind 7) (list_counterparts (word 0 ws) (word 1 ws) room)
    (cond (eqb kind 8) (list_unstamped room)
    (cond (eqb kind 9) (reach (word 0 ws) room)
    (cond (eqb kind 18) (take_snapshot room)
    (cond (eqb kind 19) (rebuilt_by_shard room)
    (cond (eqb kind 21) (list_leaves ws room)
    (cond (eqb kind 22) (list_counterparts_by_tree (word 0 ws) (drop transaction_size ws) room)
    (lookup_of kind ws)))))))))))

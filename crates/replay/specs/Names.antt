-- Which making, which call and which reading each name of a script makes: from the script's table of names to the rules.
use Rattle.std.specs.Prelude.{ℕ, ◌≡◌, List, [], ◌∷◌, map, take, drop, Some}
use Rattle.std.specs.Option.{option_map}
use Rattle.rules.specs.Words.{word, transaction_size}
use Rattle.rules.specs.Calls as rules
use Rattle.rules.specs.Readings as readings
use Rattle.script.specs.Calls.{names, code_of}
use Rattle.rules.specs.Snapshot.{restoring}
use Rattle.replay.specs.Lines.{making_in, call_in, reading_in}

-- new, restore: those after `repeat`
abbrev pub making_names : List (List ℕ)
making_names = take 2 (drop 1 names)

-- register_committed, record_absence, certify, record_abandonment, settled, returned, closes, fated, release_resolved, forget,
-- record_terminal, stamp_terminal, prune, bundle: the script's names after `restore`
abbrev pub changing_names : List (List ℕ)
changing_names = take 14 (drop 3 names)

-- questions, open_at, answers, past_deadline, issuers_of, claimants, counterparts, unstamped_departures, reach, abandonment_answers, is_covered,
-- departed, executed, reaches_beyond, issued_by, local, rebuilt, snapshot, rebuilt_by_shard, leaf_for_route, leaves, counterparts_by_tree: those before
-- `dump`
abbrev pub reading_names : List (List ℕ)
reading_names = take 22 (drop 17 names)

-- what each name makes of a line's numbers and the length of its list
pub record Named (ws : List ℕ) (room : ℕ) : Type 0 where
  pub makings :
      map (λ name. option_map (λ code. making_in code ws) (code_of name)) making_names ≡
      map Some (rules.making (word 0 ws) (word 1 ws) (word 2 ws) (word 3 ws) ∷ restoring ws ∷ [])
  pub calls :
      map (λ name. option_map (λ code. call_in code ws room) (code_of name)) changing_names ≡
      map Some
      (rules.admission ws
      ∷ rules.absence (word 0 ws) (word 1 ws) (word 2 ws)
      ∷ rules.certify (word 0 ws) (word 1 ws)
      ∷ rules.abandonment ws
      ∷ rules.settled (word 0 ws) (word 1 ws)
      ∷ rules.returned (word 0 ws) (word 1 ws)
      ∷ rules.closes room
      ∷ rules.fated (word 0 ws)
      ∷ rules.finalization ws
      ∷ rules.forget (word 0 ws)
      ∷ rules.terminal (word 0 ws) (word 1 ws) (word 2 ws) (word 3 ws)
      ∷ rules.stamp (word 0 ws) (word 1 ws)
      ∷ rules.prune (word 0 ws) room
      ∷ rules.bundle ws
      ∷ [])
  pub readings :
      map (λ name. option_map (λ code. reading_in code ws room) (code_of name)) reading_names ≡
      map Some
      (readings.ask_questions room
      ∷ readings.open_at (word 0 ws) (word 1 ws) (word 2 ws) (word 3 ws) (word 4 ws) (word 5 ws)
      ∷ readings.answers (word 0 ws) (word 1 ws) (word 2 ws) (word 3 ws) (word 4 ws) (word 5 ws) (word 6 ws)
      ∷ readings.list_past_deadline (word 0 ws) room
      ∷ readings.list_issuers (word 0 ws) room
      ∷ readings.list_claimants (word 0 ws) (word 1 ws) room
      ∷ readings.list_counterparts (word 0 ws) (word 1 ws) room
      ∷ readings.list_unstamped room
      ∷ readings.reach (word 0 ws) room
      ∷ readings.abandonment (word 0 ws)
      ∷ readings.covered (word 0 ws)
      ∷ readings.departed (word 0 ws)
      ∷ readings.executed (word 0 ws)
      ∷ readings.reaches_beyond (word 0 ws)
      ∷ readings.issued_by (word 0 ws) (word 1 ws)
      ∷ readings.local
      ∷ readings.rebuilt
      ∷ readings.take_snapshot room
      ∷ readings.rebuilt_by_shard room
      ∷ readings.leaf_for_route (word 0 ws) (drop 1 ws)
      ∷ readings.list_leaves ws room
      ∷ readings.list_counterparts_by_tree (word 0 ws) (drop transaction_size ws) room
      ∷ [])

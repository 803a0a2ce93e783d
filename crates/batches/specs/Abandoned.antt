-- The refusal of an abandonment record, from the transactions owed and the counts alone.
use Rattle.std.specs.Prelude.{ℕ, ◌-◌, ◌≡◌, not, true, false, List, map, ltb, length}
use Rattle.lists.specs.Lists.{keep, has, self, set_of}
use Rattle.rules.specs.Numbers.{is_shard, max_entries}
use Rattle.rules.specs.Plain.{Terms, Count}
use Rattle.rules.specs.Words.{record_shard, record_groups, record_formed, record_timed}
use Rattle.rules.specs.Outcome.{◌gives◌then◌}
use Rattle.rules.specs.Calls.{no_count_for}
use Rattle.ledger.specs.declared.Ledger.{Ledger}
use Rattle.ledger.specs.Contents.{contents, Held}

-- the transactions of the groups
abbrev pub transactions : List ℕ → List ℕ
transactions ws = map (λ (g : Terms). g.transaction) (record_groups ws)

-- the distinct ones of ts that are not among the keys
abbrev pub new_to : List ℕ → List ℕ → List ℕ
new_to keys ts = keep (λ t. not (has self t keys)) (set_of ts)

-- with the transactions owed as keys
abbrev pub refusal_by : List ℕ → List Count → List ℕ → ℕ
refusal_by keys cs ws =
    not (record_formed ws) gives 5 then
    not (record_timed ws) gives 3 then
    not (is_shard (record_shard ws)) gives 4 then
    ltb (max_entries - length keys) (length (new_to keys (transactions ws))) gives 6 then
    no_count_for (record_shard ws) (length (new_to keys (transactions ws))) cs gives 14 then 0

-- n more can be counted with the shard
pub record Countable (shard n : ℕ) (l : Ledger) : Type 0 where
  pub held : Held l
  pub shard_is : is_shard shard ≡ true
  pub room : no_count_for shard n (contents l).counts ≡ false

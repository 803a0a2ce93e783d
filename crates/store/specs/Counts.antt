-- What the counts are.
use Rattle.std.specs.Prelude.{ℕ, ◌≡◌, Bool, List, map, eqb, ltb}
use Rattle.lists.specs.Front.{held}
use Rattle.rules.specs.Plain as plain
pub use Rattle.store.specs.Stored.{plain_count}
use Rattle.store.specs.declared.counts.Counts.{Counts}

abbrev pub counts_in : Counts → List plain.Count
counts_in x = map plain_count (held x.front)

abbrev pub is_of : ℕ → plain.Count → Bool
is_of shard c = eqb c.shard shard

abbrev pub is_under : ℕ → plain.Count → Bool
is_under shard c = ltb c.shard shard

-- x has just these counts
pub record Holds (cs : List plain.Count) (x : Counts) : Type 0 where
  pub counts : counts_in x ≡ cs

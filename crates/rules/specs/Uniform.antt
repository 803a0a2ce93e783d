-- A uniform tree, and what is proved of it (`proofs/Uniform`): what is answered over it is what is answered for its depth.
use Rattle.std.specs.Prelude.{ℕ, zero, suc, ◌≡◌, ◌^◌, true, List, [], ◌∷◌}
use Rattle.rules.specs.Numbers.{is_word, shard_for_route, count_from}
use Rattle.rules.specs.Plain.{Plain}
use Rattle.rules.specs.Outcome.{done}
use Rattle.rules.specs.Tree.{Tree, leaf, split, marks_of}
use Rattle.rules.specs.Readings.{listing, single, read, leaf_for_route, list_leaves, list_counterparts, list_counterparts_by_tree}

abbrev pub uniform : ℕ → Tree
uniform zero = leaf
uniform (suc d) = split (uniform d) (uniform d)

-- all shards of one depth, rising
abbrev pub shards_at : ℕ → List ℕ
shards_at d = count_from (2 ^ d) (2 ^ d)

-- The leaf of a route, the leaves and the counterparts, answers and words.
pub record AsDepth (d : ℕ) (p : Plain) : Type 0 where
  pub leaf : (route : ℕ) → is_word route ≡ true → read (leaf_for_route route (marks_of (uniform d))) p ≡ done (shard_for_route d route ∷ []) p
  pub leaves : (room : ℕ) → read (list_leaves (marks_of (uniform d)) room) p ≡ listing 0 room single (shards_at d) p
  pub counterparts : (t room : ℕ) → read (list_counterparts_by_tree t (marks_of (uniform d)) room) p ≡ read (list_counterparts t d room) p

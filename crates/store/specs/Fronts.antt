-- Pairs at the front of two arrays side by side, whatever their order.
use Rattle.std.specs.Prelude.{ℕ, ◌≤◌, ◌≡◌, Bool, List, map, length, take}
use Rattle.lists.specs.Lists.{zip_by}
use Rattle.rules.specs.Index.{Pair}
use Rattle.store.specs.Stored.{pair}
use Rattle.types.specs.Transactions.{number_of}
use Rattle.types.specs.declared.Transaction.{Transaction}

-- the first n of them
abbrev pub front_pairs : List ℕ → List ℕ → ℕ → List Pair
front_pairs rs ts n = zip_by pair (take n rs) (take n ts)

-- these pairs stand at the front
pub record InFront (ps : List Pair) (rs ts : List ℕ) (n : ℕ) : Type 0 where
  pub room : n ≤ 384
  pub lengths : (length rs ≡ 384) × (length ts ≡ 384)
  pub pairs : front_pairs rs ts n ≡ ps

-- By whatever test of transactions the answers are given, the flags are what it says of each: Says is what is said of a transaction that
-- is asked about.
abbrev pub Flags : (Transaction → Bool → Type 0) → List ℕ → List Bool → Type 0
Flags Says ts fs = (p : ℕ → Bool) → ((t : Transaction) (b : Bool) → Says t b → b ≡ p (number_of t)) → fs ≡ map p ts

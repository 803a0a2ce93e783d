-- What the issuer index holds, as pairs.
use Rattle.std.specs.Prelude.{ℕ, ◌≤◌, ◌≡◌, Bool, not, List, eqb, length}
use Rattle.lists.specs.Lists.{keep, include}
use Rattle.rules.specs.Index.{Pair, pair_key}
pub use Rattle.store.specs.Stored.{pair, is_pair, leads_pair}
use Rattle.store.specs.Fronts.{front_pairs}
use Rattle.types.specs.Transactions.{number_of}
use Rattle.types.specs.declared.Transaction.{Transaction}
use Rattle.store.specs.declared.issuers.Issuers.{Issuers}

abbrev pub pairs_in : Issuers → List Pair
pairs_in x = front_pairs x.records x.transactions x.len

-- a pair of another transaction
abbrev pub is_not : ℕ → Pair → Bool
is_not t q = not (eqb q.transaction t)

abbrev pub is_before : ℕ → ℕ → Pair → Bool
is_before r t q = leads_pair q.key q.transaction r t

-- with the pair put in, the index still fits
abbrev pub room_for : Issuers → ℕ → ℕ → Type 0
room_for x r t = length (include pair_key (pair r t) (pairs_in x)) ≤ 384

-- x holds just these pairs
pub record Holds (ps : List Pair) (x : Issuers) : Type 0 where
  pub pairs : pairs_in x ≡ ps

-- a pair whose transaction passes
abbrev pub of_transaction : (ℕ → Bool) → Pair → Bool
of_transaction p q = p q.transaction

-- By whatever test of transactions the answers are given, y holds the pairs of x whose transaction passes: Says is what is said of a
-- transaction that is asked about.
abbrev pub Retains : (Transaction → Bool → Type 0) → Issuers → Issuers → Type 0
Retains Says x y = (p : ℕ → Bool) → ((t : Transaction) (b : Bool) → Says t b → b ≡ p (number_of t)) → Holds (keep (of_transaction p) (pairs_in x)) y

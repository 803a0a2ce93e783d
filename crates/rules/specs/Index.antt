-- The issuer index: the pairs of record and transaction of every entry's issued records, by record and then transaction, each once.
use Rattle.std.specs.Prelude.{ℕ, ◌+◌, ◌*◌, ◌^◌, Bool, ◌&&◌, List, [], ◌∷◌, map, eqb}
use Rattle.lists.specs.Lists.{any, include_all}
use Rattle.rules.specs.Plain.{Entry, Plain, transaction_of, issued, issues}

pub record Pair : Type 0 where
  pub key : ℕ
  pub transaction : ℕ

abbrev pub pair_key : Pair → ℕ
pair_key p = p.key * 2 ^ 64 + p.transaction

-- the pairs of one entry
abbrev pub pairs_of : ℕ → Entry → List Pair
pairs_of local e = map (λ (r : ℕ). record { key = r; transaction = transaction_of e }) (issued local e.terms)

abbrev pub index_of : ℕ → List Entry → List Pair
index_of local [] = []
index_of local (e ∷ es) = include_all pair_key (pairs_of local e) (index_of local es)

unfoldable pub index : Plain → List Pair
index p = index_of p.local p.entries

-- the index names the transaction under the record
abbrev pub names : List Pair → ℕ → ℕ → Bool
names l r t = any (λ p. eqb p.key r && eqb p.transaction t) l

-- the transaction is owed and lists the record as issued
abbrev pub lists_record : Plain → ℕ → ℕ → Bool
lists_record p r t = any (λ e. eqb (transaction_of e) t && issues p.local r e.terms) p.entries

-- Several transactions let go at once: flags by place in the roster say who stays.
use Rattle.std.specs.Prelude.{ℕ, Bool, false, cond, not, ◌&&◌, ◌||◌, List, [], ◌∷◌, eqb}
use Rattle.lists.specs.Lists.{keep}
use Rattle.rules.specs.Index.{Pair}
use Rattle.store.specs.Issuers.{is_not}

-- the pairs without those of each transaction whose flag is down
abbrev pub unnamed_by : List Bool → List ℕ → List Pair → List Pair
unnamed_by [] ts ps = ps
unnamed_by (b ∷ bs) [] ps = ps
unnamed_by (b ∷ bs) (t ∷ ts) ps = unnamed_by bs ts (cond b ps (keep (is_not t) ps))

-- whether the transaction is one of those, with its flag down
abbrev pub is_dropped : List Bool → List ℕ → ℕ → Bool
is_dropped [] ts t = false
is_dropped (b ∷ bs) [] t = false
is_dropped (b ∷ bs) (u ∷ ts) t = not b && eqb t u || is_dropped bs ts t

-- those transactions
abbrev pub dropped_by : List Bool → List ℕ → List ℕ
dropped_by [] ts = []
dropped_by (b ∷ bs) [] = []
dropped_by (b ∷ bs) (t ∷ ts) = cond b (dropped_by bs ts) (t ∷ dropped_by bs ts)

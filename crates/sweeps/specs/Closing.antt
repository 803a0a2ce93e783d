-- What closes decides of each entry, by place in the roster, and the words by which it lists them.
use Rattle.std.specs.Prelude.{ℕ, ◌≡◌, Bool, cond, not, List, [], ◌∷◌, map, length, take}
use Rattle.lists.specs.Lists.{keep}
use Rattle.rules.specs.Plain.{Entry}
use Rattle.rules.specs.Entries.{is_closed, closing_decision}
use Rattle.store.specs.Roster.{keys_of}
use Rattle.ledger.specs.declared.Ledger.{Ledger}
use Rattle.ledger.specs.Contents.{entries_of}
use Rattle.sweeps.specs.declared.closes.Closing.{Closing}

-- the transaction and the code of each whose flag is down
abbrev pub listed_by : List Bool → List ℕ → List ℕ → List ℕ
listed_by [] ts cs = []
listed_by (b ∷ bs) [] cs = []
listed_by (b ∷ bs) (t ∷ ts) [] = []
listed_by (b ∷ bs) (t ∷ ts) (c ∷ cs) = cond b (listed_by bs ts cs) (t ∷ c ∷ listed_by bs ts cs)

abbrev pub stays_open : ℕ → Entry → Bool
stays_open local e = not (is_closed local e)

-- who stays, and how many do not
pub record Judges (l : Ledger) (r : Closing) : Type 0 where
  pub stay : take l.roster.len r.stay ≡ map (stays_open l.local.0) (entries_of l)
  pub count : r.count ≡ length (keep (is_closed l.local.0) (entries_of l))

-- the words that list those whose flag is down
abbrev pub listed : Ledger → List Bool → List ℕ
listed l stay = listed_by (take l.roster.len stay) (keys_of l.roster) (map closing_decision (entries_of l))

-- What a call answers and does: its refusal, its answers, the ledger after it, the words that it writes.
use Rattle.std.specs.Prelude.{ℕ, zero, suc, Bool, true, false, cond, List, [], ◌∷◌, ◌++◌, ltb, length}
use Rattle.rules.specs.Plain.{Plain}

-- refused: 0 for none
pub record Outcome : Type 0 where
  pub refused : ℕ
  pub answers : List ℕ
  pub ledger : Plain
  pub words : List ℕ

-- all that a call says: its refusal, its answers, the words that it writes
abbrev pub said : Outcome → List ℕ
said o = o.refused ∷ o.answers ++ o.words

abbrev pub done : List ℕ → Plain → Outcome
done answers p = record { refused = 0; answers = answers; ledger = p; words = [] }

-- a call that is refused gives its number and does nothing else
abbrev pub unless : ℕ → Plain → Outcome → Outcome
unless zero p o = o
unless (suc n) p o = record { refused = suc n; answers = []; ledger = p; words = [] }

-- one thing where a call gives no refusal, and another where it does
abbrev pub if_done : {A : Type 0} → ℕ → A → A → A
if_done zero x y = x
if_done (suc n) x y = y

-- the table is read from the top: the first line whose condition holds gives its number, 0 where none does
infixr 20 ◌gives◌then◌
abbrev pub ◌gives◌then◌ : Bool → ℕ → ℕ → ℕ
true gives n then rest = n
false gives n then rest = rest

-- Writing a list, 9: the lent list is shorter than the words needed
abbrev pub too_short : ℕ → List ℕ → Bool
too_short room words = ltb room (length words)

-- a bool as the answer 0 or 1
abbrev pub yes_no : Bool → ℕ
yes_no b = cond b 1 0

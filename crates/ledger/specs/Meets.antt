-- The one shape of contract for the changing calls: a call answers, does and writes what an outcome says.
use Rattle.std.specs.Prelude.{ℕ, ◌≡◌, List, [], ◌∷◌, ◌++◌, length, drop, get_or, Result, Ok, Err}
use Rattle.rules.specs.Outcome.{Outcome}
use Rattle.types.specs.declared.refusal.Refusal.{Refusal}
use Rattle.types.specs.Refusals.{refused_in}
use Rattle.ledger.specs.declared.Ledger.{Ledger}
use Rattle.ledger.specs.declared.Done.{Done}
use Rattle.ledger.specs.Contents.{contents, Held}

-- what is written stands at the front, and the words beyond it keep their content
abbrev pub written : List ℕ → List ℕ → List ℕ
written words lent = words ++ drop (length words) lent

-- three answers, 0 where there are fewer
abbrev pub three_of : List ℕ → List ℕ
three_of ns = get_or ns 0 0 ∷ get_or ns 1 0 ∷ get_or ns 2 0 ∷ []

-- those of a call; one that is refused has none
abbrev pub answers_in : Result (List ℕ) Refusal → List ℕ
answers_in (Ok ns) = ns
answers_in (Err r) = three_of []

-- lent and after: the lent list as it was and as it is; a call that is lent none has none before and after
pub record Meets (o : Outcome) (lent after : List ℕ) (r : Done) : Type 0 where
  pub refused : refused_in r.said ≡ o.refused
  pub answers : answers_in r.said ≡ three_of o.answers
  pub ledger : contents r.ledger ≡ o.ledger
  pub wrote : after ≡ written o.words lent
  pub held : Held r.ledger

-- what a call says at its end: whatever it is, one number, or a refusal
abbrev pub saying : Result (List ℕ) Refusal → Ledger → Done
saying s l = record { said = s; ledger = l }

abbrev pub says : ℕ → Ledger → Done
says n l = saying (Ok (n ∷ 0 ∷ 0 ∷ [])) l

abbrev pub says_no : Refusal → Ledger → Done
says_no r l = saying (Err r) l

-- How a call meets its contract: one law for every refusal, one for a call that goes through and is lent no list.
-- Assumes nothing.
use Prim.Native.Nat.{ℕ, suc}
use mathlib.Core.Path.{◌≡◌, refl, ◌∙◌}
use mathlib.Core.Bool.{Bool, true, false, not}
use mathlib.Core.List.{List, [], ◌∷◌}
use native.Mathlib.Omega.{arith}
use Rattle.rules.specs.Plain.{Plain}
use Rattle.rules.specs.Good.{Good}
use Rattle.rules.specs.Outcome.{Outcome, done, unless, ◌gives◌then◌}
use Rattle.std.specs.Prelude.{Ok}
use Rattle.types.specs.declared.refusal.Refusal.{Refusal}
use Rattle.types.specs.declared.refusal.Refusal.TheVariants.{NoLocal, NoSpan, NoTime, NoShard, Malformed, EntriesFull, AbsencesFull, DeparturesFull, ListShort, UnknownKind, NoBundle, NoSnapshot, NeverWritten, CountsFull, NoTree, TreeTooLarge}
use Rattle.types.specs.Refusals.{refusal_number}
use Rattle.ledger.specs.declared.Ledger.{Ledger}
use Rattle.ledger.specs.declared.Done.{Done}
use Rattle.ledger.specs.Contents.{contents, Held, Became}
use Rattle.ledger.specs.Meets.{Meets, three_of, saying, says, says_no}

-- a refusal's number is not 0
pub numbered : (r : Refusal) → (n : ℕ) × (refusal_number r ≡ suc n)
numbered NoLocal = (0, refl)
numbered NoSpan = (1, refl)
numbered NoTime = (2, refl)
numbered NoShard = (3, refl)
numbered Malformed = (4, refl)
numbered EntriesFull = (5, refl)
numbered AbsencesFull = (6, refl)
numbered DeparturesFull = (7, refl)
numbered ListShort = (8, refl)
numbered UnknownKind = (9, refl)
numbered NoBundle = (10, refl)
numbered NoSnapshot = (11, refl)
numbered NeverWritten = (12, refl)
numbered CountsFull = (13, refl)
numbered NoTree = (14, refl)
numbered TreeTooLarge = (15, refl)

-- the table gives a refusal: it is said, and nothing else is done
pub refuses : (r : Refusal) (l : Ledger) (lent : List ℕ) (m : ℕ) (o : Outcome) → Held l → m ≡ refusal_number r → Meets (unless m (contents l) o) lent lent (says_no r l)
refuses r l lent m o h e = rw (e ∙ (numbered r).1) (record { refused = (numbered r).1; answers = refl; ledger = refl; wrote = refl; held = h })

-- the table gives none
pub passes : (m : ℕ) (p : Plain) (o : Outcome) (lent after : List ℕ) (r : Done) → m ≡ 0 → Meets o lent after r → Meets (unless m p o) lent after r
passes m p o lent after r e g = rw e g

-- the ledger became what the call says, with its answers
ended : (ns : List ℕ) (l : Ledger) (p : Plain) (r : Done) → Became p l → r ≡ saying (Ok (three_of ns)) l → Meets (done ns p) [] [] r
ended ns l p r b q = rw q (record { refused = refl; answers = refl; ledger = b.holds; wrote = refl; held = b.held })

-- which are a number or nothing
pub answers : (n : ℕ) (l : Ledger) (p : Plain) (r : Done) → Became p l → r ≡ says n l → Meets (done (n ∷ []) p) [] [] r
answers n = ended (n ∷ [])

pub silent : (l : Ledger) (p : Plain) (r : Done) → Became p l → r ≡ says 0 l → Meets (done [] p) [] [] r
silent = ended []

-- the ledger as it is
pub stays : (l : Ledger) → Held l → (p : Plain) → contents l ≡ p → Became p l
stays l h p e = record { held = h; holds = e }

-- a call that goes through leaves a good ledger
pub good-after : (m : ℕ) (p : Plain) (o : Outcome) → m ≡ 0 → Good (unless m p o).ledger → Good o.ledger
good-after m p o e g = rw e at g

-- A table whose first three lines the words decide: what these give is given, and where they give nothing the rest is.
module _ (x y z : ℕ) where
  abbrev pub lines : Bool → Bool → Bool → ℕ → ℕ
  lines a b c m = not a gives suc x then not b gives suc y then not c gives suc z then m

  pub lines_first : (a b c : Bool) (m n : ℕ) → lines a b c 0 ≡ suc n → lines a b c m ≡ suc n
  lines_first false b c m n e = e
  lines_first true false c m n e = e
  lines_first true true false m n e = e
  lines_first true true true m n e = absurd (omega arith)

  pub lines_pass : (a b c : Bool) (m : ℕ) → lines a b c 0 ≡ 0 → lines a b c m ≡ m
  lines_pass false b c m e = absurd (omega arith)
  lines_pass true false c m e = absurd (omega arith)
  lines_pass true true false m e = absurd (omega arith)
  lines_pass true true true m e = refl

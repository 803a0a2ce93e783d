-- The one shape of contract for the readings: a reading answers and writes what an outcome says. It hands no ledger back.
use Rattle.std.specs.Prelude.{ℕ, ◌≡◌, Bool, cond, List, [], length, get_or, Result, Ok, Err}
use Rattle.rules.specs.Outcome.{Outcome, ◌gives◌then◌, too_short}
use Rattle.rules.specs.Plain as plain
use Rattle.rules.specs.Plain.{Plain}
use Rattle.rules.specs.Readings.{lookup}
use Rattle.entry.specs.declared.Entry.{Entry}
use Rattle.entry.specs.Entry.{plain_entry}
use Rattle.types.specs.declared.refusal.Refusal.{Refusal}
use Rattle.types.specs.Refusals.{refused_in}
use Rattle.ledger.specs.Meets.{written}

-- the answer; a reading that is refused has none
abbrev pub answer_in : Result ℕ Refusal → ℕ
answer_in (Ok n) = n
answer_in (Err r) = 0

-- lent and after: the lent list as it was and as it is; a reading that is lent none has none before and after
pub record Reads (o : Outcome) (lent after : List ℕ) (r : Result ℕ Refusal) : Type 0 where
  pub refused : refused_in r ≡ o.refused
  pub answer : answer_in r ≡ get_or o.answers 0 0
  pub wrote : after ≡ written o.words lent

-- by whatever test of entries the answers are given, r is the lookup of it: Says is what is said of an entry that is asked about
abbrev pub LooksUp : (Entry → Bool → Type 0) → Plain → ℕ → Result ℕ Refusal → Type 0
LooksUp Says p t r = (q : plain.Entry → Bool) → ((e : Entry) (b : Bool) → Says e b → b ≡ q (plain_entry e)) → Reads (lookup q t p) [] [] r

-- words written out, so many items: all of them, or 9 and none
pub record Lists (words : List ℕ) (items : ℕ) (lent after : List ℕ) (r : Result ℕ Refusal) : Type 0 where
  pub refused : refused_in r ≡ (too_short (length lent) words gives 9 then 0)
  pub answer : answer_in r ≡ cond (too_short (length lent) words) 0 items
  pub wrote : after ≡ cond (too_short (length lent) words) lent (written words lent)

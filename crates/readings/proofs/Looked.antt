-- How a lookup reads what the rules say: of an entry found, of none, and of numbers that the table refuses.
-- Assumes nothing.
use Prim.Native.Nat.{ℕ}
use mathlib.Core.Path.{◌≡◌, refl, sym, ap, ◌∙◌}
use mathlib.Core.Bool.{Bool, true, false, ◌&&◌}
use mathlib.Core.List.{List, [], ◌∷◌}
use lib.ListN.{get_or}
use Rattle.lists.specs.Arrays.{place}
use Rattle.rules.specs.Plain as plain
use Rattle.rules.specs.Plain.{Plain}
use Rattle.rules.specs.Outcome.{Outcome, done, unless, ◌gives◌then◌, yes_no}
use Rattle.rules.specs.Readings.{lookup, of_entry}
use Rattle.std.specs.Prelude.{Result, Ok, Err, None}
use Rattle.std.specs.Int.{from_bool}
use Rattle.types.specs.declared.refusal.Refusal.{Refusal}
use Rattle.types.specs.Refusals.{refusal_number}
use Rattle.entry.specs.declared.Entry.{Entry}
use Rattle.entry.specs.Entry.{plain_entry}
use Rattle.store.specs.Roster.{keys_of, is, LiesIn}
use Rattle.ledger.specs.declared.Ledger.{Ledger}
use Rattle.ledger.specs.Contents.{contents, Held}
use Rattle.ledger.proofs.Places.{owed_in, not_found}
use Rattle.ledger.proofs.Meeting.{numbered}
use Rattle.readings.specs.Reads.{Reads}

-- a number read as held; a test of anything
pub tells : (n m : ℕ) (p : Plain) → n ≡ m → Reads (done (m ∷ []) p) [] [] (Ok n)
tells n m p e = record { refused = refl; answer = e; wrote = refl }

as_number : (b : Bool) → from_bool b ≡ yes_no b
as_number true = refl
as_number false = refl

pub says : (a b : Bool) (n : ℕ) (p : Plain) → n ≡ from_bool a → a ≡ b → Reads (done (yes_no b ∷ []) p) [] [] (Ok n)
says a b n p f e = record { refused = refl; answer = f ∙ as_number a ∙ ap yes_no e; wrote = refl }

-- a test of an entry that was found
pub answered : (q : plain.Entry → Bool) (l : Ledger) → Held l → (t s : ℕ) → LiesIn l.roster t s → (d : Entry) (b : Bool) (n : ℕ) → n ≡ from_bool b →
    b ≡ q (plain_entry (get_or l.entries s d)) → Reads (lookup q t (contents l)) [] [] (Ok n)
answered q l h t s w d b n f e = says b (of_entry q (plain.entry_of t (contents l))) n (contents l) f (e ∙ ap (of_entry q) (sym ((owed_in l h t s w).got d)))

-- no for a transaction that is not owed
pub unanswered : (q : plain.Entry → Bool) (l : Ledger) → Held l → (t : ℕ) → place (is t) 0 (keys_of l.roster) ≡ None → Reads (lookup q t (contents l)) [] [] (Ok 0)
unanswered q l h t e = says false (of_entry q (plain.entry_of t (contents l))) 0 (contents l) refl (ap (of_entry q) (sym (not_found l h t e).got))

-- the table gives a refusal: it is said, and nothing is written
pub refuses : (r : Refusal) (m : ℕ) (p : Plain) (o : Outcome) (lent : List ℕ) → m ≡ refusal_number r → Reads (unless m p o) lent lent (Err r)
refuses r m p o lent e = rw (e ∙ (numbered r).1) (record { refused = (numbered r).1; answer = refl; wrote = refl })

-- the table gives none
pub passes : (m : ℕ) (p : Plain) (o : Outcome) (lent after : List ℕ) (r : Result ℕ Refusal) → m ≡ 0 → Reads o lent after r → Reads (unless m p o) lent after r
passes m p o lent after r e g = rw e g

-- A joined test, from where it is decided.
pub fails : (a b : Bool) → a ≡ false → false ≡ a && b
fails a b h = rw h

pub follows : (a b d : Bool) → a ≡ true → d ≡ b → d ≡ a && b
follows a b d h e = rw h e

-- The table, line by line.
pub stops : (b : Bool) (n rest : ℕ) → b ≡ true → (b gives n then rest) ≡ n
stops b n rest h = rw h

pub goes_on : (b : Bool) (n rest : ℕ) → b ≡ false → (b gives n then rest) ≡ rest
goes_on b n rest h = rw h

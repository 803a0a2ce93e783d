-- What letting one transaction go does, whoever asks for it.
use Rattle.std.specs.Prelude.{ℕ, ◌≡◌, Bool, cond, [], ◌∷◌}
use Rattle.lists.specs.Lists.{without}
use Rattle.rules.specs.Plain as plain
use Rattle.rules.specs.Plain.{Plain, transaction_of, entry_of, with_entries}
use Rattle.rules.specs.Outcome.{Outcome, done}
use Rattle.rules.specs.Readings.{of_entry}
use Rattle.entry.specs.declared.Entry.{Entry}
use Rattle.entry.specs.Entry.{plain_entry}
use Rattle.ledger.specs.declared.Ledger.{Ledger}
use Rattle.ledger.specs.Contents.{contents}
use Rattle.ledger.specs.Meets.{Meets, says}

-- a transaction whose entry passes is let go, and the answer is n; any other stays, and the answer is 0
abbrev pub released : (plain.Entry → Bool) → ℕ → ℕ → Plain → Outcome
released q n t p = cond (of_entry q (entry_of t p)) (done (n ∷ []) (with_entries (without transaction_of t p.entries) p)) (done (0 ∷ []) p)

-- By whatever test of entries the answers are given, and whatever answer n is to be given: Says is what is said of an entry that is asked about,
-- gone whether the transaction went.
abbrev pub Releases : (Entry → Bool → Type 0) → Ledger → ℕ → Bool → Ledger → Type 0
Releases Says l t gone l' =
    (q : plain.Entry → Bool) → ((e : Entry) (b : Bool) → Says e b → b ≡ q (plain_entry e)) → (n : ℕ) → Meets (released q n t (contents l)) [] [] (says (cond gone n 0) l')

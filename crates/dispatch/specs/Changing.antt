-- The changing calls by number: which call a kind is, on which of its words, with a lent list of which length; and a call made several times.
use Rattle.std.specs.Prelude.{ℕ, zero, suc, ◌≡◌, cond, List, map, eqb}
use Rattle.rules.specs.Plain.{Plain}
use Rattle.rules.specs.Words.{word}
use Rattle.rules.specs.Calls.{Call, admission, absence, certify, abandonment, settled, returned, closes, fated, finalization, forget, terminal, stamp, prune, bundle, step}
use Rattle.ledger.specs.declared.Ledger.{Ledger}
use Rattle.ledger.specs.declared.Done.{Done}
use Rattle.ledger.specs.Contents.{contents}
use Rattle.ledger.specs.Meets.{Meets, says}

-- words that are missing count as 0; 14 is a bundle, 13 and every other number a prune
unfoldable pub call_of : ℕ → List ℕ → ℕ → Call
call_of kind ws room =
    cond (eqb kind 1) (admission ws)
    (cond (eqb kind 2) (absence (word 0 ws) (word 1 ws) (word 2 ws))
    (cond (eqb kind 3) (certify (word 0 ws) (word 1 ws))
    (cond (eqb kind 4) (abandonment ws)
    (cond (eqb kind 5) (settled (word 0 ws) (word 1 ws))
    (cond (eqb kind 6) (returned (word 0 ws) (word 1 ws))
    (cond (eqb kind 7) (closes room)
    (cond (eqb kind 8) (fated (word 0 ws))
    (cond (eqb kind 9) (finalization ws)
    (cond (eqb kind 10) (forget (word 0 ws))
    (cond (eqb kind 11) (terminal (word 0 ws) (word 1 ws) (word 2 ws) (word 3 ws))
    (cond (eqb kind 12) (stamp (word 0 ws) (word 1 ws))
    (cond (eqb kind 14) (bundle ws)
    (prune (word 0 ws) room)))))))))))))

-- the plain ledger after so many turns of a call, each on the ledger that the last left
abbrev pub after : ℕ → Call → Plain → Plain
after zero c p = p
after (suc n) c p = (step c (after n c p)).ledger

-- the list before the turn that n others precede: as it was lent, or filled anew
abbrev pub list_before : ℕ → ℕ → List ℕ → List ℕ
list_before zero blank lent = lent
list_before (suc n) blank lent = map (λ w. blank) lent

-- what is left after so many turns: the last one's outcome; after none nothing is said and all is as it was
abbrev pub Turned : ℕ → ℕ → Call → Ledger → List ℕ → List ℕ → Done → Type 0
Turned zero blank c l lent now r = (r ≡ says 0 l) × (now ≡ lent)
Turned (suc n) blank c l lent now r = Meets (step c (after n c (contents l))) (list_before n blank lent) now r

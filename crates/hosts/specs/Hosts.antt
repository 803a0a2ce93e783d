-- The calls of a host: a ledger comes in and goes out as the bytes of its snapshot, the least byte of a word first. Each is the rules' own call,
-- with a refusal ahead of it for bytes that are no words, and one behind it for a slice that is too short.
use Rattle.std.specs.Prelude.{ℕ, zero, suc, ◌≡◌, ◌≤◌, cond, not, ◌&&◌, ◌||◌, List, [], ◌++◌, ◌%◌, ◌/◌, eqb, ltb, leb, length, take}
use Rattle.std.specs.Prelude.{Result, Ok, Err}
use Rattle.word_bytes.specs.Bytes.{bytes_of, are_words, words_in}
use Rattle.rules.specs.Plain.{Plain}
use Rattle.rules.specs.Widths.{report_room, snapshot_room}
use Rattle.rules.specs.Outcome.{Outcome, done, unless, if_done, ◌gives◌then◌, too_short}
use Rattle.rules.specs.Calls.{not_made, making, step, prune}
use Rattle.rules.specs.Snapshot.{snapshot_words, restoring}
use Rattle.types.specs.declared.refusal.Refusal.{Refusal}
use Rattle.types.specs.Refusals.{refused_in}
use Rattle.ledger.specs.declared.Ledger.{Ledger}
use Rattle.ledger.specs.Contents.{contents, Held}
use Rattle.ledger.specs.Meets.{written}

-- A ledger that comes in. 12, ahead of what the words are refused by: bytes that are no whole words are no snapshot.
unfoldable pub restoring_bytes : List ℕ → Outcome
restoring_bytes bytes = unless (not (are_words bytes) gives 12 then 0) not_made (restoring (words_in bytes))

-- how many words are read of so many bytes: none where they are no whole words or more than any snapshot's
abbrev pub words_read : ℕ → ℕ
words_read n = cond (eqb (n % 8) 0 && leb (n / 8) snapshot_room) (n / 8) 0

-- What a call gives: its number, and the bytes that it puts to the front of its slices. A refused call gives its number alone.
pub record Given : Type 0 where
  pub number : ℕ
  pub out : List ℕ
  pub reports : List ℕ

abbrev pub giving : ℕ → List ℕ → List ℕ → Given
giving zero out reports = record { number = 0; out = out; reports = reports }
giving (suc n) out reports = record { number = suc n; out = []; reports = [] }

-- a ledger that goes out, and words that are told beside it, in slices of so many bytes; 9 comes after every other refusal
abbrev pub ledger_bytes : Plain → List ℕ
ledger_bytes p = bytes_of (snapshot_words p)

abbrev pub handing : ℕ → Plain → List ℕ → (out_room reports_room : ℕ) → Given
handing refused p told out_room reports_room =
    giving
    (ltb 0 refused gives refused then
    (too_short out_room (ledger_bytes p) || too_short reports_room (bytes_of told)) gives 9 then 0)
    (ledger_bytes p)
    (bytes_of told)

-- making a ledger
unfoldable pub made_for_host : (local v c l out_room : ℕ) → Given
made_for_host local v c l out_room =
    let o : Outcome = making local v c l in
    handing o.refused o.ledger [] out_room 0

-- reading one
unfoldable pub read_for_host : (bytes : List ℕ) (out_room : ℕ) → Given
read_for_host bytes out_room =
    let o : Outcome = restoring_bytes bytes in
    handing o.refused o.ledger [] out_room 0

-- pruning one that is read: the changing call, lent room for a report of each of the 48 entries; its numbers are told, then its reports
unfoldable pub pruned_for_host : (bytes : List ℕ) (time out_room reports_room : ℕ) → Given
pruned_for_host bytes time out_room reports_room =
    let r : Outcome = restoring_bytes bytes in
    let o : Outcome = step (prune time report_room) r.ledger in
    handing (if_done r.refused o.refused r.refused) o.ledger (o.answers ++ o.words) out_room reports_room

-- number and slices are those of what is given; every byte beyond stays. A call with one slice has none for reports, before and after.
pub record Gives (g : Given) (out out_after reports reports_after : List ℕ) (r : ℕ) : Type 0 where
  pub number : r ≡ g.number
  pub wrote : out_after ≡ written g.out out
  pub told : reports_after ≡ written g.reports reports

-- The ledgers that are read and pruned.
abbrev pub ledger_read : List ℕ → Plain
ledger_read bytes = (restoring_bytes bytes).ledger

abbrev pub ledger_pruned : (bytes : List ℕ) (time : ℕ) → Plain
ledger_pruned bytes time = (step (prune time report_room) (ledger_read bytes)).ledger

-- what goes out of an accepted call comes in again, as this very ledger
abbrev pub ComesAgain : Given → Plain → ℕ → Type 0
ComesAgain g p r = r ≡ 0 → restoring_bytes g.out ≡ done [] p

-- of a prune: what it does, and its numbers and reports in front of a list, so many words
abbrev pub Told : Outcome → List ℕ → Result ℕ Refusal → Type 0
Told o list (Ok n) = (n ≤ length list) × (take n list ≡ o.answers ++ o.words)
Told o list (Err r) = Unit {0}

pub record Tells (o : Outcome) (list : List ℕ) (l : Ledger) (r : Result ℕ Refusal) : Type 0 where
  pub refused : refused_in r ≡ o.refused
  pub ledger : contents l ≡ o.ledger
  pub held : Held l
  pub told : Told o list r

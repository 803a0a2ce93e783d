-- What a line of a script does: the call that its code, numbers and lent list name, as often as it is made.
use Rattle.std.specs.Prelude.{ℕ, zero, suc, ◌-◌, ◌≤◌, ◌<◌, ◌≡◌, cond, List, [], ◌∷◌, map, eqb, length, take, drop, get_or, Result, Ok, Err}
use Rattle.rules.specs.Words.{word}
use Rattle.rules.specs.Outcome.{Outcome}
use Rattle.rules.specs.Calls.{Call, making}
use Rattle.rules.specs.Readings.{Reading, read}
use Rattle.rules.specs.Snapshot.{restoring}
use Rattle.types.specs.declared.refusal.Refusal.{Refusal}
use Rattle.ledger.specs.declared.Ledger.{Ledger}
use Rattle.ledger.specs.Contents.{contents}
use Rattle.ledger.specs.Meets.{Meets, saying}
use Rattle.readings.specs.Reads.{Reads}
use Rattle.dispatch.specs.Changing.{call_of, Turned}
use Rattle.dispatch.specs.Reading.{reading_of}
use Rattle.script.specs.declared.line.Call as script

-- once, unless a `repeat` says how often
abbrev pub turns_of : ℕ → ℕ
turns_of zero = 1
turns_of (suc n) = suc n

-- what each word of a list holds before a call
abbrev pub fill_word : ℕ
fill_word = 11936128518282651045

abbrev pub filled : List ℕ → List ℕ
filled list = map (λ w. fill_word) list

-- by the codes of script calls: 1 and 2 the makings, 3 to 16 the changing calls, from 17 on the readings
abbrev pub making_in : ℕ → List ℕ → Outcome
making_in code ws = cond (eqb code 2) (restoring ws) (making (word 0 ws) (word 1 ws) (word 2 ws) (word 3 ws))

abbrev pub call_in : ℕ → List ℕ → ℕ → Call
call_in code words room = call_of (code - 2) words room

abbrev pub reading_in : ℕ → List ℕ → ℕ → Reading
reading_in code words room = reading_of (code - 16) words room

-- what a call says
abbrev pub Reply : Type 0
Reply = Result (List ℕ) Refusal

-- what is said of a line that makes a ledger, and this ledger, which is there where the making is refused too
abbrev pub Renewed : ℕ → List ℕ → Reply → Ledger → Type 0
Renewed code ws reply r = Meets (making_in code ws) [] [] (saying reply r)

-- of a line's code, numbers and lent list: what is said, the list after it, and the ledger after it
abbrev pub Changed : ℕ → List ℕ → ℕ → Ledger → List ℕ → List ℕ → Reply → Ledger → Type 0
Changed code words times l was now reply r = Turned (turns_of times) fill_word (call_in code words (length was)) l (filled was) now (saying reply r)

abbrev pub Asked : ℕ → List ℕ → Ledger → List ℕ → List ℕ → Result ℕ Refusal → Type 0
Asked code words l was now said = Reads (read (reading_in code words (length was)) (contents l)) (filled was) now said

-- what a reading says, where a line has three answers
abbrev pub first_in : Reply → Result ℕ Refusal
first_in (Ok ns) = Ok (get_or ns 0 0)
first_in (Err r) = Err r

-- what a code makes of a line's numbers and of its list, by the ranges of the table: 39 is `dump`, of which the line has what is held. Shut out: a name whose
-- call is made by the range beside its own
pub record Made (code : ℕ) (words : List ℕ) (times : ℕ) (l : Ledger) (was now : List ℕ) (reply : Reply) (r : Ledger) : Type 0 where
  pub renewed : code ≤ 2 → Renewed code words reply r
  pub changed : 2 < code → code ≤ 16 → Changed code words times l was now reply r
  pub asked : 16 < code → code < 39 → Asked code words l was now (first_in reply)
  pub dumped : 39 ≤ code → reply ≡ Ok (0 ∷ 0 ∷ 0 ∷ [])
  -- neither a reading nor `dump` changes the ledger; neither a making nor `dump` writes to a list
  pub stays : 16 < code → r ≡ l
  pub unread : code ≤ 2 → now ≡ was
  pub unlent : 39 ≤ code → now ≡ was

-- what a line does: its call on the numbers that it has, of those that stand in the array, and on as many words as it lends. Shut out: numbers of an earlier
-- line that go along, and words beyond the lent ones that a call touches
pub record Did (call : script.Call) (numbers : List ℕ) (times : ℕ) (l : Ledger) (was now : List ℕ) (reply : Reply) (r : Ledger) : Type 0 where
  pub made : Made call.code.place (take call.count numbers) times l (take call.lent was) (take call.lent now) reply r
  pub beyond : drop call.lent now ≡ drop call.lent was

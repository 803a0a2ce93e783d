-- What a line taken apart keeps to.
-- Assumes nothing.
use Rattle.std.specs.Prelude.{ℕ, ◌<◌, ◌≡◌, cond, false, true, List, take, drop, Some, None, IfSome, slice_index}
use Rattle.std.specs.Option.{unwrap_or}
use Rattle.script.specs.Calls.{code_of, takes_list}
use Rattle.script.specs.Grammar.{word_length, behind, tail_of, numbers_of, is_remark}
use Rattle.script.specs.declared.parts.Tail.{Tail}
use Rattle.script.specs.declared.line.Line.{Line}
use Rattle.script.specs.declared.line.Line.TheVariants.{Skip, Repeat, Call, Malformed}

-- one number behind a name, and no lent count
abbrev pub one_number : Tail
one_number = record { count = 1; lent = None }

-- what a call's code, what stands behind its name and the first number make
abbrev pub Fits : ℕ → Tail → ℕ → Line → Type 0
Fits code tail first Skip = ⊥
Fits code tail first (Repeat times) = (code ≡ 0) × (tail ≡ one_number) × (times ≡ first) × (0 < times)
Fits code tail first (Call call) = (call.code.place ≡ code) × (call.count ≡ tail.count) × (call.lent ≡ cond (takes_list code) (unwrap_or tail.lent 0) 0)
Fits code tail first Malformed = ⊥

-- what a line is taken for: skipped just where it is empty or a remark; a `repeat` where its one number alone stands behind it; a call by its name, with the
-- numbers that stand behind it in front of `numbers`, and the lent count where it takes a list
abbrev pub Says : List ℕ → List ℕ → Line → Type 0
Says line numbers Skip = is_remark line ≡ true
Says line numbers (Repeat times) =
    (is_remark line ≡ false)
    × (code_of (take (word_length line) line) ≡ Some 0)
    × (tail_of 0 (behind (drop (word_length line) line)) ≡ Some one_number)
    × (take 1 numbers ≡ numbers_of (behind (drop (word_length line) line)))
    × (times ≡ slice_index numbers 0)
    × (0 < times)
Says line numbers (Call call) =
    (is_remark line ≡ false)
    × (code_of (take (word_length line) line) ≡ Some call.code.place)
    × (take call.count numbers ≡ numbers_of (behind (drop (word_length line) line)))
    × IfSome (tail_of 0 (behind (drop (word_length line) line))) (λ tail. call.lent ≡ cond (takes_list call.code.place) (unwrap_or tail.lent 0) 0)
Says line numbers Malformed = is_remark line ≡ false

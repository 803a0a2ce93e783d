-- What the table of calls says of `repeat`, by computing.
-- Assumes nothing.
use Prim.Native.Nat.{ℕ}
use mathlib.Core.Path.{◌≡◌}
use borrow.Author.Tests.{eqb-true}
use Rattle.script.specs.Calls.{count_of, Takes}

-- it takes one number
one : (count : ℕ) → Takes 0 count → count ≡ 1
unfolding count_of
one count takes = eqb-true count 1 takes.own

pub repeat_takes_one : (code count : ℕ) → code ≡ 0 → Takes code count → count ≡ 1
repeat_takes_one code count e takes = one count (rw e at takes)

-- `script::parts::tail_of`: The invariant: the tail from here on, behind the numbers so far, is the tail of the whole; the numbers stored, with those to come, are all.
-- Assumes nothing.
use Rattle.std.proofs.Common.{◌≡◌, ◌++◌, length, take}
use Rattle.script.specs.Grammar.{tail_of, behind, numbers_of}
use Rattle.script.proofs.parts.tail_of.Given as goal

abbrev pub invariant-loop-token : goal.invariant-loop-token
invariant-loop-token l = record {
  tail : tail_of l.count (behind l.rest) ≡ tail_of 0 (behind l.text);
  numbers : take l.count l.numbers ++ numbers_of (behind l.rest) ≡ numbers_of (behind l.text);
}

abbrev pub decreases-loop-token : goal.decreases-loop-token
decreases-loop-token l = length l.rest

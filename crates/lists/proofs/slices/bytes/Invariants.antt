-- What is written, joined with what is still to come, is the slice.
use Rattle.std.proofs.Common.{◌≡◌, ◌++◌, length, take, drop}
use Rattle.lists.proofs.slices.bytes.Given as goal

abbrev pub invariant-loop-i : goal.invariant-loop-i
invariant-loop-i g l = (length l.out ≡ g.row.N) × (take l.i l.out ++ drop l.i l.s ≡ l.s)

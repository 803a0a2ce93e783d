-- What is kept so far, joined with what is kept of those still to come, is what is kept of all.
use Rattle.std.proofs.Common.{◌≡◌, ◌≤◌, ◌++◌, length, take, drop}
use Rattle.lists.specs.Lists.{keep_by}
use Rattle.lists.proofs.fronts.retain.Given as goal

abbrev pub invariant-loop-i : goal.invariant-loop-i
invariant-loop-i g l =
    let n = length l.stay in
    (l.kept ≤ l.i)
    × (length l.s ≡ length l.initial.s)
    × (take l.kept l.s ++ keep_by (drop l.i (take n l.stay)) (drop l.i (take n l.s)) ≡ keep_by l.stay (take n l.initial.s))

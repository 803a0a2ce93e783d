-- `script::lines::squeeze`: No more is kept than was read.
-- Assumes nothing.
use Rattle.std.proofs.Common.{◌≤◌}
use Rattle.script.proofs.lines.squeeze.Given as goal

abbrev pub invariant-loop-i : goal.invariant-loop-i
invariant-loop-i l = l.kept ≤ l.i

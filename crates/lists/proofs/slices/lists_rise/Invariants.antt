-- The lists still to come all rise exactly if all do.
use Rattle.std.proofs.Common.{◌≡◌, ◌≤◌, length, drop}
use Rattle.lists.specs.Lists.{all, ascending, total, self, cut}
use Rattle.lists.proofs.slices.lists_rise.Given as goal

abbrev pub invariant-loop-n : goal.invariant-loop-n
invariant-loop-n l =
    (total self (drop l.n-index l.sizes) ≤ length l.rest)
    × (all (ascending self) (cut (drop l.n-index l.sizes) l.rest) ≡ all (ascending self) (cut l.sizes l.joined))

-- The library tests neighbours by a closure, which is <.
use Rattle.std.proofs.Common.{ltb, rules, tests}
use Rattle.std.proofs.lemmas.Fn.{always_returns_same}
use Rattle.lists.specs.Lists.{self}
use Rattle.lists.proofs.Cuts.{rises_by}
use Rattle.lists.proofs.slices.rises.Goals as goal

pub returns : goal.returns
returns c = rises_by self c.args.s.now _ (c.is_sorted_by.ensures.cases (λ x y. ltb x y) (always_returns_same _ _ _ (λ a r k q. search (rules, tests))))

-- The left half is walked and then the right one.
use Rattle.std.proofs.Common.{rules, arith}
use Rattle.trees.proofs.Split.{halves}
use Rattle.trees.proofs.Halves.+walk.Goals as goal

pub split-walk-requires : goal.split-walk-requires
split-walk-requires t c = (omega arith, omega (arith, c.requires.0))

pub split-walk-requires-2 : goal.split-walk-requires-2
split-walk-requires-2 t c = (omega arith, omega (arith, c.requires.0))

pub split-returns : goal.split-returns
split-returns t c =
    halves c.args.left c.args.marks.now c.args.self.now.at _ _ _ c.requires.1 c.requires.2 (omega (arith, c.requires.0, c.requires.1)) c.if-not-walk.ensures _ _ _ c.walk-2.ensures

pub walk-split-requires : goal.walk-split-requires
walk-split-requires t c = (omega (arith, c.if-left-gt0.true), search rules)

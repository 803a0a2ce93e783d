-- What is added up is at most four for each.
use Rattle.std.proofs.Common.{◌≡◌, ap, drop, arith}
use Rattle.lists.specs.Lists.{total, self}
use Rattle.lists.proofs.Cuts.{total_more, total-within, rest-none}
use Rattle.snapshots.proofs.put.total.Goals as goal

pub overflow_add-n : goal.overflow_add-n
overflow_add-n c =
    let l = c.loop-size in
    let s = c.args.sizes.now in
    omega (arith, c.from-n.ensures, total_more self 0 s l.n l.size-index c.loop-size-test.true, l.invariant, total-within 4 s c.requires.1, c.requires.0)

pub loop-size-preserved : goal.loop-size-preserved
loop-size-preserved c =
    let l = c.loop-size in
    let s = c.args.sizes.now in
    omega (arith, c.from-n.ensures, total_more self 0 s l.n l.size-index c.loop-size-test.true, l.invariant)

pub returns : goal.returns
returns c =
    let l = c.loop-size in
    let s = c.args.sizes.now in
    let none : total self (drop l.size-index s) ≡ 0 = ap (total self) (rest-none s l.size-index c.loop-size-test.false) in
    (omega (arith, none, l.invariant), omega (arith, none, l.invariant, total-within 4 s c.requires.1, c.requires.0))

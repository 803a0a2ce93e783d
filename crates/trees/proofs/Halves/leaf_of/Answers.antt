-- Each turn goes into the half that the route's next bit says.
use Rattle.std.proofs.Common.{arith, refl}
use Rattle.trees.proofs.Down.{at_root, stands_within, deeper, has_room, stays_small, go_left, go_right, at_leaf}
use Rattle.trees.proofs.Halves.leaf_of.Goals as goal
use Rattle.trees.proofs.Halves.leaf_of.Goals.{then-bit-eq0, else-bit-eq0}

pub loop-at-init : goal.loop-at-init
loop-at-init c = (at_root c.args.marks.now c.args.self.now.right c.args.route, omega arith)

pub offset_bounds-marks-at : goal.offset_bounds-marks-at
offset_bounds-marks-at c = let within = stands_within _ _ _ _ _ _ c.requires c.loop-at.invariant.0 in omega (arith, within, c.requires.few)

pub bounds-marks-at : goal.bounds-marks-at
bounds-marks-at c = stands_within _ _ _ _ _ _ c.requires c.loop-at.invariant.0

pub overflow_sub-bit : goal.overflow_sub-bit
overflow_sub-bit c = let low = deeper _ _ _ _ _ _ c.loop-at-test.true c.requires c.loop-at.invariant.0 in omega (arith, low)

pub overflow_mul-shard : goal.overflow_mul-shard
overflow_mul-shard c =
    let low = deeper _ _ _ _ _ _ c.loop-at-test.true c.requires c.loop-at.invariant.0 in
    omega (arith, has_room _ _ low c.loop-at.invariant.1)

pub overflow_add-shard : goal.overflow_add-shard
overflow_add-shard c =
    let low = deeper _ _ _ _ _ _ c.loop-at-test.true c.requires c.loop-at.invariant.0 in
    omega (arith, has_room _ _ low c.loop-at.invariant.1)

pub overflow_add-depth : goal.overflow_add-depth
overflow_add-depth c = let low = deeper _ _ _ _ _ _ c.loop-at-test.true c.requires c.loop-at.invariant.0 in omega (arith, low)

pub loop-at-smaller : goal.loop-at-smaller
loop-at-smaller c = let low = deeper _ _ _ _ _ _ c.loop-at-test.true c.requires c.loop-at.invariant.0 in omega (arith, low)

pub loop-at-preserved : goal.loop-at-preserved
loop-at-preserved c = (
  elim c.if-bit-eq0.branch [
    | then-bit-eq0 w ↦ go_left _ _ _ _ _ _ c.loop-at-test.true _ _ refl w.if-bit-eq0.true w.at-is c.loop-at.invariant.0
    | else-bit-eq0 w ↦ go_right _ _ _ _ _ _ c.loop-at-test.true _ _ refl w.if-bit-eq0.false w.at-is c.loop-at.invariant.0
  ],
  stays_small _ _ _ (omega arith) c.loop-at.invariant.1,
)

pub returns : goal.returns
returns c = at_leaf _ _ _ _ _ _ c.loop-at-test.false c.loop-at.invariant.0

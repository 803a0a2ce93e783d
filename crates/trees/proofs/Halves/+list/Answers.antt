-- The leaves of the left half and then those of the right one, which has the room that the left one leaves.
use Rattle.std.proofs.Common.{arith, refl}
use Rattle.trees.proofs.Down.{noted_within, some_left, fits, left_below, right_below, one_put, both_put}
use Rattle.trees.proofs.Halves.+list.Goals as goal

pub offset_bounds-marks-at : goal.offset_bounds-marks-at
offset_bounds-marks-at t c = let within = noted_within _ _ _ _ c.requires.noted in omega (arith, within, c.requires.few)

pub bounds-marks-at : goal.bounds-marks-at
bounds-marks-at t c = noted_within _ _ _ _ c.requires.noted

pub returns-then-marks-at-eq0 : goal.returns-then-marks-at-eq0
returns-then-marks-at-eq0 t c = one_put _ _ _ _ _ _ c.if-marks-at-eq0.true c.push.ensures.list

pub overflow_mul-root : goal.overflow_mul-root
overflow_mul-root t c = omega (arith, fits _ _ _ _ _ _ c.if-marks-at-eq0.false c.requires)

pub overflow_sub-left : goal.overflow_sub-left
overflow_sub-left t c = some_left _ _ _ _ _ _ c.if-marks-at-eq0.false c.requires

pub list-requires : goal.list-requires
list-requires t c =
    (omega (arith, some_left _ _ _ _ _ _ c.if-marks-at-eq0.false c.requires), left_below _ _ _ _ _ _ c.if-marks-at-eq0.false c.requires)

pub overflow_mul-root-2 : goal.overflow_mul-root-2
overflow_mul-root-2 t c = omega (arith, fits _ _ _ _ _ _ c.if-marks-at-eq0.false c.requires)

pub overflow_add-root : goal.overflow_add-root
overflow_add-root t c = omega (arith, fits _ _ _ _ _ _ c.if-marks-at-eq0.false c.requires)

pub overflow_sub-left-2 : goal.overflow_sub-left-2
overflow_sub-left-2 t c = some_left _ _ _ _ _ _ c.if-marks-at-eq0.false c.requires

pub list-requires-2 : goal.list-requires-2
list-requires-2 t c = (
  omega (arith, some_left _ _ _ _ _ _ c.if-marks-at-eq0.false c.requires),
  right_below _ _ _ _ _ _ c.if-marks-at-eq0.false c.requires c.args.shards.now c.list.new.shards refl c.list.ensures,
)

pub returns : goal.returns
returns t c = both_put _ _ _ _ _ _ _ c.if-marks-at-eq0.false c.list.ensures c.list-2.ensures

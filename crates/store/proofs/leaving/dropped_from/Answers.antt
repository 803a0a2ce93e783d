-- A turn passes one that stays by, or puts the next that leaves behind those at the front.
use Rattle.std.proofs.Common.{◌≡◌, ◌≤◌, ◌++◌, length, take, ap, arith, rules}
use Rattle.store.specs.Roster.{keys_of}
use Rattle.store.specs.Leaving.{dropped_by}
use Rattle.lists.proofs.Held.{left_out, put_behind, all_put}
use Rattle.store.proofs.Dropping.{coming_stays, coming_leaves, coming_end}
use Rattle.store.proofs.leaving.dropped_from.Goals as goal
use Rattle.store.proofs.leaving.dropped_from.Goals.{then-not-stay-i, else-not-stay-i}

pub loop-i-init : goal.loop-i-init
loop-i-init c =
    let all = dropped_by (take c.args.roster.len c.args.stay) (keys_of c.args.roster) in
    (omega arith, ap (λ m. m ++ all) c.new-gone.ensures.list)

pub loop-i-preserved : goal.loop-i-preserved
loop-i-preserved c =
    let l = c.loop-i in
    let a = c.args in
    let r = a.roster in
    let f : length a.stay ≡ 48 = search rules in
    let one : r.len ≤ length a.stay = omega (arith, r.room) in
    let two : r.len ≤ length r.keys = omega (arith, r.room, r.lengths.0) in
    elim c.if-not-stay-i.branch [
      | then-not-stay-i w ↦ rw w.gone-is (omega arith, put_behind _ _ _ _ _ _ (coming_leaves a.stay r.keys l.i r.len one two (omega arith) w.if-not-stay-i.true) w.push.ensures.list l.invariant.1)
      | else-not-stay-i w ↦ rw w.gone-is (omega arith, left_out _ _ _ _ (coming_stays a.stay r.keys l.i r.len one two (omega arith) w.if-not-stay-i.false) l.invariant.1)
    ]

pub returns : goal.returns
returns c =
    let l = c.loop-i in
    let a = c.args in
    let r = a.roster in
    let f : length a.stay ≡ 48 = search rules in
    all_put _ _ _ (coming_end a.stay r.keys l.i r.len (omega (arith, r.room)) (omega (arith, r.room, r.lengths.0)) (omega arith)) l.invariant.1

-- One more is put behind them.
use Rattle.std.proofs.Common.{◌≡◌, ap, arith, map}
use Rattle.entry.specs.Entry.{plain_absence}
use Rattle.snapshots.proofs.Histories.{one_more}
use Rattle.snapshots.proofs.history.absences_in.Goals as goal

pub loop-i-init : goal.loop-i-init
loop-i-init c = (c.new-absences.ensures.count, ap (map plain_absence) c.new-absences.ensures.list)

pub push-requires : goal.push-requires
push-requires c = (omega arith, omega (arith, c.requires, c.loop-i.invariant.0, c.size_at-i-end.ensures, c.loop-i-test.true))

pub loop-i-preserved : goal.loop-i-preserved
loop-i-preserved c =
    let l = c.loop-i in
    (omega (arith, c.push.ensures.count, l.invariant.0), one_more plain_absence c.args.words.now l.i _ _ _ c.push.ensures.list (rw (c.word_at.ensures, c.word_at-in-loop-i.ensures)) l.invariant.1)

pub returns : goal.returns
returns c =
    let l = c.loop-i in
    let all : l.i ≡ c.size_at-i-end.result = omega (arith, c.loop-i-test.false) in
    rw (all, c.size_at-i-end.ensures) at l.invariant.1

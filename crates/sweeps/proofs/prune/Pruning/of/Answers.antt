-- A turn judges one entry by the rules.
use Rattle.std.proofs.Common.{◌≡◌, arith, length}
use Rattle.sweeps.proofs.Reporting.{pass_none, file-good, pass_stands, pass_idle, pass_falls, pass_reported, passed}
use Rattle.sweeps.proofs.prune.Pruning.of.Goals as goal
use Rattle.sweeps.proofs.prune.Pruning.of.Goals.{in-Stands+then-p, in-Stands+else-p, in-Falls, in-Reported}

pub of-view-requires : goal.of-view-requires
of-view-requires c = file-good c.args.ledger.now c.requires c.args.time.0

pub loop-i-init : goal.loop-i-init
loop-i-init c = rw c.begun-p.ensures (pass_none c.args.ledger.now c.requires c.args.time.0)

pub loop-i-preserved : goal.loop-i-preserved
loop-i-preserved c =
    elim c.match-judge.branch [
      | in-Stands+then-p w ↦
          let size : length w.with_needs-p.result ≡ 32 = omega arith in
          rw w.p-is (pass_stands c.args.ledger.now c.requires c.args.time.0 c.loop-i.i c.loop-i-test.true _ c.of-view.result c.of-view.ensures c.judge.result c.judge.ensures c.loop-i.p c.loop-i.invariant w.in-Stands.is w.with_needs-p.result w.some_down.result size w.some_down.ensures w.with_needs-p.ensures)
      | in-Stands+else-p w ↦ rw w.p-is (pass_idle c.args.ledger.now c.requires c.args.time.0 c.loop-i.i c.loop-i-test.true _ c.of-view.result c.of-view.ensures c.judge.result c.judge.ensures c.loop-i.p c.loop-i.invariant w.in-Stands.is w.if-p.false)
      | in-Falls w ↦ rw w.p-is (pass_falls c.args.ledger.now c.requires c.args.time.0 c.loop-i.i c.loop-i-test.true _ c.of-view.result c.of-view.ensures c.judge.result c.judge.ensures c.loop-i.p c.loop-i.invariant w.in-Falls.is)
      | in-Reported w ↦ rw w.p-is (pass_reported c.args.ledger.now c.requires c.args.time.0 c.loop-i.i c.loop-i-test.true _ c.of-view.result c.of-view.ensures c.judge.result c.judge.ensures c.loop-i.p c.loop-i.invariant w.in-Reported.covered w.put_item.new.words w.in-Reported.is w.put_item.ensures)
    ]

pub returns : goal.returns
returns c = passed c.args.ledger.now c.requires c.args.time.0 c.loop-i.p c.loop-i.i c.loop-i.invariant c.loop-i-test.false

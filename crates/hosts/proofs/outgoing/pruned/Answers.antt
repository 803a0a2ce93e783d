-- The prune writes its reports behind the place of its two numbers, which are then put there.
use Rattle.std.proofs.Common.{arith, drop}
use lib.ListN.{length-drop}
use lib.Seq.{length-take-le}
use Rattle.ledger.specs.Contents.{contents}
use Rattle.hosts.proofs.Reported.{reports_fit, tells_behind}
use Rattle.hosts.proofs.outgoing.pruned.Goals as goal

pub overflow_mul-result : goal.overflow_mul-result
overflow_mul-result c = omega (arith, reports_fit c.args.time.0 (contents c.args.ledger.now) _ c.prune.new.lent c.in_ok-reported.field-0 c.prune.new.ledger c.in_ok-reported.ensures c.prune.auto.lent, length-take-le 144 (drop 2 c.args.told.now) (omega (arith, c.told-told, length-drop 2 c.args.told.now)))

pub overflow_add-result : goal.overflow_add-result
overflow_add-result c = omega (arith, reports_fit c.args.time.0 (contents c.args.ledger.now) _ c.prune.new.lent c.in_ok-reported.field-0 c.prune.new.ledger c.in_ok-reported.ensures c.prune.auto.lent, length-take-le 144 (drop 2 c.args.told.now) (omega (arith, c.told-told, length-drop 2 c.args.told.now)))

pub returns : goal.returns
returns c =
    tells_behind c.args.time.0 (contents c.args.ledger.now) c.args.told.now c.prune.new.lent c.in_ok-reported.field-0 c.prune.new.ledger c.told-told c.prune.auto.lent c.in_ok-reported.ensures

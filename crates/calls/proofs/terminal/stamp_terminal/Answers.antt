-- The departures alone change.
use Rattle.std.specs.Prelude.{Err}
use Rattle.std.proofs.Common.{◌≡◌, sym, rules}
use Rattle.calls.proofs.Departing.{stamp-refused, stamp-known}
use Rattle.calls.proofs.terminal.stamp_terminal.Goals as goal

pub returns-in_err-check_stamp : goal.returns-in_err-check_stamp
returns-in_err-check_stamp c =
    let said : c.from_residual.result ≡ Err c.in_err-check_stamp.field-0.0 = search rules in
    rw said (stamp-refused c.args.ledger.now c.requires c.args.shard.0 c.args.until.0 c.in_err-check_stamp.field-0.0 c.in_err-check_stamp.ensures)

pub returns : goal.returns
returns c = stamp-known c.args.ledger.now c.requires c.args.shard.0 c.args.until.0 (sym c.in_ok-check_stamp.ensures) _ c.stamp.ensures _

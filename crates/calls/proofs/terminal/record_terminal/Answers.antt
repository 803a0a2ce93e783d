-- The departures alone change, and each is put on file once.
use Rattle.std.specs.Prelude.{Err}
use Rattle.std.proofs.Common.{◌≡◌, rules, ◌∙◌, sym}
use Rattle.ledger.specs.Contents.{contents}
use Rattle.calls.proofs.Departing.{terminal-refused, terminal_full, terminal_filed, room, filed-words}
use Rattle.store.specs.Departures.{on_file}
use Rattle.calls.proofs.terminal.record_terminal.Goals as goal

pub returns-in_err-check_terminal : goal.returns-in_err-check_terminal
returns-in_err-check_terminal c =
    let said : c.from_residual.result ≡ Err c.in_err-check_terminal.field-0.0 = search rules in
    rw said (terminal-refused c.args.ledger.now c.requires c.args.shard.0 c.args.cut.0 c.args.stamped c.args.until.0 c.in_err-check_terminal.field-0.0 c.in_err-check_terminal.ensures)

pub returns-then-not-has_room : goal.returns-then-not-has_room
unfolding contents
returns-then-not-has_room c =
    terminal_full c.args.ledger.now c.requires c.args.shard.0 c.args.cut.0 c.args.stamped c.args.until.0 c.in_ok-check_terminal.ensures (sym c.has_room.ensures ∙ c.if-not-has_room.true)

pub file-requires : goal.file-requires
unfolding contents
file-requires c =
    room c.args.ledger.now c.requires c.args.shard.0 c.args.cut.0 c.args.stamped c.args.until.0 c.in_ok-check_terminal.ensures (sym c.has_room.ensures ∙ c.if-not-has_room.false)

pub returns : goal.returns
unfolding contents
returns c =
    terminal_filed c.args.ledger.now c.requires c.args.shard.0 c.args.cut.0 c.args.stamped c.args.until.0 c.in_ok-check_terminal.ensures (sym c.has_room.ensures ∙ c.if-not-has_room.false) _
    (rw (c.stamp_in-stamp.ensures, filed-words c.args.shard.0 c.args.cut.0 c.args.stamped c.args.until (on_file c.args.ledger.now.departures)) at c.file.ensures) _

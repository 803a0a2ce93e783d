-- A shard on file needs none.
use Rattle.std.proofs.Common.{◌∙◌, length, rules, tests}
use Rattle.lists.specs.Lists.{has}
use Rattle.rules.specs.Plain.{shard_of}
use Rattle.store.specs.Departures.{on_file}
use Rattle.store.proofs.Filed.{file-length}
use Rattle.calls.proofs.Departing.{room-known, room_new, stands_by, lacks_by}
use Rattle.calls.proofs.terminal.has_room.Goals as goal

pub returns-then-is_some : goal.returns-then-is_some
returns-then-is_some c =
    let l = on_file c.args.departures.now in
    c.if-is_some.true ∙ room-known (length l) (has shard_of c.args.shard.0 l) (stands_by l c.args.shard.0 c.find.result c.find.ensures (search (rules, tests)))

pub returns-else-is_some : goal.returns-else-is_some
returns-else-is_some c =
    let l = on_file c.args.departures.now in
    room_new c.args.departures.now.front.len (length l) (has shard_of c.args.shard.0 l) (lacks_by l c.args.shard.0 c.find.result c.find.ensures (search (rules, tests))) (file-length c.args.departures.now)

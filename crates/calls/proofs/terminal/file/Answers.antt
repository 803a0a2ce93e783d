-- The shard is put on file once, and stamped where there is a stamp.
use Rattle.std.proofs.Common.{◌∙◌, ap}
use Rattle.lists.specs.Lists.{change}
use Rattle.rules.specs.Plain.{shard_of}
use Rattle.rules.specs.Calls.{stamped}
use Rattle.calls.proofs.terminal.file.Goals as goal

pub returns-in_default : goal.returns-in_default
returns-in_default c = rw c.in_default.is c.depart.ensures

pub returns-in-Some : goal.returns-in-Some
returns-in-Some c =
    rw c.in-Some.is (record { file = c.stamp.ensures.file ∙ ap (change shard_of c.args.shard.0 (stamped c.in-Some.until.0)) c.depart.ensures.file })

-- What is kept of a rising list rises.
use Rattle.std.proofs.Common.{◌∙◌, ap, take, map}
use Rattle.lists.specs.Front.{held}
use Rattle.lists.proofs.Distinct.{map-keep_by}
use Rattle.rules.specs.Plain.{shard_of}
use Rattle.store.specs.Departures.{on_file, plain_departure}
use Rattle.store.proofs.Kept.{kept_rises}
use Rattle.store.proofs.departures.Departures.retain.Goals as goal

pub returns : goal.returns
returns c =
    let a = c.args in
    record {
      file = ap (map plain_departure) c.retain.ensures.list ∙ map-keep_by plain_departure (take a.self.front.len a.stay) (held a.self.front);
    }

pub invariant_of-x : goal.invariant_of-x
invariant_of-x c =
    let a = c.args in
    record { rising = rw (c.retain.ensures.list, map-keep_by plain_departure (take a.self.front.len a.stay) (held a.self.front)) (kept_rises shard_of (take a.self.front.len a.stay) (on_file a.self) a.self.rising) }

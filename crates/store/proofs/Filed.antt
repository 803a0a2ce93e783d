-- How many departures are on file, and how many counts there are.
-- Assumes nothing.
use mathlib.Core.Path.{◌≡◌}
use lib.ListN.{length}
use Rattle.lists.proofs.Held.{mapped-length}
use Rattle.store.specs.Departures.{on_file, plain_departure}
use Rattle.store.specs.Counts.{counts_in, plain_count}
use Rattle.store.specs.declared.departures.Departures.{Departures}
use Rattle.store.specs.declared.counts.Counts.{Counts}

pub file-length : (x : Departures) → length (on_file x) ≡ x.front.len
file-length x = mapped-length x.front plain_departure

pub counts-length : (x : Counts) → length (counts_in x) ≡ x.front.len
counts-length x = mapped-length x.front plain_count

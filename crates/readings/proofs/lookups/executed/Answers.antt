-- The closure's test is the rule's.
use Rattle.std.proofs.Common.{rules, tests}
use Rattle.rules.specs.Readings.{is_executed}
use Rattle.entry.specs.Entry.{plain_entry}
use Rattle.readings.proofs.lookups.executed.Goals as goal

pub returns : goal.returns
unfolding plain_entry
returns c = c.look_up.ensures is_executed (λ e b k. search (rules, tests))

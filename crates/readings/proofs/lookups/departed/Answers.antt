-- The closure's test is the rule's.
use Rattle.std.proofs.Common.{rules, tests}
use Rattle.rules.specs.Plain.{is_named}
use Rattle.entry.specs.Entry.{plain_entry}
use Rattle.readings.proofs.lookups.departed.Goals as goal

pub returns : goal.returns
unfolding plain_entry
returns c = c.look_up.ensures is_named (λ e b k. search (rules, tests))

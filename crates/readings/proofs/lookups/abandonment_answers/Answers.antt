-- The closure's test is the rule's.
use Rattle.std.proofs.Common.{rules, tests}
use Rattle.rules.specs.Readings.{abandonment_answers}
use Rattle.entry.specs.Entry.{plain_entry}
use Rattle.readings.proofs.lookups.abandonment_answers.Goals as goal

pub returns : goal.returns
unfolding plain_entry
returns c = c.look_up.ensures abandonment_answers (λ e b k. search (rules, tests))

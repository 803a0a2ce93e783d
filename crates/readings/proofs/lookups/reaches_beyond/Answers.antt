-- The closure's test is the rule's.
use Rattle.std.proofs.Common.{rules, tests}
use Rattle.lists.specs.Lists.{filled}
use Rattle.rules.specs.Plain.{remote}
use Rattle.ledger.specs.Contents.{contents}
use Rattle.entry.specs.Entry.{plain_entry}
use Rattle.readings.proofs.lookups.reaches_beyond.Goals as goal

pub returns : goal.returns
unfolding plain_entry contents
returns c = c.look_up.ensures (λ e. filled (remote c.args.ledger.now.local.0 e.terms)) (λ e b k. search (rules, tests))

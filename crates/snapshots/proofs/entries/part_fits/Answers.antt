-- The entry that the admission takes in tells what fits.
use Rattle.std.proofs.Common.{◌∙◌}
use Rattle.entry.specs.Entry.{plain_entry}
use Rattle.snapshots.proofs.Fitting.{whole-fits, leg-fits, core-fits, remainder-fits}
use Rattle.snapshots.proofs.entries.part_fits.Goals as goal

pub returns-in-Whole : goal.returns-in-Whole
returns-in-Whole c = rw c.in-Whole.is (c.is_bare.ensures ∙ whole-fits c.args.words.now c.requires.0 c.args.local.0)

pub returns-in-Leg : goal.returns-in-Leg
unfolding plain_entry
returns-in-Leg c = rw c.in-Leg.is (c.is_leg.ensures ∙ leg-fits c.args.words.now c.requires.0 c.args.local.0 c.args.e.now c.requires.1)

pub returns-in-Core : goal.returns-in-Core
unfolding plain_entry
returns-in-Core c = rw c.in-Core.is (c.is_core.ensures ∙ core-fits c.args.words.now c.requires.0 c.args.local.0 c.args.e.now c.requires.1)

pub returns-in-Remainder : goal.returns-in-Remainder
returns-in-Remainder c = rw c.in-Remainder.is (c.is_owing_core.ensures ∙ remainder-fits c.args.words.now c.requires.0 c.args.local.0 c.args.e.now c.requires.1)

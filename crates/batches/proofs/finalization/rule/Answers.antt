-- The ruling is by the line's code, and by what is asked of the entry.
use Rattle.std.proofs.Common.{◌∙◌, ap₂}
use Rattle.entry.specs.Entry.{plain_entry}
use Rattle.batches.specs.Rulings.{ruled_by}
use Rattle.batches.proofs.finalization.rule.Goals as goal

pub returns : goal.returns
unfolding plain_entry
returns c = c.decide.ensures ∙ ap₂ (ruled_by c.args.line.code) c.is_open-open.ensures c.is_owing-owing.ensures

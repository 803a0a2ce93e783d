-- The index holds the pairs that the entries give.
use Rattle.std.proofs.Common.{ap, ◌∙◌}
use Rattle.rules.specs.Index.{names}
use Rattle.types.specs.Transactions.{number_of}
use Rattle.readings.proofs.Looked.{says}
use Rattle.readings.proofs.lookups.issued_by.Goals as goal

pub returns : goal.returns
returns c = says _ _ _ _ c.from.ensures (c.names.ensures ∙ ap (λ l. names l c.args.r.0 (number_of c.args.tx)) c.requires.issuers.pairs)

-- Where an item is refused, only the copy was changed.
use Rattle.std.specs.Prelude.{Err}
use Rattle.std.proofs.Common.{◌≡◌, rules}
use Rattle.bundles.proofs.Joined.{undone}
use Rattle.bundles.proofs.bundle.Goals as goal

pub returns-in_err-counts : goal.returns-in_err-counts
returns-in_err-counts c =
    let said : c.from_residual.result ≡ Err c.in_err-counts.field-0.0 = search rules in
    rw said (undone c.args.words.now c.in_err-counts.field-0.0 c.args.ledger.now _ c.requires c.in_err-counts.ensures)

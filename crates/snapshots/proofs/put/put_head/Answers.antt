-- The counts, and the transaction with the figures behind it.
use Rattle.std.proofs.Common.{◌≡◌, ◌∙◌, ◌∷◌, ◌++◌, [], ap, min}
use Rattle.rules.specs.Words.{transaction_words}
use Rattle.types.specs.Transactions.{number_of}
use Rattle.rules.specs.Snapshot.{decomposed_word}
use Rattle.entry.specs.Entry.{plain_part, plain_entry}
use Rattle.snapshots.proofs.Fields.{routes-length, core-length, edges-count, decomposed-is}
use Rattle.snapshots.proofs.Putting.{as_row, both}
use Rattle.snapshots.proofs.put.put_head.Goals as goal

pub returns : goal.returns
unfolding plain_entry
returns c =
    let e = c.args.e.now in
    let part : c.min-decomposed.result ≡ decomposed_word (plain_part e.part) = c.min-decomposed.ensures ∙ ap (λ k. min k 1) c.number.ensures ∙ decomposed-is e.part in
    rw (routes-length e, core-length e, edges-count e, ← part)
    (both c.put-from.ensures
    (as_row (transaction_words (number_of e.tx) ++ (e.at.0 ∷ e.end.0 ∷ e.anchor.0 ∷ e.charge ∷ c.min-decomposed.result ∷ [])) _ _ c.put-from.result c.put_item.ensures))

-- The two tests of the rule, the second where the first passes.
use Rattle.std.proofs.Common.{◌≡◌, ◌∙◌, sym, true, false}
use Rattle.rules.specs.Plain.{is_core}
use Rattle.entry.specs.Entry.{plain_entry, plain_part}
use Rattle.batches.proofs.finalization.is_owing.Goals as goal

pub returns-then-is_core : goal.returns-then-is_core
unfolding plain_entry
returns-then-is_core c =
    let part : is_core (plain_part c.args.e.now.part) ≡ true = sym c.is_core.ensures ∙ c.if-is_core.true in
    rw part c.owes.ensures

pub returns-else-is_core : goal.returns-else-is_core
unfolding plain_entry
returns-else-is_core c =
    let part : is_core (plain_part c.args.e.now.part) ≡ false = sym c.is_core.ensures ∙ c.if-is_core.false in
    rw part c.if-is_core.false

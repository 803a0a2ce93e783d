-- The cell is compared as the joined keys are.
use Rattle.std.proofs.Common.{rules, tests, sym, ◌∙◌, take}
use Rattle.std.proofs.lemmas.Iterator.{YieldsList-from_slice}
use Rattle.std.proofs.lemmas.Iterator.Search.{any_from_yields_List}
use Rattle.entry.specs.Entry.{plain_entry}
use Rattle.lists.specs.Lists.{at}
use Rattle.lists.proofs.Keep.{any-map}
use Rattle.rules.specs.Plain.{absence_key}
use Rattle.entry.specs.Entry.{absence, plain_absence}
use Rattle.entry.proofs.Entry.is_read.Goals as goal

pub returns : goal.returns
unfolding plain_entry
returns c =
    let a = c.args in
    let k = absence_key (absence a.shard.0 a.key) in
    let l = take a.self.now.absences_len a.self.now.absences in
    any_from_yields_List (λ x. at absence_key k (plain_absence x)) c.any.new.self _ _ c.any.ensures.ran (YieldsList-from_slice l cc) (λ x b q h. search (rules, tests))
    ∙ sym (any-map plain_absence (at absence_key k) l)

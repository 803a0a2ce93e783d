-- Each is tested against the next.
use Rattle.std.proofs.Common.{ℕ, rules, tests, ltb}
use Rattle.std.proofs.lemmas.Fn.{always_returns_same}
use Rattle.lists.proofs.Cuts.{rises_by}
use Rattle.rules.specs.Plain.{absence_key}
use Rattle.entry.specs.Entry.{plain_absence}
use Rattle.entry.specs.declared.Absence.{Absence}
use Rattle.snapshots.proofs.history.rise.Goals as goal

abbrev key : Absence → ℕ
key a = absence_key (plain_absence a)

pub returns : goal.returns
returns c = rises_by key c.args.s.now _ (c.is_sorted_by.ensures.cases (λ x y. ltb (key x) (key y)) (always_returns_same _ _ _ (λ a r k q. search (rules, tests))))

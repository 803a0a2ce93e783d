-- The numbers are the departure's, and no shard is 0.
use Rattle.std.proofs.Common.{◌≡◌, rules, tests, refl, sym, ◌∙◌}
use Rattle.entry.specs.Entry.{plain_entry}
use Rattle.judge.proofs.Seeing.{named-holds, other_holds}
use Rattle.judge.proofs.routes.needs.Goals as goal

pub returns-then-eq : goal.returns-then-eq
unfolding plain_entry
returns-then-eq c d good es ez ec =
    let same : c.args.e.now.departed_by.0 ≡ c.args.x.shard.0 = search (rules, tests) in
    c.if-eq.true ∙ named-holds c.args.local.0 d (plain_entry c.args.e.now) good (same ∙ es)

pub returns-else-eq : goal.returns-else-eq
unfolding plain_entry
returns-else-eq c d good es ez ec =
    let other : c.args.e.now.departed_by.0 ≡ c.args.x.shard.0 → ⊥ = search (rules, tests) in
    other_holds c.args.local.0 d (plain_entry c.args.e.now) _ (λ h. other (h ∙ sym es))
    (c.covers_some.ensures d (plain_entry c.args.e.now) good es ez ec (record { routes = refl; anchor = refl }))

-- The tests are those of the rules in the paper's order, and each verdict is that of its rule.
use Rattle.std.proofs.Common.{◌≡◌, ◌+◌, refl, sym, ap, ◌∙◌, subst, false, true, ltb, rules, tests}
use Rattle.entry.specs.Entry.{plain_entry}
use Rattle.rules.specs.Prune.{settling, recorded, stands_by}
use Rattle.judge.specs.declared.verdicts.Verdict.TheVariants.{Falls, Reported}
use Rattle.judge.specs.Verdict.{Says, unless}
use Rattle.judge.proofs.Judging.{rule_1, rule_2, rule_3, rule_4_or_5, says_quiet, says_reported, says-routes}
use Rattle.judge.proofs.verdicts.judge.Goals as goal

pub returns-then-is_awaiting : goal.returns-then-is_awaiting
returns-then-is_awaiting c p faces =
    let s = c.args in
    let e = plain_entry s.e.now in
    ap (λ r. stands_by r p s.time.0 e) (rule_1 p.local e (sym c.is_awaiting.ensures ∙ c.if-is_awaiting.true))

pub returns-then-by_window : goal.returns-then-by_window
unfolding plain_entry
returns-then-by_window c p faces =
    let s = c.args in
    let e = plain_entry s.e.now in
    let fits = rule_2 p.local e (sym c.is_awaiting.ensures ∙ c.if-is_awaiting.false) (sym c.is_settling-settles.ensures ∙ c.if-by_window.true) in
    let same = c.unless.ensures ∙ ap (unless Falls) c.is_before.ensures ∙ ap (λ m. unless Falls (ltb s.time.0 (s.e.now.end.0 + m))) (sym faces.leg_span) in
    subst (λ v. Says v p s.time.0 e) (sym same) (says_quiet p s.time.0 e settling fits refl)

pub returns-then-named : goal.returns-then-named
unfolding plain_entry
returns-then-named c p faces =
    let s = c.args in
    let e = plain_entry s.e.now in
    let named : ltb 0 s.e.now.departed_by.0 ≡ true = search (rules, tests) in
    let fits = rule_3 p.local e (sym c.is_awaiting.ensures ∙ c.if-is_awaiting.false) (sym c.is_settling-settles.ensures ∙ c.if-by_window.false) named in
    let same = c.unless-then-named.ensures ∙ ap (unless (Reported 1)) (c.has_readable.ensures p.departures s.time.0 e faces.view refl named) in
    subst (λ v. Says v p s.time.0 e) (sym same) (says_reported p s.time.0 e recorded fits refl)

pub returns : goal.returns
unfolding plain_entry
returns c p faces =
    let s = c.args in
    let e = plain_entry s.e.now in
    let unnamed : ltb 0 s.e.now.departed_by.0 ≡ false = search (rules, tests) in
    let fits = rule_4_or_5 p.local e (sym c.is_awaiting.ensures ∙ c.if-is_awaiting.false) (sym c.is_settling-settles.ensures ∙ c.if-by_window.false) unnamed in
    subst (λ v. Says v p s.time.0 e) (sym (c.by_routes.ensures p s.leg_span faces)) (says-routes p s.time.0 e fits)

-- The two tests are rule 4's.
use Rattle.std.proofs.Common.{◌≡◌, ◌∙◌, refl, sym, ap, true, false, ltb, rules, tests}
use Rattle.judge.specs.declared.verdicts.Verdict.TheVariants.{Falls}
use Rattle.judge.specs.Verdict.{unless}
use Rattle.entry.specs.Entry.{plain_entry, certificate_number}
use Rattle.judge.proofs.Judging.{by_answering, by_no_certificate, by_no_remote}
use Rattle.judge.proofs.verdicts.by_routes.Goals as goal
use Rattle.judge.proofs.verdicts.by_routes.Goals.{else-ne-via-then-ne+else-reaches_beyond, else-ne-via-else-ne}

pub returns-then-reaches_beyond : goal.returns-then-reaches_beyond
unfolding plain_entry
returns-then-reaches_beyond c p l faces =
    let s = c.args in
    let e = plain_entry s.e.now in
    let certified : ltb 0 (certificate_number s.e.now.certified) ≡ true = search (rules, tests) in
    let beyond = sym c.reaches_beyond.ensures ∙ c.if-reaches_beyond.true in
    let over_by = c.is_answerable.ensures p.departures s.time.0 e faces.view (record { routes = refl; anchor = refl }) in
    c.unless.ensures ∙ by_answering p s.time.0 e s.local.0 faces.local _ certified beyond over_by

pub returns : goal.returns
unfolding plain_entry
returns c p l faces =
    let s = c.args in
    let e = plain_entry s.e.now in
    c.unless-2.ensures ∙ ap (unless Falls) c.is_before.ensures
    ∙ elim c.else-ne.branch [
      | else-ne-via-then-ne+else-reaches_beyond w ↦ by_no_remote p s.time.0 e s.local.0 faces.local s.validity faces.validity (sym w.reaches_beyond.ensures ∙ w.if-reaches_beyond.false)
      | else-ne-via-else-ne w ↦
          let none : ltb 0 (certificate_number s.e.now.certified) ≡ false = search (rules, tests) in
          by_no_certificate p s.time.0 e s.local.0 faces.local s.validity faces.validity none
    ]

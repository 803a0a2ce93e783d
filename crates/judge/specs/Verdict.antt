-- What a verdict says of an entry of the plain ledger at a clock.
use Rattle.std.specs.Prelude.{ℕ, ◌≡◌, Bool, true, false, cond, ◌&&◌, ltb}
use Rattle.lists.specs.Lists.{filled}
use Rattle.rules.specs.Plain.{Entry, Plain, remote}
use Rattle.rules.specs.Prune.{answering, expiring, rule_of, stands, stands_by, is_reported, covered_by}
use Rattle.judge.specs.View.{Shows}
use Rattle.judge.specs.declared.views.View.{View}
use Rattle.judge.specs.declared.verdicts.Verdict.{Verdict}
use Rattle.judge.specs.declared.verdicts.Verdict.TheVariants.{Stands, Falls, Reported}

-- Stands: it stands. Falls: it falls and nothing is reported. Reported: it falls, and the report says covered.
abbrev pub Says : Verdict → Plain → ℕ → Entry → Type 0
Says Stands p now e = stands p now e ≡ true
Says Falls p now e = (stands p now e ≡ false) × (is_reported (rule_of p.local e) ≡ false)
Says (Reported covered) p now e =
    (stands p now e ≡ false) × (is_reported (rule_of p.local e) ≡ true) × (covered_by (rule_of p.local e) ≡ covered)

-- the plain ledger has this local and these spans, and the view shows its departures
pub record Faces (p : Plain) (now home v l : ℕ) (w : View) : Type 0 where
  pub local : p.local ≡ home
  pub validity : p.validity ≡ v
  pub leg_span : p.leg_span ≡ l
  pub view : Shows p.departures now w

-- standing, or else this fall
abbrev pub unless : Verdict → Bool → Verdict
unless v true = Stands
unless v false = v

-- the verdict by rule 4 if it fits, else by rule 5
abbrev pub by_routes : Plain → ℕ → Entry → Verdict
by_routes p now e =
    cond (ltb 0 e.certificate && filled (remote p.local e.terms))
    (unless (Reported 0) (stands_by answering p now e))
    (unless Falls (stands_by expiring p now e))

-- what is said of an entry in every ledger that faces this view: by rules 4 and 5 alone, and by all five
abbrev pub RuledByRoutes : View → ℕ → ℕ → ℕ → Entry → Verdict → Type 0
RuledByRoutes v now home validity e r = (p : Plain) (leg_span : ℕ) → Faces p now home validity leg_span v → r ≡ by_routes p now e

abbrev pub Judged : View → ℕ → ℕ → ℕ → ℕ → Entry → Verdict → Type 0
Judged v now home validity leg_span e r = (p : Plain) → Faces p now home validity leg_span v → Says r p now e

-- Which rule is the first that fits, by the tests in turn, and what the verdict by a rule says.
-- Assumes nothing.
use Prim.Native.Nat.{ℕ, ◌+◌}
use mathlib.Core.Path.{◌≡◌, refl, sym, ap, ◌∙◌}
use mathlib.Core.Bool.{Bool, true, false, cond, ◌&&◌, ◌||◌}
use lib.Dec.{ltb}
use Rattle.lists.specs.Lists.{filled}
use Rattle.lists.proofs.Tests.{and_false}
use Rattle.rules.specs.Plain.{Entry, Plain, is_core, is_settling, is_named, remote}
use Rattle.rules.specs.Prune.{Rule, awaiting, settling, recorded, answering, expiring, rule_of, stands, stands_by, is_reported, covered_by}
use Rattle.judge.specs.Answers.{is_answerable}
use Rattle.judge.specs.declared.verdicts.Verdict.TheVariants.{Falls, Reported}
use Rattle.judge.specs.Verdict.{Says, unless, by_routes}

-- the tests of rules 1 to 4
abbrev pub first_test : Entry → Bool
first_test e = is_core e.part && ltb e.certificate 2

abbrev pub second_test : Entry → Bool
second_test e = is_settling e.part || filled e.absences

abbrev pub fourth_test : ℕ → Entry → Bool
fourth_test local e = ltb 0 e.certificate && filled (remote local e.terms)

module _ (local : ℕ) (e : Entry) where
  pub rule_1 : first_test e ≡ true → rule_of local e ≡ awaiting
  unfolding rule_of
  rule_1 t = rw t

  module _ (n₁ : first_test e ≡ false) where
    pub rule_2 : second_test e ≡ true → rule_of local e ≡ settling
    unfolding rule_of
    rule_2 t = rw (n₁, t)

    module _ (n₂ : second_test e ≡ false) where
      pub rule_3 : is_named e ≡ true → rule_of local e ≡ recorded
      unfolding rule_of
      rule_3 t = rw (n₁, n₂, t)

      pub rule_4_or_5 : is_named e ≡ false → rule_of local e ≡ cond (fourth_test local e) answering expiring
      unfolding rule_of
      rule_4_or_5 t = rw (n₁, n₂, t)

module _ (p : Plain) (now : ℕ) (e : Entry) where
  module _ (rule : Rule) (fits : rule_of p.local e ≡ rule) where
    by_rule : (b : Bool) → stands_by rule p now e ≡ b → stands p now e ≡ b
    by_rule b h = ap (λ r. stands_by r p now e) fits ∙ h

    pub says_quiet : is_reported rule ≡ false → Says (unless Falls (stands_by rule p now e)) p now e
    says_quiet silent = go (stands_by rule p now e) refl
      where
        go : (b : Bool) → stands_by rule p now e ≡ b → Says (unless Falls b) p now e
        go true h = by_rule true h
        go false h = (by_rule false h, ap is_reported fits ∙ silent)

    pub says_reported : is_reported rule ≡ true → Says (unless (Reported (covered_by rule)) (stands_by rule p now e)) p now e
    says_reported loud = go (stands_by rule p now e) refl
      where
        go : (b : Bool) → stands_by rule p now e ≡ b → Says (unless (Reported (covered_by rule)) b) p now e
        go true h = by_rule true h
        go false h = (by_rule false h, ap is_reported fits ∙ loud, ap covered_by fits)

  pub says-routes : rule_of p.local e ≡ cond (fourth_test p.local e) answering expiring → Says (by_routes p now e) p now e
  says-routes fits = go (fourth_test p.local e) fits
    where
      go : (b : Bool) → rule_of p.local e ≡ cond b answering expiring → Says (cond b (unless (Reported 0) (stands_by answering p now e)) (unless Falls (stands_by expiring p now e))) p now e
      go true h = says_reported answering h refl
      go false h = says_quiet expiring h refl

  -- by routes: rule 4 where an entry has a certificate and a remote route, else rule 5
  module _ (home : ℕ) (local : p.local ≡ home) where
    pub by_answering : (b : Bool) → ltb 0 e.certificate ≡ true → filled (remote home e.terms) ≡ true → b ≡ is_answerable now p.departures home e → unless (Reported 0) b ≡ by_routes p now e
    by_answering b c f h =
        ap (unless (Reported 0)) (h ∙ ap (λ m. is_answerable now p.departures m e) (sym local))
        ∙ pick (fourth_test p.local e) (rw c (ap (λ m. filled (remote m e.terms)) local ∙ f))
      where
        pick : (b : Bool) → b ≡ true → unless (Reported 0) (stands_by answering p now e) ≡ cond b (unless (Reported 0) (stands_by answering p now e)) (unless Falls (stands_by expiring p now e))
        pick b h = rw h

    by_expiring : (v : ℕ) → p.validity ≡ v → fourth_test p.local e ≡ false → unless Falls (ltb now (e.terms.at + v)) ≡ by_routes p now e
    by_expiring v h t = ap (λ m. unless Falls (ltb now (e.terms.at + m))) (sym h) ∙ pick (fourth_test p.local e) t
      where
        pick : (b : Bool) → b ≡ false → unless Falls (stands_by expiring p now e) ≡ cond b (unless (Reported 0) (stands_by answering p now e)) (unless Falls (stands_by expiring p now e))
        pick b h = rw h

    pub by_no_certificate : (v : ℕ) → p.validity ≡ v → ltb 0 e.certificate ≡ false → unless Falls (ltb now (e.terms.at + v)) ≡ by_routes p now e
    by_no_certificate v h c = by_expiring v h (rw c)

    pub by_no_remote : (v : ℕ) → p.validity ≡ v → filled (remote home e.terms) ≡ false → unless Falls (ltb now (e.terms.at + v)) ≡ by_routes p now e
    by_no_remote v h f =
        by_expiring v h (ap (λ b. ltb 0 e.certificate && b) (ap (λ m. filled (remote m e.terms)) local ∙ f) ∙ and_false (ltb 0 e.certificate))

-- A number above what is left: all are more than n. At the end they are n just where nothing is left.
use Rattle.std.proofs.Common.{ℕ, ◌≡◌, ◌+◌, ◌∙◌, Bool, true, false, refl, sym, ap, drop, arith, eqb, eq-eqb, ne_eqb, eqb-true, rules}
use Rattle.std.proofs.lemmas.Bool.{eqb-false}
use Rattle.lists.specs.Lists.{total, self}
use Rattle.lists.proofs.Cuts.{rest-none, total_more, fails}
use Rattle.lists.proofs.slices.adds_up.Goals as goal

pub loop-k-init : goal.loop-k-init
loop-k-init c = omega arith

pub returns-in_default : goal.returns-in_default
returns-in_default c =
    let l = c.loop-k in
    let s = c.args.s.now in
    fails _ (λ q. c.in_default.ensures (omega (arith, total_more self 0 s 0 l.k-index (search rules), l.invariant, eqb-true _ _ q)))

pub loop-k-preserved : goal.loop-k-preserved
loop-k-preserved c =
    let l = c.loop-k in
    let e = c.in-Some.ensures in
    omega (arith, total_more self 0 c.args.s.now 0 l.k-index (search rules), l.invariant, e.0, e.1)

-- with nothing to come, what is left is nothing just where all are n
even : (n rest all : ℕ) → n ≡ rest + all → eqb rest 0 ≡ eqb n all
even n rest all e = go (eqb rest 0) refl
  where
    go : (b : Bool) → eqb rest 0 ≡ b → eqb rest 0 ≡ eqb n all
    go true q = q ∙ sym (eq-eqb n all (omega (arith, e, eqb-true rest 0 q)))
    go false q = q ∙ sym (ne_eqb n all (λ r. eqb-false rest 0 q (omega (arith, e, r))))

pub returns : goal.returns
returns c =
    let l = c.loop-k in
    let s = c.args.s.now in
    let none : total self (drop l.k-index s) ≡ 0 = ap (total self) (rest-none s l.k-index (search rules)) in
    even _ _ _ (omega (arith, none, l.invariant))

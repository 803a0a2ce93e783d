-- A restored ledger is one that a list of calls makes of a fresh one, so what is claimed of it is claimed of the fresh one with these calls in
-- front. Assumes nothing.
use Prim.Native.Nat.{ℕ, zero, suc}
use mathlib.Core.Path.{◌≡◌, refl, sym, ap, ◌∙◌}
use mathlib.Core.List.{List, [], ◌∷◌, ◌++◌}
use Rattle.lists.specs.Lists.{Every}
use Rattle.rules.specs.Numbers.{is_word}
use Rattle.rules.specs.Plain.{Plain}
use Rattle.rules.specs.Calls.{Call, step, run}
use Rattle.rules.specs.Good.{Holds}
use Rattle.rules.specs.Snapshot.{restoring}
use Rattle.rules.proofs.Restored.{exact}
use Rattle.ledger.specs.Meets.{written}
use Rattle.claim.specs.declared.RunAndPruned.{RunAndPruned}
use Rattle.claim.specs.Calls.{lent_after}
use Rattle.claim.specs.Claim.{Lent, lent, Claim}
use Rattle.claim.specs.Restored.{Before, fresh, AsBefore}

-- first some calls, then the others
run-both : (a b : List Call) (p : Plain) → run (a ++ b) p ≡ run b (run a p)
run-both [] b p = refl
run-both (c ∷ a) b p = run-both a b (step c p).ledger

lent_both : (a b : List Call) (p : Plain) (list : List ℕ) → lent_after (a ++ b) p list ≡ lent_after b (run a p) (lent_after a p list)
lent_both [] b p list = refl
lent_both (c ∷ a) b p list = lent_both a b (step c p).ledger (written (step c p).words list)

-- the claim from what some calls leave, of the list as they leave it
pub in_front : (p q : Plain) (before calls : List Call) (clocks : List ℕ) (k : ℕ) (list is : List ℕ) (report_list count_list : Lent) (r : RunAndPruned) → run before p ≡ q →
    Claim q calls clocks k (lent (lent_after before p list) is) report_list count_list r →
    Claim p (before ++ calls) clocks k (lent list is) report_list count_list r
in_front p q before calls clocks k list is report_list count_list r e c =
    let both : run calls q ≡ run (before ++ calls) p = ap (run calls) (sym e) ∙ sym (run-both before calls p) in
    record {
      listed = rw both at c.listed;
      wrote = c.wrote ∙ ap (λ s. lent_after calls s (lent_after before p list)) (sym e) ∙ sym (lent_both before calls p list);
      made = c.made;
      in_turn = rw both at c.in_turn;
      as_one = λ some. rw both at (c.as_one some);
      no_prune = c.no_prune;
    }

-- words that are accepted are written of a ledger that calls reach, and restore it; words that are refused restore what a refused making makes
reached_before : (ws : List ℕ) → Every (Holds is_word) ws → Before ws
reached_before ws words = go (restoring ws).refused refl
  where
    go : (n : ℕ) → (restoring ws).refused ≡ n → Before ws
    go zero e =
        let w = exact.accepts ws (words, e) in
        let p = w.ledger in
        let back : (restoring ws).ledger ≡ p = ap (λ vs. (restoring vs).ledger) (sym w.words) ∙ exact.read_back p w.reached in
        record {
          local = p.local;
          validity = p.validity;
          core_span = p.core_span;
          leg_span = p.leg_span;
          calls = w.reached.calls;
          words = w.reached.words;
          leads = w.reached.leads ∙ sym back;
        }
    go (suc n) e =
        record {
          local = 0;
          validity = 0;
          core_span = 0;
          leg_span = 0;
          calls = [];
          words = tt;
          leads = sym (exact.refused ws n e);
        }

pub as_before : (ws : List ℕ) → Every (Holds is_word) ws → AsBefore ws
as_before ws words =
    let b = reached_before ws words in
    record {
      before = b;
      claim = λ list is calls clocks k report_list count_list r c. in_front (fresh b) (restoring ws).ledger b.calls calls clocks k list is report_list count_list r b.leads c;
    }

-- What words restore, as a list of calls makes it of a fresh ledger, and what the claim from there says of the whole list.
use Rattle.std.specs.Prelude.{ℕ, ◌≡◌, List, ◌++◌}
use Rattle.lists.specs.Lists.{Every}
use Rattle.rules.specs.Plain.{Plain}
use Rattle.rules.specs.Calls.{Call, making, run}
use Rattle.rules.specs.Good.{OfWords}
use Rattle.rules.specs.Snapshot.{restoring}
use Rattle.claim.specs.declared.RunAndPruned.{RunAndPruned}
use Rattle.claim.specs.Calls.{lent_after}
use Rattle.claim.specs.Claim.{Lent, lent, Claim}

-- a making and the calls after it that leave what the words restore; of words that are refused the making is, and no call follows
pub record Before (ws : List ℕ) : Type 0 where
  pub local : ℕ
  pub validity : ℕ
  pub core_span : ℕ
  pub leg_span : ℕ
  pub calls : List Call
  pub words : Every OfWords calls
  pub leads : run calls (making local validity core_span leg_span).ledger ≡ (restoring ws).ledger

-- the ledger that the making hands back
abbrev pub fresh : {ws : List ℕ} → Before ws → Plain
fresh b = (making b.local b.validity b.core_span b.leg_span).ledger

-- The claim from what the words restore is the claim from the fresh ledger with those calls in front: whatever list they were lent, the restored
-- ledger's calls have it as they left it.
pub record AsBefore (ws : List ℕ) : Type 0 where
  pub before : Before ws
  pub claim :
      (list is : List ℕ) (calls : List Call) (clocks : List ℕ) (k : ℕ) (report_list count_list : Lent) (r : RunAndPruned) →
      Claim (restoring ws).ledger calls clocks k (lent (lent_after before.calls (fresh before) list) is) report_list count_list r →
      Claim (fresh before) (before.calls ++ calls) clocks k (lent list is) report_list count_list r

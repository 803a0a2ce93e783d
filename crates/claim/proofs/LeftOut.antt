-- The program, run on calls with prunes among them and run on the same calls without those, leaves the same ledger after a prune at the last
-- clock, where the rules say that the prunes do not show; and so do two runs on the same calls with different prunes.
-- Assumes nothing.
use Prim.Native.Nat.{ℕ}
use mathlib.Core.Path.{◌≡◌, sym, ◌∙◌}
use mathlib.Core.List.{List, [], ◌∷◌}
use native.Mathlib.Omega.{arith}
use Rattle.rules.specs.Plain.{Plain}
use Rattle.rules.specs.Prune.{pruned}
use Rattle.rules.specs.Calls.{Call, run}
use Rattle.ledger.specs.Contents.{contents}
use Rattle.std.specs.Prelude.{Some}
use Rattle.claim.specs.declared.RunAndPruned.{RunAndPruned}
use Rattle.claim.specs.declared.series.PrunedAll.{PrunedAll}
use Rattle.claim.specs.Claim.{Lent, Claim}

-- two runs of the program, each with its own calls, both pruned at u
module _ (p : Plain) (cs ds : List Call) (u k k' : ℕ) (l l' r r' c c' : Lent) (x y : RunAndPruned) where
  pub same_after : Claim p cs (u ∷ []) k l r c x → Claim p ds (u ∷ []) k' l' r' c' y → (a b : PrunedAll) → x.pruned ≡ Some a → y.pruned ≡ Some b →
      pruned u (run cs p) ≡ pruned u (run ds p) → contents a.after ≡ contents b.after
  same_after v w a b m n e = (rw m at v.as_one (omega arith)).left.fields ∙ e ∙ sym (rw n at w.as_one (omega arith)).left.fields

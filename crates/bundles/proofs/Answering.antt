-- What an item answers: one number at most, and no more than 48.
-- Assumes nothing.
use Prim.Native.Nat.{ℕ, zero, suc, ◌+◌, ◌≤◌}
use mathlib.Core.Path.{◌≡◌, refl}
use mathlib.Core.Bool.{Bool, true, false, not}
use mathlib.Core.List.{List, [], ◌∷◌}
use native.Mathlib.Omega.{arith}
use lib.ListN.{get_or}
use Rattle.lists.specs.Lists.{total, self}
use Rattle.lists.proofs.Items.{tally-few}
use Rattle.rules.specs.Plain.{Plain, Absence, owed, entry_of}
use Rattle.rules.specs.Words.{Item, admission_terms, record_shard, record_groups, record_formed, finalization_lines, deciding, finalization_formed}
use Rattle.rules.specs.Entries.{rebuilt_by, rebuilt_of, with_group, released_by, released_of, with_line}
use Rattle.rules.specs.Outcome.{Outcome, done, unless, yes_no}
use Rattle.rules.specs.Calls.{admission_refusal, is_new, absence_refusal, abandonment_refusal, finalization_refusal, terminal_refusal, after_admission, after_absence, after_abandonment, after_finalization, after_terminal, after_item}
use Rattle.rules.proofs.Kept.{tested}
use Rattle.rules.proofs.Items.{by_item}
use Rattle.words.proofs.Groups.{recorded, groups_length}
use Rattle.words.proofs.Lines.{finalized, lines_length}
use Rattle.batches.proofs.Rebuilding.{one_rebuilt}
use Rattle.batches.proofs.Resolving.{one_released}

pub record Few (o : Outcome) : Type 0 where
  pub single : total self o.answers ≡ get_or o.answers 0 0
  pub small : get_or o.answers 0 0 ≤ 48

unless-few : (n : ℕ) (p : Plain) (o : Outcome) → (n ≡ 0 → Few o) → Few (unless n p o)
unless-few zero p o f = f refl
unless-few (suc n) p o f = record { single = refl; small = omega arith }

silent : (p : Plain) → Few (done [] p)
silent p = record { single = refl; small = omega arith }

one : (n : ℕ) (p : Plain) → n ≤ 48 → Few (done (n ∷ []) p)
one n p h = record { single = let z : n + 0 ≡ n = omega arith in z; small = h }

yes : (b : Bool) (p : Plain) → Few (done (yes_no b ∷ []) p)
yes true p = one 1 p (omega arith)
yes false p = one 0 p (omega arith)

-- each group rebuilds one at most, each line releases one at most
rebuilt-few : (ws : List ℕ) (p : Plain) → abandonment_refusal ws p ≡ 0 → rebuilt_by (record_shard ws) (record_groups ws) p.entries ≤ 48
rebuilt-few ws p e =
    let f = (tested (record_formed ws) 4 _ e).0 in
    omega (
      arith,
      recorded ws f,
      groups_length ws f,
      tally-few (with_group (record_shard ws)) rebuilt_of (record_groups ws) p.entries one_rebuilt (record_groups ws) p.entries,
    )

released-few : (ws : List ℕ) (p : Plain) → finalization_refusal ws ≡ 0 → released_by p.local (deciding ws) (finalization_lines ws) p.entries ≤ 48
released-few ws p e =
    let f = (tested (finalization_formed ws) 4 _ e).0 in
    omega (
      arith,
      finalized ws f,
      lines_length ws f,
      tally-few (with_line p.local (deciding ws)) (released_of p.local (deciding ws)) (finalization_lines ws) p.entries (one_released p.local (deciding ws)) (finalization_lines ws) p.entries,
    )

-- call by call
terminal-few : (shard cut is_stamped until : ℕ) (p : Plain) → Few (after_terminal shard cut is_stamped until p)
unfolding after_terminal
terminal-few shard cut is_stamped until p = unless-few (terminal_refusal shard cut is_stamped until p) p _ (λ e. silent _)

abandonment-few : (ws : List ℕ) (p : Plain) → Few (after_abandonment ws p)
unfolding after_abandonment
abandonment-few ws p = unless-few (abandonment_refusal ws p) p _ (λ e. one _ _ (rebuilt-few ws p e))

finalization-few : (ws : List ℕ) (p : Plain) → Few (after_finalization ws p)
unfolding after_finalization
finalization-few ws p = unless-few (finalization_refusal ws) p _ (λ e. one _ _ (released-few ws p e))

admission-few : (ws : List ℕ) (p : Plain) → Few (after_admission ws p)
unfolding after_admission
admission-few ws p = unless-few (admission_refusal ws p) p _ (λ e. yes (not (owed (admission_terms ws).transaction p)) _)

absence-few : (t : ℕ) (a : Absence) (p : Plain) → Few (after_absence t a p)
unfolding after_absence
absence-few t a p = unless-few (absence_refusal t a p) p _ (λ e. yes (is_new a (entry_of t p)) _)

pub item-few : (i : Item) (p : Plain) → Few (after_item i p)
item-few i p =
    by_item (λ c f. Few (f p)) i (terminal-few _ _ _ _ p) (abandonment-few i.words p) (finalization-few i.words p) (admission-few i.words p) (absence-few _ _ p) (finalization-few [] p)

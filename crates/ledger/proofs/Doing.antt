-- A loop over items that changes the ledger in hand: what is still to come does to it what all items do to the one handed in.
-- Assumes nothing.
use Prim.Native.Nat.{ℕ, ◌+◌, ◌≤◌}
use mathlib.Core.Path.{◌≡◌}
use mathlib.Core.List.{List, ◌∷◌}
use lib.ListN.{length, drop}
use Rattle.lists.specs.Lists.{through, tally}
use Rattle.lists.proofs.Items.{Through, before_first, one_more, after_last}
use Rattle.rules.specs.Plain.{Plain}
use Rattle.ledger.specs.declared.Ledger.{Ledger}
use Rattle.ledger.specs.Contents.{contents, Held, Became}

-- each item changes the plain ledger by f and counts by n
pub record Doing {A : Type 0} (f : A → Plain → Plain) (n : A → Plain → ℕ) (items : List A) (l₀ l : Ledger) (count i : ℕ) : Type 0 where
  pub held : Held l
  pub rest : Through f n items (contents l₀) (contents l) count i

module _ {A : Type 0} (f : A → Plain → Plain) (n : A → Plain → ℕ) (items : List A) (l₀ : Ledger) where
  pub nothing-done : Held l₀ → Doing f n items l₀ l₀ 0 0
  nothing-done h = record { held = h; rest = before_first f n items (contents l₀) }

  pub one_done : (l : Ledger) (count i : ℕ) → Doing f n items l₀ l count i → (x : A) → drop i items ≡ x ∷ drop (i + 1) items → (m : Ledger) → Became (f x (contents l)) m →
      (c : ℕ) → c ≡ n x (contents l) → Doing f n items l₀ m (count + c) (i + 1)
  one_done l count i v x e m b c k =
      record { held = b.held; rest = one_more f n items (contents l₀) (contents l) (contents m) count c i x v.rest e b.holds k }

  pub all_done : (l : Ledger) (count i : ℕ) → Doing f n items l₀ l count i → length items ≤ i →
      Became (through f items (contents l₀)) l × (count ≡ tally f n items (contents l₀))
  all_done l count i v h =
      let w = after_last f n items (contents l₀) (contents l) count i v.rest h in
      (record { held = v.held; holds = w.0 }, w.1)

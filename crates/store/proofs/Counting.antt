-- What counting some entries with a shard is, by whether the shard has a count.
-- Assumes nothing.
use Prim.Native.Nat.{ℕ, ◌≤◌, ◌<◌}
use mathlib.Core.Path.{◌≡◌, ap}
use mathlib.Core.Bool.{true, false}
use mathlib.Core.List.{List}
use native.Mathlib.Omega.{arith}
use borrow.Author.Tests.{ne_eqb, lt-ltb, leb-false}
use lib.ListN.{length}
use Rattle.lists.specs.Lists.{has, change, include}
use Rattle.rules.specs.Numbers.{max_counts, max_count}
use Rattle.rules.specs.Plain.{Count, counted_shard}
use Rattle.rules.specs.Calls.{raised, counted, no_count_for}

module _ (shard n : ℕ) (cs : List Count) (some : n ≡ 0 → ⊥) where
  pub raises : has counted_shard shard cs ≡ true → counted shard n cs ≡ change counted_shard shard (raised n) cs
  raises h = rw (ne_eqb n 0 some, h)

  pub opens : has counted_shard shard cs ≡ false → n ≤ max_count → counted shard n cs ≡ include counted_shard (record { shard = shard; rebuilt = n }) cs
  opens h few = rw (ne_eqb n 0 some, h) (ap (λ m. include counted_shard (record { shard = shard; rebuilt = m }) cs) (omega (arith, few)))

  pub count-room : has counted_shard shard cs ≡ false → no_count_for shard n cs ≡ false → length cs < max_counts
  count-room h room = omega (arith, leb-false max_counts (length cs) (rw (lt-ltb 0 n (omega (arith, some)), h) at room))

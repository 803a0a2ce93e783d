-- What a caller uses of a roster: its slots are distinct and within the room, and the first free one is none of them.
-- Assumes nothing.
use Prim.Native.Nat.{ℕ, ◌<◌}
use mathlib.Core.Path.{◌≡◌}
use mathlib.Core.Bool.{false}
use native.Mathlib.Omega.{arith}
use lib.ListN.{get_or}
use lib.Seq.{length-take-le}
use Rattle.lists.specs.Lists.{has, self}
use Rattle.lists.specs.Arrays.{place}
use Rattle.std.specs.Prelude.{Some}
use Rattle.lists.proofs.Distinct.{every_at, take_lacks}
use Rattle.lists.proofs.Loops.{located}
use Rattle.store.specs.Roster.{keys_of, slots_of, free_slot, is}
use Rattle.store.specs.declared.roster.Roster.{Roster}

pub free_slot_lem : (r : Roster) → r.len < 48 → (free_slot r < 48) × (has self (free_slot r) (slots_of r) ≡ false)
free_slot_lem r h = (
  every_at (λ x. x < 48) 0 r.len r.slots (omega (arith, r.lengths.1)) r.within,
  take_lacks r.len r.slots (omega (arith, r.lengths.1)) r.distinct,
)

pub slot-within : (r : Roster) (k : ℕ) → k < r.len → get_or r.slots k 0 < 48
slot-within r k h = every_at (λ x. x < 48) 0 k r.slots (omega (arith, r.lengths.1, r.room)) r.within

pub found_below : (r : Roster) (t k : ℕ) → place (is t) 0 (keys_of r) ≡ Some k → k < r.len
found_below r t k e =
    omega (arith, (located self t (keys_of r) k e).below, length-take-le r.len r.keys (omega (arith, r.room, r.lengths.0)))

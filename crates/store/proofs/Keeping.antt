-- The loop that keeps those whose flag is up: what it keeps true, and a turn of it.
-- Assumes nothing.
use Rattle.std.proofs.Common.{ℕ, ◌≡◌, ◌≤◌, ◌<◌, ◌+◌, ◌∙◌, Bool, true, false, List, take, length, get_or, set, length-set, arith}
use Rattle.lists.specs.Lists.{Every, keep_by}
use Rattle.lists.specs.Arrays.{Distinct}
use Rattle.lists.proofs.Distinct.{keeping_by, swapped, flag_down, stored_up, swapped_up, distinct_swapped, every_swapped}
use Rattle.store.specs.declared.roster.Roster.{Roster}

pub record Keeping (r₀ : Roster) (n : ℕ) (stay : List Bool) (keys slots : List ℕ) (w i : ℕ) : Type 0 where
  pub low : w ≤ i
  pub high : i ≤ n
  pub key_length : length keys ≡ 48
  pub slot_length : length slots ≡ 48
  pub within : Every (λ s. s < 48) slots
  pub distinct : Distinct slots
  pub kept_keys : keeping_by stay w i n keys ≡ keep_by (take n stay) (take n r₀.keys)
  pub kept_slots : keeping_by stay w i n slots ≡ keep_by (take n stay) (take n r₀.slots)

module _ (r₀ : Roster) (n : ℕ) (stay : List Bool) (keys slots : List ℕ) (w i : ℕ) (v : Keeping r₀ n stay keys slots w i) (h : i < n) (m : n ≤ 48) (f : length stay ≡ 48) where
  pub turn_up : get_or stay i false ≡ true →
      Keeping r₀ n stay (set keys w (get_or keys i 0)) (swapped 0 w i slots) (w + 1) (i + 1)
  turn_up t =
      record {
        low = omega arith;
        high = omega arith;
        key_length = simp length-set v.key_length;
        slot_length = simp length-set v.slot_length;
        within = every_swapped (λ s. s < 48) 0 w i slots (omega arith) (omega arith) v.within;
        distinct = distinct_swapped w i slots (omega arith) (omega arith) v.distinct;
        kept_keys = stored_up stay 0 keys w i n (omega arith) h (omega arith) (omega arith) t ∙ v.kept_keys;
        kept_slots = swapped_up stay 0 slots w i n (omega arith) h (omega arith) (omega arith) t ∙ v.kept_slots;
      }

  pub turn_down : get_or stay i false ≡ false → Keeping r₀ n stay keys slots w (i + 1)
  turn_down t =
      record {
        low = omega arith;
        high = omega arith;
        key_length = v.key_length;
        slot_length = v.slot_length;
        within = v.within;
        distinct = v.distinct;
        kept_keys = flag_down stay 0 keys w i n h (omega arith) (omega arith) t ∙ v.kept_keys;
        kept_slots = flag_down stay 0 slots w i n h (omega arith) (omega arith) t ∙ v.kept_slots;
      }

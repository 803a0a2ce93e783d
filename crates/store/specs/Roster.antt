-- What a roster holds, and what putting in, letting go and keeping do to it.
use Rattle.std.specs.Prelude.{ℕ, ◌+◌, ◌-◌, ◌≤◌, ◌<◌, ◌≡◌, Bool, List, eqb, ltb, length, take, get_or, Option, Some, None}
use Rattle.lists.specs.Lists.{Every, keep_by}
use Rattle.lists.specs.Arrays.{place, insert_at, remove_at, Distinct}
use Rattle.store.specs.declared.roster.Roster.{Roster}

abbrev pub keys_of : Roster → List ℕ
keys_of r = take r.len r.keys

abbrev pub slots_of : Roster → List ℕ
slots_of r = take r.len r.slots

-- the first slot that is not in use
abbrev pub free_slot : Roster → ℕ
free_slot r = get_or r.slots r.len 0

abbrev pub is : ℕ → ℕ → Bool
is t k = eqb k t

abbrev pub below : ℕ → ℕ → Bool
below t k = ltb k t

-- every slot is there once: the type says so of each roster
pub record Sound (r : Roster) : Type 0 where
  pub room : r.len ≤ 48
  pub key_length : length r.keys ≡ 48
  pub slot_length : length r.slots ≡ 48
  pub within : Every (λ s. s < 48) r.slots
  pub distinct : Distinct r.slots

-- the transaction stands at a place, and that place's slot, one of the forty-eight, is s
pub record LiesIn (r : Roster) (t s : ℕ) : Type 0 where
  pub at : ℕ
  pub found : place (is t) 0 (keys_of r) ≡ Some at
  pub slot : s ≡ get_or r.slots at 0
  pub small : s < 48

-- what looking for its slot says
abbrev pub SlotOf : Roster → ℕ → Option ℕ → Type 0
SlotOf r t (Some s) = LiesIn r t s
SlotOf r t None = place (is t) 0 (keys_of r) ≡ None

abbrev pub Fresh : Roster → Type 0
Fresh r = r.len ≡ 0

pub record Inserted (r₀ : Roster) (k t : ℕ) (r : Roster) : Type 0 where
  pub len : r.len ≡ r₀.len + 1
  pub keys : keys_of r ≡ insert_at k t (keys_of r₀)
  pub slots : slots_of r ≡ insert_at k (free_slot r₀) (slots_of r₀)

pub record Removed (r₀ : Roster) (k : ℕ) (r : Roster) : Type 0 where
  pub len : r.len ≡ r₀.len - 1
  pub keys : keys_of r ≡ remove_at k (keys_of r₀)
  pub slots : slots_of r ≡ remove_at k (slots_of r₀)

-- those whose flag is up are kept
pub record Retained (r₀ : Roster) (flags : List Bool) (r : Roster) : Type 0 where
  pub keys : keys_of r ≡ keep_by flags (keys_of r₀)
  pub slots : slots_of r ≡ keep_by flags (slots_of r₀)

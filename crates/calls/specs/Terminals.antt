-- A terminal: the lines of its refusals that look at its words alone, and what it puts on file.
use Rattle.std.specs.Prelude.{ℕ, Bool, cond, not, ◌&&◌, ◌||◌, List, eqb, ltb, Option, Some, None}
use Rattle.types.specs.declared.Time.{Time}
use Rattle.rules.specs.Numbers.{is_time, is_shard}
use Rattle.lists.specs.Lists.{change}
use Rattle.rules.specs.Plain.{Departure, shard_of}
use Rattle.rules.specs.Outcome.{◌gives◌then◌}
use Rattle.rules.specs.Calls.{departed, stamped}

-- until is unread when stamped is 0
abbrev pub is_until : ℕ → ℕ → Bool
is_until is_stamped until = eqb is_stamped 0 || is_time until

unfoldable pub words_refusal : ℕ → ℕ → ℕ → ℕ → ℕ
words_refusal shard cut is_stamped until =
    ltb 1 is_stamped gives 5 then
    not (is_time cut && is_until is_stamped until) gives 3 then
    not (is_shard shard) gives 4 then 0

-- the stamp that the two words say
abbrev pub stamp_in : ℕ → Time → Option Time
stamp_in is_stamped until = cond (eqb is_stamped 0) None (Some until)

-- the departures with a shard's on file, with this stamp or none yet; by the words, the same
abbrev pub filed_with : ℕ → ℕ → Option Time → List Departure → List Departure
filed_with shard cut None ds = departed shard cut ds
filed_with shard cut (Some until) ds = change shard_of shard (stamped until.0) (departed shard cut ds)

abbrev pub filed_as : ℕ → ℕ → ℕ → ℕ → List Departure → List Departure
filed_as shard cut is_stamped until ds = cond (eqb is_stamped 0) (departed shard cut ds) (change shard_of shard (stamped until) (departed shard cut ds))

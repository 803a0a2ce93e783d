-- What the departures on file are.
use Rattle.std.specs.Prelude.{ℕ, ◌≤◌, ◌≡◌, Bool, List, map, eqb, ltb, length}
use Rattle.lists.specs.Front.{held}
use Rattle.rules.specs.Plain as plain
use Rattle.rules.specs.Calls.{departed}
pub use Rattle.store.specs.Stored.{stamp_of, plain_departure}
use Rattle.store.specs.declared.departures.Departures.{Departures}

abbrev pub on_file : Departures → List plain.Departure
on_file x = map plain_departure (held x.front)

abbrev pub is_of : ℕ → plain.Departure → Bool
is_of shard d = eqb d.shard shard

abbrev pub is_under : ℕ → plain.Departure → Bool
is_under shard d = ltb d.shard shard

-- with a departure of the shard put in, they still fit
abbrev pub room_for : Departures → ℕ → ℕ → Type 0
room_for x shard cut = length (departed shard cut (on_file x)) ≤ 32

-- x has just these on file
pub record Holds (ds : List plain.Departure) (x : Departures) : Type 0 where
  pub file : on_file x ≡ ds

-- What the type of the roster says of each value, in the words of the definitions.
-- Assumes nothing.
use Rattle.store.specs.Roster as rosters
use Rattle.store.specs.declared.roster.Roster.{Roster}

pub sound_roster : (r : Roster) → rosters.Sound r
sound_roster r = record { room = r.room; key_length = r.lengths.0; slot_length = r.lengths.1; within = r.within; distinct = r.distinct }

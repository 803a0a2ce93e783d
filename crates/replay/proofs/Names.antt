-- The names of a script make the makings, calls and readings that they say, by computing.
-- Assumes nothing.
use Prim.Native.Nat.{ℕ}
use mathlib.Core.Path.{refl}
use mathlib.Core.List.{List}
use Rattle.dispatch.specs.Changing.{call_of}
use Rattle.dispatch.specs.Reading.{lookup_of, reading_of}
use Rattle.script.specs.Calls.{code_of}
use Rattle.replay.specs.Names.{Named}

pub names : (ws : List ℕ) (room : ℕ) → Named ws room
unfolding call_of lookup_of reading_of code_of
names ws room = record { makings = refl; calls = refl; readings = refl }

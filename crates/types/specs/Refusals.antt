-- The number that the paper gives a refusal, and what a result that may be one says: 0 where it is none.
use Rattle.std.specs.Prelude.{ℕ, Ok, Err}
use Rattle.std.specs.Prelude.{Result}
use Rattle.types.specs.declared.refusal.Refusal.{Refusal}
use Rattle.types.specs.declared.refusal.Refusal.TheVariants.{NoLocal, NoSpan, NoTime, NoShard, Malformed, EntriesFull, AbsencesFull, DeparturesFull, ListShort, UnknownKind, NoBundle, NoSnapshot, NeverWritten, CountsFull, NoTree, TreeTooLarge}

abbrev pub refusal_number : Refusal → ℕ
refusal_number NoLocal = 1
refusal_number NoSpan = 2
refusal_number NoTime = 3
refusal_number NoShard = 4
refusal_number Malformed = 5
refusal_number EntriesFull = 6
refusal_number AbsencesFull = 7
refusal_number DeparturesFull = 8
refusal_number ListShort = 9
refusal_number UnknownKind = 10
refusal_number NoBundle = 11
refusal_number NoSnapshot = 12
refusal_number NeverWritten = 13
refusal_number CountsFull = 14
refusal_number NoTree = 15
refusal_number TreeTooLarge = 16

abbrev pub refused_in : {A : Type 0} → Result A Refusal → ℕ
refused_in (Ok x) = 0
refused_in (Err r) = refusal_number r

-- The number of a transaction, by which the rules know and order it: how wide it lies in the code is told here alone.
use Rattle.std.specs.Prelude.{ℕ}
use Rattle.types.specs.declared.Transaction.{Transaction}

abbrev pub number_of : Transaction → ℕ
number_of t = t.0

-- `script::numbers::value_of`: The invariant: the number so far, with the digits that are left behind it, is what the whole token says.
-- Assumes nothing.
use Rattle.std.proofs.Common.{◌≡◌, ◌<◌, drop}
use Rattle.script.specs.Decimal.{valued, number_of}
use Rattle.script.proofs.numbers.value_of.Given as goal

abbrev pub invariant-loop-byte : goal.invariant-loop-byte
invariant-loop-byte l = (l.value < 18446744073709551616) × (valued l.value (drop l.byte-index l.token) ≡ number_of l.token)

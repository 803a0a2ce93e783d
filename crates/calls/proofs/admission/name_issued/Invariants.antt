-- The edges from the i-th on are named.
use Rattle.calls.proofs.Named.{NamedFrom}
use Rattle.calls.proofs.admission.name_issued.Given as goal

abbrev pub invariant-loop-i : goal.invariant-loop-i
invariant-loop-i l = NamedFrom l.fn.issuers l.e l.local.0 l.issuers l.i

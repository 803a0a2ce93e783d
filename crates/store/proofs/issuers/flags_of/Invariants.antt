-- The flags set so far say of each transaction whether it passes, by whatever test the closure's answers are.
use Rattle.std.proofs.Common.{◌≡◌, length, take}
use Rattle.std.specs.Fn.{FnReturns}
use Rattle.store.specs.Fronts.{Flags}
use Rattle.store.proofs.issuers.flags_of.Given as goal

abbrev pub invariant-loop-i : goal.invariant-loop-i
invariant-loop-i g l =
    (length l.stay ≡ 384) × Flags (λ t. FnReturns g.F.Fn l.stays (t, tt)) (take l.i l.transactions) (take l.i l.stay)

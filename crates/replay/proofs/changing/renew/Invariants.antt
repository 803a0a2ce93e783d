-- `replay::changing::renew`: Every turn makes the same ledger.
use Rattle.std.proofs.Common.{[]}
use Rattle.ledger.specs.Meets.{Meets}
use Rattle.replay.specs.Lines.{making_in}
use Rattle.replay.proofs.changing.renew.Given as goal

abbrev pub invariant-loop-turn : goal.invariant-loop-turn
invariant-loop-turn l = Meets (making_in l.fn.code.place l.words) [] [] l.done

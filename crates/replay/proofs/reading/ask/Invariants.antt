-- `replay::reading::ask`: After a turn the list and the answer are those of the reading, on the list filled anew.
use Rattle.std.proofs.Common.{◌<◌}
use Rattle.replay.specs.Lines.{Asked}
use Rattle.replay.proofs.reading.ask.Given as goal

abbrev pub invariant-loop-turn : goal.invariant-loop-turn
invariant-loop-turn l = 0 < l.turn → Asked l.fn.code.place l.words l.ledger l.initial.list l.list l.answer

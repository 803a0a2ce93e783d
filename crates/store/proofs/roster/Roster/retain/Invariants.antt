-- What is kept already, and what the flags keep of what is still to come, is what they keep of all. A turn swaps two slots, so that all
-- slots are there once.
use Rattle.store.proofs.Keeping.{Keeping}
use Rattle.store.proofs.roster.Roster.retain.Given as goal

abbrev pub invariant-loop-i : goal.invariant-loop-i
invariant-loop-i l = Keeping l.fn.self l.fn.self.len l.stay l.r.0 l.r.1.0 l.w l.i

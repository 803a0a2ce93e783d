-- What is put in stands on file at its place.
use Rattle.lists.proofs.Rising.{inserted}
use Rattle.store.specs.Departures.{plain_departure}
use Rattle.store.proofs.departures.Departures.insert_at.Goals as goal

pub returns : goal.returns
returns c = record { file = inserted c.args.self.now.front plain_departure c.args.k c.args.d c.insert_at.ensures.list }

pub invariant_of-self : goal.invariant_of-self
invariant_of-self c = record { rising = rw (inserted c.args.self.now.front plain_departure c.args.k c.args.d c.insert_at.ensures.list) c.requires.2 }

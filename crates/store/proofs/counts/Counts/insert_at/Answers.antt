-- What is put in stands at its place.
use Rattle.lists.proofs.Rising.{inserted}
use Rattle.store.specs.Counts.{plain_count}
use Rattle.store.proofs.counts.Counts.insert_at.Goals as goal

pub returns : goal.returns
returns c = record { counts = inserted c.args.self.now.front plain_count c.args.k c.args.c c.insert_at.ensures.list }

pub invariant_of-self : goal.invariant_of-self
invariant_of-self c = record { rising = rw (inserted c.args.self.now.front plain_count c.args.k c.args.c c.insert_at.ensures.list) c.requires.2 }

-- What was found stands below the length, and every slot is one of the forty-eight.
use Rattle.std.proofs.Common.{◌∙◌, refl, sym, arith}
use Rattle.store.proofs.Rosters.{slot-within, found_below}
use Rattle.store.proofs.roster.Roster.slot_of.Goals as goal

pub offset_bounds-self-k : goal.offset_bounds-self-k
offset_bounds-self-k c = omega (arith, found_below c.args.self.now _ c.in-Some.k (sym c.find.ensures ∙ c.in-Some.is), c.args.self.now.room)

pub bounds-self-k : goal.bounds-self-k
bounds-self-k c = omega (arith, found_below c.args.self.now _ c.in-Some.k (sym c.find.ensures ∙ c.in-Some.is), c.args.self.now.room)

pub returns : goal.returns
returns c =
    let found = sym c.find.ensures ∙ c.in-Some.is in
    record {
      at = c.in-Some.k;
      found = found;
      slot = refl;
      small = slot-within c.args.self.now c.in-Some.k (found_below c.args.self.now _ c.in-Some.k found);
    }

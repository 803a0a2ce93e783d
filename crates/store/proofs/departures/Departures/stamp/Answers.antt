-- The departure that is found is written anew with its first stamp; without one, nothing changes.
use Rattle.std.proofs.Common.{◌∙◌, refl, sym, arith}
use Rattle.lists.proofs.Loops.{missing}
use Rattle.lists.proofs.Rising.{found-below, renewed, renewed_rises}
use Rattle.rules.specs.Plain.{shard_of}
use Rattle.rules.specs.Calls.{stamped}
use Rattle.store.specs.Departures.{on_file, plain_departure}
use Rattle.store.proofs.departures.Departures.stamp.Goals as goal

pub returns-in_default : goal.returns-in_default
returns-in_default c =
    record {
      file = sym ((missing shard_of c.args.shard.0 (on_file c.args.self.now) (sym c.find.ensures ∙ c.in_default.is)).changed (stamped c.args.until.0));
    }

pub offset_bounds-self-i : goal.offset_bounds-self-i
offset_bounds-self-i c =
    let x = c.args.self.now in
    omega (arith, found-below x.front plain_departure shard_of x.rising c.args.shard.0 (sym c.find.ensures ∙ c.in-Some.is), x.front.room)

pub bounds-self-i : goal.bounds-self-i
bounds-self-i c =
    let x = c.args.self.now in
    omega (arith, found-below x.front plain_departure shard_of x.rising c.args.shard.0 (sym c.find.ensures ∙ c.in-Some.is), x.front.room)

pub set-requires : goal.set-requires
set-requires c =
    let x = c.args.self.now in
    (omega arith, found-below x.front plain_departure shard_of x.rising c.args.shard.0 (sym c.find.ensures ∙ c.in-Some.is))

pub invariant_of-self : goal.invariant_of-self
invariant_of-self c =
    let x = c.args.self.now in
    record {
      rising =
          renewed_rises x.front plain_departure shard_of x.rising c.args.shard.0 (sym c.find.ensures ∙ c.in-Some.is) (stamped c.args.until.0) _ c.with_stamp.result c.set.ensures.list c.with_stamp.ensures (λ d. refl);
    }

pub returns : goal.returns
returns c =
    let x = c.args.self.now in
    record { file = renewed x.front plain_departure shard_of x.rising c.args.shard.0 (sym c.find.ensures ∙ c.in-Some.is) (stamped c.args.until.0) _ c.with_stamp.result c.set.ensures.list c.with_stamp.ensures }

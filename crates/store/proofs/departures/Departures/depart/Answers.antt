-- A departure that stands is not put in again; a new one goes in where its shard ranks.
use Rattle.std.proofs.Common.{ℕ, ◌∙◌, sym, arith}
use Rattle.std.proofs.Math.Option.{none}
use Rattle.lists.proofs.Order.{include-known, length-include_new}
use Rattle.lists.proofs.Loops.{located, missing, ranked-low, ranked_in, ranked_rises}
use Rattle.rules.specs.Plain as plain
use Rattle.rules.specs.Plain.{shard_of}
use Rattle.store.specs.Departures.{on_file}
use Rattle.store.proofs.Filed.{file-length}
use Rattle.store.proofs.departures.Departures.depart.Goals as goal

abbrev departure : ℕ → ℕ → plain.Departure
departure shard cut = record { shard = shard; cut = cut; stamp = none }

pub returns-in_default : goal.returns-in_default
returns-in_default c =
    let a = c.args in
    record {
      file = sym (include-known shard_of (departure a.shard.0 a.cut.0) (on_file a.self.now) a.self.now.rising
          (located shard_of a.shard.0 (on_file a.self.now) _ (sym c.find.ensures ∙ c.in_default.is)).known);
    }

pub insert_at-requires : goal.insert_at-requires
insert_at-requires c =
    let a = c.args in
    let d = departure a.shard.0 a.cut.0 in
    let l = on_file a.self.now in
    let new = sym c.find.ensures ∙ c.in-None.is in (
      omega (arith, file-length a.self.now, ranked-low shard_of d l _ new c.rank-k.ensures),
      omega (arith, file-length a.self.now, c.requires, length-include_new shard_of d l (missing shard_of a.shard.0 l new).known),
      ranked_rises shard_of d l _ new c.rank-k.ensures a.self.now.rising,
    )

pub returns : goal.returns
returns c =
    let a = c.args in
    record { file = c.insert_at.ensures.file ∙ ranked_in shard_of (departure a.shard.0 a.cut.0) (on_file a.self.now) _ (sym c.find.ensures ∙ c.in-None.is) c.rank-k.ensures }

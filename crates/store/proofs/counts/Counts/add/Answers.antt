-- A shard's count is written anew; the first opens one where the shard ranks.
use Rattle.std.proofs.Common.{ℕ, ◌∙◌, sym, arith, refl}
use Rattle.lists.proofs.Loops.{located, missing, ranked-low, ranked_in, ranked_rises}
use Rattle.lists.proofs.Rising.{found-below, renewed, renewed_rises}
use Rattle.rules.specs.Plain as plain
use Rattle.rules.specs.Plain.{counted_shard}
use Rattle.rules.specs.Calls.{raised}
use Rattle.store.specs.Counts.{counts_in, plain_count}
use Rattle.store.proofs.Filed.{counts-length}
use Rattle.store.proofs.Counting.{raises, opens, count-room}
use Rattle.store.proofs.counts.Counts.add.Goals as goal

abbrev of_shard : ℕ → ℕ → plain.Count
of_shard shard n = record { shard = shard; rebuilt = n }

pub insert_at-requires : goal.insert_at-requires
insert_at-requires c =
    let a = c.args in
    let l = counts_in a.self.now in
    let new = sym c.find.ensures ∙ c.in_default.is in (
      omega (arith, counts-length a.self.now, ranked-low counted_shard (of_shard a.shard.0 a.n) l _ new c.rank-k.ensures),
      omega (arith, counts-length a.self.now, count-room a.shard.0 a.n l c.if-n-eq0.false (missing counted_shard a.shard.0 l new).known c.requires),
      ranked_rises counted_shard (of_shard a.shard.0 a.n) l _ new c.rank-k.ensures a.self.now.rising,
    )

pub returns-in_default : goal.returns-in_default
returns-in_default c =
    let a = c.args in
    let l = counts_in a.self.now in
    let new = sym c.find.ensures ∙ c.in_default.is in
    record {
      counts = c.insert_at.ensures.counts
          ∙ ranked_in counted_shard (of_shard a.shard.0 a.n) l _ new c.rank-k.ensures
          ∙ sym (opens a.shard.0 a.n l c.if-n-eq0.false (missing counted_shard a.shard.0 l new).known (omega (arith, c.ranges.n.fits)));
    }

pub offset_bounds-self-i : goal.offset_bounds-self-i
offset_bounds-self-i c =
    let x = c.args.self.now in
    omega (arith, found-below x.front plain_count counted_shard x.rising c.args.shard.0 (sym c.find.ensures ∙ c.in-Some.is), x.front.room)

pub bounds-self-i : goal.bounds-self-i
bounds-self-i c =
    let x = c.args.self.now in
    omega (arith, found-below x.front plain_count counted_shard x.rising c.args.shard.0 (sym c.find.ensures ∙ c.in-Some.is), x.front.room)

pub set-requires : goal.set-requires
set-requires c =
    let x = c.args.self.now in
    (omega arith, found-below x.front plain_count counted_shard x.rising c.args.shard.0 (sym c.find.ensures ∙ c.in-Some.is))

pub invariant_of-self : goal.invariant_of-self
invariant_of-self c =
    let x = c.args.self.now in
    record {
      rising =
          renewed_rises x.front plain_count counted_shard x.rising c.args.shard.0 (sym c.find.ensures ∙ c.in-Some.is) (raised c.args.n) _ c.raised.result c.set.ensures.list c.raised.ensures (λ d. refl);
    }

pub returns : goal.returns
returns c =
    let x = c.args.self.now in
    let found = sym c.find.ensures ∙ c.in-Some.is in
    record {
      counts = renewed x.front plain_count counted_shard x.rising c.args.shard.0 found (raised c.args.n) _ c.raised.result c.set.ensures.list c.raised.ensures
          ∙ sym (raises c.args.shard.0 c.args.n (counts_in x) c.if-n-eq0.false (located counted_shard c.args.shard.0 (counts_in x) _ found).known);
    }

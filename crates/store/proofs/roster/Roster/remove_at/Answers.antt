-- The slot let go goes behind those in use, so that all slots are there once.
use Rattle.std.proofs.Common.{◌<◌, ◌-◌, ◌∙◌, refl, get_or, length-set, arith, rules}
use Rattle.std.proofs.Math.Seq.{take-set-le}
use Rattle.lists.proofs.Distinct.{distinct_moved, every_moved}
use Rattle.store.proofs.roster.Roster.remove_at.Goals as goal

pub returns : goal.returns
returns c =
    let r = c.args.self.now in
    let k = c.args.k in
    let m = r.len - 1 in
    let o = c.remove_at-2.ensures in
    let b = c.remove_at-2.new.s in
    record {
      len = refl;
      keys = c.remove_at.ensures.front;
      slots = take-set-le m b m (get_or r.slots k 0) (omega arith) ∙ o.front;
    }

pub invariant_of-self-clause-within : goal.invariant_of-self-clause-within
invariant_of-self-clause-within c =
    let r = c.args.self.now in
    every_moved (λ x. x < 48) 0 r.slots c.remove_at-2.new.s (r.len - 1) c.args.k (omega arith) (omega arith) c.remove_at-2.ensures.whole r.within

pub invariant_of-self-clause-distinct : goal.invariant_of-self-clause-distinct
invariant_of-self-clause-distinct c =
    let r = c.args.self.now in
    distinct_moved r.slots c.remove_at-2.new.s (r.len - 1) c.args.k (omega arith) (omega arith) c.remove_at-2.ensures.whole r.distinct

pub invariant_of-self-clause-lengths : goal.invariant_of-self-clause-lengths
invariant_of-self-clause-lengths c = (search rules, length-set c.remove_at-2.new.s (c.args.self.now.len - 1) (get_or c.args.self.now.slots c.args.k 0) ∙ c.remove_at-2.ensures.size ∙ c.args.self.now.lengths.1)

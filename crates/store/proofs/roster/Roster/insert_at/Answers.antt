-- The first free slot goes in among those in use, so that all slots are there once.
use Rattle.std.proofs.Common.{◌<◌, refl, sym, get_or, arith}
use Rattle.lists.specs.Lists.{Every}
use Rattle.lists.specs.Arrays.{Distinct, insert_at, remove_at}
use Rattle.lists.proofs.Distinct.{distinct-insert_at, distinct-remove_at, remove_at_lacks, every_insert_at, every_remove_at, every_at}
use Rattle.store.proofs.roster.Roster.insert_at.Goals as goal

pub returns : goal.returns
returns c = record { len = refl; keys = c.insert_at.ensures.front; slots = c.insert_at-2.ensures.front }

pub invariant_of-self-clause-within : goal.invariant_of-self-clause-within
invariant_of-self-clause-within c =
    let r = c.args.self.now in
    let n = r.len in
    let slot = get_or r.slots n 0 in
    let within : Every (λ x. x < 48) (insert_at c.args.k slot (remove_at n r.slots)) =
    every_insert_at (λ x. x < 48) c.args.k slot (remove_at n r.slots) (every_at (λ x. x < 48) 0 n r.slots (omega (arith, r.lengths.1)) r.within) (every_remove_at (λ x. x < 48) n r.slots r.within) in
    rw (sym c.insert_at-2.ensures.whole) at within

pub invariant_of-self-clause-distinct : goal.invariant_of-self-clause-distinct
invariant_of-self-clause-distinct c =
    let r = c.args.self.now in
    let n = r.len in
    let slot = get_or r.slots n 0 in
    let distinct : Distinct (insert_at c.args.k slot (remove_at n r.slots)) =
    distinct-insert_at c.args.k slot (remove_at n r.slots) (remove_at_lacks n r.slots (omega (arith, r.lengths.1)) r.distinct) (distinct-remove_at n r.slots (omega (arith, r.lengths.1)) r.distinct) in
    rw (sym c.insert_at-2.ensures.whole) at distinct

-- The calls give the first part of the claim, and the prunes the others where they are made.
use Rattle.std.proofs.Common.{sym}
use Rattle.claim.proofs.Claimed.{may, unpruned, all-pruned}
use Rattle.claim.proofs.run_and_prune_from.Goals as goal

pub returns-then-not-may_prune : goal.returns-then-not-may_prune
returns-then-not-may_prune c =
    let a = c.run_calls-before.ensures in
    unpruned _ _ _ _ _ _ _ _ _ a.held a.ledger a.wrote (sym c.if-not-may_prune.ensures)

pub prune_all-requires : goal.prune_all-requires
prune_all-requires c =
    let m = may _ _ _ (sym c.if-not-may_prune.ensures) in
    (c.run_calls-before.ensures.held, m.times, m.reports, m.counts)

pub returns : goal.returns
returns c =
    let a = c.run_calls-before.ensures in
    all-pruned _ _ _ _ _ _ _ _ _ _ _ _ a.held a.ledger a.wrote (sym c.if-not-may_prune.ensures) c.prune_all.ensures

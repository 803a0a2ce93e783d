-- Each turn passes a route of local by, or writes the next behind those that are there.
use Rattle.std.proofs.Common.{◌∙◌, ◌++◌, sym, ap, arith}
use Rattle.lists.specs.Lists.{keep}
use Rattle.lists.proofs.Cuts.{rest-none}
use Rattle.lists.proofs.Held.{left_out, put_behind, all_put}
use Rattle.rules.specs.Plain.{is_remote}
use Rattle.shard_lists.proofs.Crossing.{far_in, far_out}
use Rattle.shard_lists.proofs.remote.Goals as goal
use Rattle.shard_lists.proofs.remote.Goals.{then-not-owns, else-not-owns}

pub loop-route-init : goal.loop-route-init
loop-route-init c = (omega (arith, c.new-far.ensures.count), ap (λ l. l ++ keep (is_remote c.args.local.0) c.args.routes.now) c.new-far.ensures.list)

pub loop-route-preserved : goal.loop-route-preserved
loop-route-preserved c =
    let l = c.loop-route in
    let s = c.args.routes.now in
    elim c.if-not-owns.branch [
      | then-not-owns w ↦ rw w.far-is (omega arith, put_behind _ _ _ _ _ _ (far_in s c.args.local.0 l.route-index (omega arith) (sym c.owns.ensures ∙ w.if-not-owns.true)) w.push.ensures.list l.invariant.1)
      | else-not-owns w ↦ rw w.far-is (omega arith, left_out _ _ _ _ (far_out s c.args.local.0 l.route-index (omega arith) (sym c.owns.ensures ∙ w.if-not-owns.false)) l.invariant.1)
    ]

pub returns : goal.returns
returns c =
    let l = c.loop-route in
    all_put _ _ _ (ap (keep (is_remote c.args.local.0)) (rest-none c.args.routes.now l.route-index (omega arith))) l.invariant.1

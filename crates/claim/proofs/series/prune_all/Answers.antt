-- Each prune goes through, for what has fallen and what stands are never more than 48.
use Rattle.std.proofs.Common.{◌≡◌, ◌∙◌, sym, ap, ◌-◌, ◌*◌, ◌≤◌, arith, length}
use mathlib.Core.Bool.{cond}
use borrow.Author.Tests.{lt-ltb, le-ltb}
use lib.Dec.{ltb}
use lib.ListN.{get_or, take, drop, length-take, length-drop}
use Rattle.lists.proofs.Cuts.{all-at}
use Rattle.rules.specs.Numbers.{is_time}
use Rattle.ledger.specs.Contents.{contents}
use Rattle.ledger.specs.Meets.{answers_in, saying}
use Rattle.claim.proofs.Pruning.{going_on, begun, ended, Prunes, goes_through, answers_or}
use Rattle.claim.proofs.series.prune_all.Goals as goal
use Rattle.claim.proofs.series.prune_all.Goals.{then-is_early, else-is_early}

-- what the prune of a turn says, its clock being a time and its list long enough
turn : (c : goal.Joined-is_early) →
    let l = c.loop-i in
    Prunes (get_or c.args.clocks.now l.i 0) (contents l.ledger)
    (take (length l.reports - 3 * l.written) (drop (3 * l.written) l.reports)) c.prune-answered.new.lent (saying c.prune-answered.result c.prune-answered.new.ledger)
turn c =
    let l = c.loop-i in
    let room : 3 * length (contents l.ledger).entries ≤ length (take (length l.reports - 3 * l.written) (drop (3 * l.written) l.reports)) =
    simp (length-take, length-drop) (omega (arith, l.invariant.room)) in
    goes_through _ _ _ _ _ (all-at is_time 0 c.args.clocks.now l.i c.loop-i-test.true c.requires.1) room c.prune-answered.ensures

-- and its answers
said : (c : goal.Joined-is_early) → c.unwrap_or-said.result ≡ answers_in c.prune-answered.result
said c = c.unwrap_or-said.ensures ∙ answers_or c.prune-answered.result

pub loop-i-init : goal.loop-i-init
loop-i-init c = begun _ _ _ _ _ c.requires.0 c.requires.2 c.requires.3

pub overflow_add-fallen : goal.overflow_add-fallen
overflow_add-fallen c =
    let t = turn c in
    let l = c.loop-i in
    rw (said c) (omega (arith, t.few, t.size, l.invariant.few, l.invariant.fits))

pub overflow_add-written : goal.overflow_add-written
overflow_add-written c =
    let t = turn c in
    let l = c.loop-i in
    rw (said c) (omega (arith, t.few, t.size, l.invariant.few, l.invariant.fits))

pub loop-i-preserved : goal.loop-i-preserved
loop-i-preserved c =
    let l = c.loop-i in
    let chosen : c.if-is_early.between ≡ cond (ltb l.i c.args.k) c.prune-answered.new.ledger l.between =
    elim c.if-is_early.branch [
      | then-is_early w ↦ w.between-is ∙ sym (ap (λ b. cond b c.prune-answered.new.ledger l.between) (lt-ltb l.i c.args.k w.if-is_early.true))
      | else-is_early w ↦ w.between-is ∙ sym (ap (λ b. cond b c.prune-answered.new.ledger l.between) (le-ltb l.i c.args.k w.if-is_early.false))
    ] in
    rw (said c)
    (going_on _ _ _ _ _ _ _ _ _ _ l.i _ l.invariant c.loop-i-test.true _ _ _ (turn c) chosen c.prune-answered.auto.lent)

pub returns : goal.returns
returns c = ended _ _ _ _ _ _ _ _ _ _ c.loop-i.i _ c.loop-i.invariant c.loop-i-test.false

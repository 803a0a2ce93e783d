-- A turn sets one flag, which is up also if the entry holds the departure.
use Rattle.std.proofs.Common.{◌≡◌, ◌∙◌, sym, ap, arith, false}
use Prim.Native.Nat.{ℕ}
use mathlib.Core.Bool.{◌||◌}
use mathlib.Core.List.{List}
use mathlib.Core.Option.{none}
use lib.ListN.{get_or, length-set}
use Rattle.lists.proofs.Tests.{or_left}
use Rattle.lists.proofs.Distinct.{every_at}
use Rattle.rules.specs.Plain.{Departure}
use Rattle.rules.specs.Prune.{holds}
use Rattle.rules.specs.Good.{GoodDeparture}
use Rattle.entry.specs.Entry.{plain_entry}
use Rattle.judge.specs.View.{Shows}
use Rattle.sweeps.proofs.Pruning.{mark_next, mark_end}
use Rattle.sweeps.proofs.prune.with_needs.Goals as goal
use Rattle.sweeps.proofs.prune.with_needs.Goals.{then-flags-j, else-flags-j}

nobody : Departure
nobody = record { shard = 0; cut = 0; stamp = none }

pub loop-j-preserved : goal.loop-j-preserved
loop-j-preserved c =
    let l = c.loop-j in
    let a = c.args in
    let joined : (ds : List Departure) (now : ℕ) → Shows ds now a.view.now → c.if-flags-j.flags ≡ get_or l.flags l.j false || holds a.local.0 (get_or ds l.j nobody) (plain_entry a.e.now) =
    λ ds now s.
    let raised = get_or l.flags l.j false in
    let held = holds a.local.0 (get_or ds l.j nobody) (plain_entry a.e.now) in
    elim c.if-flags-j.branch [
      | then-flags-j w ↦ w.flags-is ∙ w.if-flags-j.true ∙ sym (or_left raised held w.if-flags-j.true)
      | else-flags-j w ↦
          let see = s.seen l.j nobody _ c.loop-j-test.true in
          let good = every_at GoodDeparture nobody l.j ds (omega (arith, s.count)) s.good.rows.each in
          w.flags-is ∙ w.needs.ensures (get_or ds l.j nobody) good.shard see.shard see.zeros see.cut ∙ sym (ap (λ b. b || held) w.if-flags-j.false)
    ] in (
      length-set l.flags l.j c.if-flags-j.flags ∙ l.invariant.0,
      λ ds now s.
          mark_next a.local.0 (plain_entry a.e.now) ds a.view.now.seen.len l.flags l.j (omega (arith, l.invariant.0, a.view.now.seen.room)) s.count nobody c.if-flags-j.flags c.loop-j-test.true (joined ds now s)
          ∙ l.invariant.1 ds now s,
    )

pub returns : goal.returns
returns c ds now s =
    let l = c.loop-j in
    let a = c.args in
    sym (mark_end a.local.0 (plain_entry a.e.now) ds a.view.now.seen.len l.flags l.j (omega (arith, l.invariant.0, a.view.now.seen.room)) s.count c.loop-j-test.false l.auto.j-end) ∙ l.invariant.1 ds now s

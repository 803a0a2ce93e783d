-- One that stays is stored behind those kept so far; one that does not is passed over.
use Rattle.std.proofs.Common.{◌∙◌, arith, refl, rules, length}
use Rattle.std.proofs.Math.Seq.{take-length}
use Rattle.lists.proofs.Distinct.{stored_up, flag_low}
use Rattle.lists.proofs.fronts.retain.Goals as goal
use Rattle.lists.proofs.fronts.retain.Goals.{then-stays, else-stays}

pub loop-i-init : goal.loop-i-init
loop-i-init g c = (search rules, search rules, rw (take-length c.args.stay.now) refl)

pub loop-i-preserved : goal.loop-i-preserved
loop-i-preserved g c =
    let l = c.loop-i in
    let f = c.args.stay.now in
    let n = length f in
    elim c.if-stays.branch [
      | then-stays w ↦ (
        search rules,
        search rules,
        rw (w.s-is, w.kept-is, w.index-s-i.is) (stored_up f w.index-s-i.result l.s l.kept l.i n (omega arith) (omega arith) (omega arith) (omega arith) (search rules)) ∙ l.invariant.2,
      )
      | else-stays w ↦ (
        search rules,
        search rules,
        rw (w.s-is, w.kept-is) (flag_low f l.s l.kept l.i n (omega arith) (omega arith) (omega arith) (search rules)) ∙ l.invariant.2,
      )
    ]

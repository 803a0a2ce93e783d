-- A prune that is turned away changes nothing; else those that fall are reported, let go and taken out of the index, and the departures
-- that none needs go with them.
use Rattle.std.specs.Prelude.{Err}
use Rattle.std.proofs.Common.{◌≡◌, rules, ◌∙◌, arith, ap, sym, length, drop, ◌*◌, ◌++◌}
use lib.Seq.{length-take-le}
use Rattle.sweeps.proofs.Reporting.{enough_room, reports-few, prune-refused, prune-done}
use Rattle.sweeps.proofs.prune.prune.Goals as goal

pub check-requires : goal.check-requires
check-requires c = reports-few c.args.ledger.now c.requires c.args.time.0 c.args.lent.now c.of-p.result c.of-p.ensures

pub part-requires : goal.part-requires
part-requires c = omega (arith, reports-few c.args.ledger.now c.requires c.args.time.0 c.args.lent.now c.of-p.result c.of-p.ensures)

pub copy_from_slice-requires : goal.copy_from_slice-requires
copy_from_slice-requires c =
    let r = c.of-p.result in
    let few = reports-few c.args.ledger.now c.requires c.args.time.0 c.args.lent.now r c.of-p.ensures in
    let room = enough_room c.args.time.0 r.reports (length c.args.lent.now) (sym c.in_ok-check.ensures) in
    length-take-le (3 * r.reports) c.args.lent.now room ∙ sym (ap length c.part.ensures ∙ length-take-le (3 * r.reports) r.words (omega (arith, few)))

pub returns-in_err-check : goal.returns-in_err-check
returns-in_err-check c =
    let said : c.from_residual.result ≡ Err c.in_err-check.field-0.0 = search rules in
    rw said (prune-refused c.args.ledger.now c.requires c.args.time.0 c.args.lent.now c.of-p.result c.of-p.ensures c.in_err-check.field-0.0 c.in_err-check.ensures)

pub returns : goal.returns
returns c =
    prune-done c.args.ledger.now c.requires c.args.time.0 c.args.lent.now c.of-p.result c.of-p.ensures
    c.retain-left.result c.retain-left.ensures c.without_dropped-ledger.result c.without_dropped-ledger.ensures c.retain-ledger.result c.retain-ledger.ensures
    c.in_ok-check.ensures _ (ap (λ a. a ++ drop (3 * c.of-p.result.reports) c.args.lent.now) (c.copy_from_slice.ensures.after ∙ c.part.ensures)) _

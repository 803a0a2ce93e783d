-- Bytes that are refused give the number; else they are the snapshot, and go out again.
use Rattle.std.proofs.Common.{◌≡◌, sym, ap, ◌∙◌, [], length, arith}
use mathlib.Core.Path.{subst}
use Rattle.rules.specs.Good.{Good}
use Rattle.rules.specs.Outcome.{Outcome}
use Rattle.types.specs.Refusals.{refused_in}
use Rattle.hosts.specs.Hosts.{restoring_bytes, read_for_host}
use Rattle.hosts.proofs.Comes.{accepted}
use Rattle.hosts.proofs.Goes.{is_refused, turned_down, copied, not_copied, goes_and_comes}
use Rattle.hosts.proofs.read.Goals as goal

pub returns-in-Err : goal.returns-in-Err
unfolding read_for_host
returns-in-Err c =
    let m = c.restored-read.ensures in
    let o : Outcome = restoring_bytes c.args.snapshot.now in
    let e : o.refused ≡ c.number.result = sym m.refused ∙ ap refused_in c.in-Err.is ∙ sym c.number.ensures in
    let room = length c.args.out.now in
    let gives = turned_down o.refused _ o.ledger [] room 0 c.args.out.now [] (omega (arith, e, c.number.ensures, is_refused c.in-Err.refusal)) (sym e) in
    record { gives = gives; again = goes_and_comes o.refused o.ledger [] room 0 _ _ _ _ _ (subst Good m.ledger m.held.good) gives }

pub returns-then-out-snapshot : goal.returns-then-out-snapshot
unfolding read_for_host
returns-then-out-snapshot c =
    let m = c.restored-read.ensures in
    let bytes = c.args.snapshot.now in
    let o : Outcome = restoring_bytes bytes in
    let none : o.refused ≡ 0 = sym m.refused ∙ ap refused_in c.in_default.is in
    let gives =
    not_copied o.refused o.ledger bytes c.args.out.now none (accepted bytes c.type_inv.snapshot none) _ c.if-out-snapshot.true c.number-then-out-snapshot.ensures in
    record { gives = gives; again = goes_and_comes o.refused o.ledger [] (length c.args.out.now) 0 _ _ _ _ _ (subst Good m.ledger m.held.good) gives }

pub returns : goal.returns
unfolding read_for_host
returns c =
    let m = c.restored-read.ensures in
    let bytes = c.args.snapshot.now in
    let o : Outcome = restoring_bytes bytes in
    let none : o.refused ≡ 0 = sym m.refused ∙ ap refused_in c.in_default.is in
    let gives = copied o.refused o.ledger bytes c.args.out.now none (accepted bytes c.type_inv.snapshot none) _ c.if-out-snapshot.false c.copy_from_slice.ensures.after in
    record { gives = gives; again = goes_and_comes o.refused o.ledger [] (length c.args.out.now) 0 _ _ _ _ _ (subst Good m.ledger m.held.good) gives }

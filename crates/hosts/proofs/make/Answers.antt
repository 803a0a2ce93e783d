-- A making that is refused gives its number; else the ledger goes out.
use Rattle.std.proofs.Common.{◌≡◌, refl, sym, ap, ◌∙◌, [], length, arith}
use mathlib.Core.Path.{subst}
use Rattle.rules.specs.Good.{Good}
use Rattle.rules.specs.Outcome.{Outcome}
use Rattle.rules.specs.Calls.{making}
use Rattle.types.specs.Refusals.{refused_in}
use Rattle.hosts.specs.Hosts.{made_for_host}
use Rattle.hosts.proofs.Goes.{is_refused, turned_down, as_handed, no_bytes, goes_and_comes}
use Rattle.hosts.proofs.make.Goals as goal

pub returns-in-Ok : goal.returns-in-Ok
unfolding made_for_host
returns-in-Ok c =
    let a = c.args in
    let m = c.new-made.ensures in
    let o : Outcome = making a.local a.validity a.core_span a.leg_span in
    let none : o.refused ≡ 0 = sym m.refused ∙ ap refused_in c.in-Ok.is in
    let room = length a.out.now in
    let gives = as_handed o.refused o.ledger _ [] _ room 0 _ _ _ _ _ none m.ledger refl (no_bytes _ _ _ _ _ c.hand_out.auto.reports c.hand_out.ensures) in
    record { gives = gives; again = goes_and_comes o.refused o.ledger [] room 0 _ _ _ _ _ (subst Good m.ledger m.held.good) gives }

pub returns-in-Err : goal.returns-in-Err
unfolding made_for_host
returns-in-Err c =
    let a = c.args in
    let m = c.new-made.ensures in
    let o : Outcome = making a.local a.validity a.core_span a.leg_span in
    let e : o.refused ≡ c.number.result = sym m.refused ∙ ap refused_in c.in-Err.is ∙ sym c.number.ensures in
    let room = length a.out.now in
    let gives = turned_down o.refused _ o.ledger [] room 0 a.out.now [] (omega (arith, e, c.number.ensures, is_refused c.in-Err.refusal)) (sym e) in
    record { gives = gives; again = goes_and_comes o.refused o.ledger [] room 0 _ _ _ _ _ (subst Good m.ledger m.held.good) gives }

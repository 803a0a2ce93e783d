-- Bytes that are refused give the number, then a prune that is refused gives its own; else the pruned ledger goes out, and its reports.
use Rattle.std.proofs.Common.{◌≡◌, ◌≤◌, ℕ, List, sym, ap, ◌∙◌, ◌++◌, length, arith}
use mathlib.Core.Path.{subst}
use Rattle.rules.specs.Good.{Good}
use Rattle.rules.specs.Plain.{Plain}
use Rattle.rules.specs.Outcome.{Outcome, if_done}
use Rattle.rules.specs.Calls.{prune, after_prune}
use Rattle.rules.proofs.Kept.{step-good}
use Rattle.types.specs.Refusals.{refused_in}
use Rattle.hosts.specs.Hosts.{restoring_bytes, pruned_for_host}
use Rattle.hosts.proofs.Goes.{is_refused, turned_down, as_handed, goes_and_comes}
use Rattle.hosts.proofs.Reported.{refused_first, then_done}
use Rattle.hosts.proofs.prune.Goals as goal

pub returns-in-Err : goal.returns-in-Err
unfolding pruned_for_host
returns-in-Err c =
    let a = c.args in
    let m = c.restored-read.ensures in
    let r : Outcome = restoring_bytes a.snapshot.now in
    let o : Outcome = after_prune a.time 144 r.ledger in
    let n : ℕ = if_done r.refused o.refused r.refused in
    let told : List ℕ = o.answers ++ o.words in
    let e : r.refused ≡ c.number.result = sym m.refused ∙ ap refused_in c.in-Err.is ∙ sym c.number.ensures in
    let some : 1 ≤ r.refused = omega (arith, e, c.number.ensures, is_refused c.in-Err.refusal) in
    let first : n ≡ c.number.result = refused_first r.refused o.refused some ∙ e in
    let gives =
    turned_down n _ o.ledger told (length a.out.now) (length a.reports.now) a.out.now a.reports.now (omega (arith, first, e, some)) (sym first) in
    record {
      gives = gives;
      again =
          goes_and_comes n o.ledger told (length a.out.now) (length a.reports.now) _ _ _ _ _ (step-good (prune a.time 144) tt r.ledger (subst Good m.ledger m.held.good)) gives;
    }

pub returns-in-Ok : goal.returns-in-Ok
unfolding pruned_for_host
returns-in-Ok c =
    let a = c.args in
    let m = c.restored-read.ensures in
    let r : Outcome = restoring_bytes a.snapshot.now in
    let by : Plain → Outcome = λ q. after_prune a.time 144 q in
    let o : Outcome = by r.ledger in
    let n : ℕ = if_done r.refused o.refused r.refused in
    let told : List ℕ = o.answers ++ o.words in
    let none : r.refused ≡ 0 = sym m.refused ∙ ap refused_in c.in_default.is in
    let t = rw c.in-Ok.is at c.pruned.ensures in
    let gives =
    as_handed n o.ledger _ told _ (length a.out.now) (length a.reports.now) _ _ _ _ _
    (then_done r.refused o.refused none ∙ ap (λ q. (by q).refused) (sym m.ledger) ∙ sym t.refused)
    (t.ledger ∙ ap (λ q. (by q).ledger) m.ledger)
    (t.told.1 ∙ ap (λ q. (by q).answers ++ (by q).words) m.ledger)
    c.hand_out.ensures in
    record {
      gives = gives;
      again =
          goes_and_comes n o.ledger told (length a.out.now) (length a.reports.now) _ _ _ _ _ (step-good (prune a.time 144) tt r.ledger (subst Good m.ledger m.held.good)) gives;
    }

pub returns-in-Err-pruned : goal.returns-in-Err-pruned
unfolding pruned_for_host
returns-in-Err-pruned c =
    let a = c.args in
    let m = c.restored-read.ensures in
    let r : Outcome = restoring_bytes a.snapshot.now in
    let by : Plain → Outcome = λ q. after_prune a.time 144 q in
    let o : Outcome = by r.ledger in
    let n : ℕ = if_done r.refused o.refused r.refused in
    let told : List ℕ = o.answers ++ o.words in
    let none : r.refused ≡ 0 = sym m.refused ∙ ap refused_in c.in_default.is in
    let e = then_done r.refused o.refused none ∙ ap (λ q. (by q).refused) (sym m.ledger) ∙ sym c.pruned.ensures.refused ∙ ap refused_in c.in-Err-pruned.is in
    let gives =
    turned_down n _ o.ledger told (length a.out.now) (length a.reports.now) a.out.now a.reports.now
    (omega (arith, e, is_refused c.in-Err-pruned.refused)) (c.number-in-Err-pruned.ensures ∙ sym e) in
    record {
      gives = gives;
      again =
          goes_and_comes n o.ledger told (length a.out.now) (length a.reports.now) _ _ _ _ _ (step-good (prune a.time 144) tt r.ledger (subst Good m.ledger m.held.good)) gives;
    }

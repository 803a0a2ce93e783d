-- Paper, 'Departures, then prune': prunes at clocks that never fall, one after the other, are one prune at the last clock. The ledger need
-- only list its entries by rising transaction; with calls between, and of good ledgers, it is a case of LeftOut.
-- Assumes nothing.
use Rattle.std.proofs.Common.{ℕ, ◌+◌, ◌≤◌, ◌≡◌, refl, ap, ◌∙◌, true, not, List, [], ◌∷◌, arith, length}
use mathlib.Core.List.{append-nil, Memᴰ}
use Rattle.lists.specs.Lists.{any, Ascending}
use Rattle.lists.proofs.Tests.{or_left, or_right}
use Rattle.lists.proofs.Keep.{keep-keep, keep_same, any_same, any-has, any-keep, keep-count}
use Rattle.lists.proofs.Order.{ascending-keep}
use Rattle.rules.specs.Plain.{Entry, Departure, Plain, transaction_of, remote}
use Rattle.rules.proofs.Over.{same_over}
use Rattle.rules.specs.Over.{over}
use Rattle.rules.specs.Prune.{readable, is_of_departed_by, answerable, Rule, awaiting, settling, recorded, answering, expiring, rule_of, stands_by, stands, survivors, fallen, reports, holds, remains, pruned, all_reports, insert_all, in_order, Steady, last_of, AsOnce}
use Rattle.rules.proofs.Ordered.{insert_all-append, in_order_alone, length-insert_all, ascending-told, told_again, told?}
use Rattle.rules.proofs.Verdicts.{stands-before}

-- what a survivor is judged by stays on file
stands_after : (p : Plain) (t u : ℕ) (e : Entry) → Memᴰ e (survivors t p) → stands (pruned t p) u e ≡ stands p u e
unfolding pruned
stands_after p t u e m = by (rule_of p.local e)
  where
    by : (r : Rule) → stands_by r (pruned t p) u e ≡ stands_by r p u e
    by awaiting = refl
    by settling = refl
    by recorded =
        ap (any (readable u))
        (keep-keep _ (is_of_departed_by e) (λ d s. any-has (holds p.local d) m (or_left _ _ s)) p.departures)
    by answering =
        any_same _ _ (remote p.local e.terms)
        (λ r n. ap (answerable u)
        (same_over _ _ e r
        (keep-keep _ (over e r)
        (λ d s. any-has (holds p.local d) m (or_right (is_of_departed_by e d) _ (any-has (λ r. over e r d) n s))) p.departures)))
    by expiring = refl

module _ {t u : ℕ} (h : t ≤ u) (p : Plain) where
  -- what stands at the second clock of what the first left is what stands at the second of all
  survivors-again : survivors u (pruned t p) ≡ survivors u p
  unfolding survivors pruned
  survivors-again = keep_same _ _ _ (stands_after p t u) ∙ keep-keep _ _ (stands-before h p) p.entries

  -- a departure that a survivor of the second prune keeps is one that a survivor of the first keeps
  remains-before : (d : Departure) → remains p.local (survivors u p) d ≡ true → remains p.local (survivors t p) d ≡ true
  unfolding survivors pruned
  remains-before d s =
      any-keep (holds p.local d) (stands (pruned t p) u) (survivors t p) (rw (← survivors-again) at s)

  pruned_again : pruned u (pruned t p) ≡ pruned u p
  unfolding pruned
  pruned_again =
      rw (survivors-again, keep-keep (remains p.local (survivors t p)) (remains p.local (survivors u p)) remains-before)

  fallen_again : length (fallen t p) + length (fallen u (pruned t p)) ≡ length (fallen u p)
  unfolding fallen survivors pruned
  fallen_again =
      rw (keep_same _ _ _ (λ e m. ap not (stands_after p t u e m))) (keep-count _ _ (stands-before h p) p.entries)

reports_again : {t u : ℕ} → t ≤ u → (p : Plain) → Ascending transaction_of p.entries →
    insert_all (reports t p) (reports u (pruned t p)) ≡ reports u p
unfolding reports fallen survivors pruned
reports_again {t} {u} h p a =
    rw (keep_same (λ e. not (stands (pruned t p) u e)) (λ e. not (stands p u e)) (survivors t p) (λ e m. ap not (stands_after p t u e m)))
    (told_again p.local (told? p) (stands p t) (stands p u) (stands-before h p) p.entries a)

last-after : (t : ℕ) (ts : List ℕ) → Steady t ts → t ≤ last_of t ts
last-after t [] s = omega arith
last-after t (u ∷ us) s = omega (arith, last-after u us s.1)

pub as_once : (t : ℕ) (ts : List ℕ) → Steady t ts → (p : Plain) → Ascending transaction_of p.entries → AsOnce t ts p
unfolding reports fallen survivors pruned
as_once t [] s p a =
    record {
      left = refl;
      told = rw append-nil (in_order_alone (reports t p) (ascending-told p.local (told? p) (stands p t) p.entries a));
      gone = omega arith;
      written = rw append-nil;
    }
as_once t (u ∷ us) s p a =
    let ih : AsOnce u us (pruned t p) = as_once u us s.1 (pruned t p) (ascending-keep transaction_of (stands p t) p.entries a) in
    let h : t ≤ last_of u us = last-after t (u ∷ us) s in
    let told : in_order (all_reports (t ∷ u ∷ us) p) ≡ reports (last_of u us) p =
    insert_all-append (reports t p) (all_reports (u ∷ us) (pruned t p)) [] ∙ ap (insert_all (reports t p)) ih.told ∙ reports_again h p a in
    record {
      left = ih.left ∙ pruned_again h p;
      told = told;
      gone = omega (arith, ih.gone, fallen_again h p);
      written = omega (arith, length-insert_all (all_reports (t ∷ u ∷ us) p) [], ap length told);
    }

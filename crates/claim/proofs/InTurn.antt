-- Prunes at each clock in turn, on definitions alone: one list of clocks after another, what the numbers add up to, and that each
-- prune is a call with room for 48 reports which is accepted.
-- Assumes nothing.
use Prim.Native.Nat.{ℕ, suc, ◌+◌, ◌*◌, ◌≤◌}
use mathlib.Core.Path.{◌≡◌, refl, sym, ap, ◌∙◌}
use mathlib.Core.Bool.{Bool, true, false, not}
use mathlib.Core.List.{List, [], ◌∷◌, ◌++◌, append_assoc}
use native.Mathlib.Omega.{arith}
use borrow.Author.Tests.{le-ltb}
use lib.ListN.{length, length-append, length-map}
use Rattle.lists.specs.Lists.{cons_if, keep, concat_map, all}
use Rattle.lists.proofs.Keep.{length-keep, concat_map-append}
use Rattle.lists.proofs.Listing.{length-words}
use Rattle.lists.proofs.Tests.{and_left, and_right}
use Rattle.rules.specs.Numbers.{is_time}
use Rattle.rules.specs.Plain.{Entry, Plain}
use Rattle.rules.specs.Prune.{stands, is_reported, rule_of, report_words, survivors, fallen, reports, pruned, prunes, all_reports, all_fallen}
use Rattle.rules.specs.Calls.{after_prune, run}
use Rattle.claim.specs.Series.{all_counts, firsts_of, seconds_of, prune_calls, all_words, all_answers, AsCalls}

-- first some clocks, then the others
pub prunes-append : (ts us : List ℕ) (p : Plain) → prunes (ts ++ us) p ≡ prunes us (prunes ts p)
prunes-append [] us p = refl
prunes-append (t ∷ ts) us p = prunes-append ts us (pruned t p)

pub reports-append : (ts us : List ℕ) (p : Plain) → all_reports (ts ++ us) p ≡ all_reports ts p ++ all_reports us (prunes ts p)
reports-append [] us p = refl
reports-append (t ∷ ts) us p =
    ap (λ l. reports t p ++ l) (reports-append ts us (pruned t p)) ∙ sym (append_assoc (reports t p) (all_reports ts (pruned t p)) (all_reports us (prunes (t ∷ ts) p)))

pub words_append : (ts us : List ℕ) (p : Plain) →
    concat_map report_words (all_reports (ts ++ us) p) ≡ concat_map report_words (all_reports ts p) ++ concat_map report_words (all_reports us (prunes ts p))
words_append ts us p =
    ap (concat_map report_words) (reports-append ts us p) ∙ concat_map-append report_words (all_reports ts p) (all_reports us (prunes ts p))

pub fallen-append : (ts us : List ℕ) (p : Plain) → all_fallen (ts ++ us) p ≡ all_fallen ts p + all_fallen us (prunes ts p)
fallen-append [] us p = omega arith
fallen-append (t ∷ ts) us p = omega (arith, fallen-append ts us (pruned t p))

pub counts-append : (ts us : List ℕ) (p : Plain) → all_counts (ts ++ us) p ≡ all_counts ts p ++ all_counts us (prunes ts p)
counts-append [] us p = refl
counts-append (t ∷ ts) us p = ap (λ l. length (reports t p) ∷ length (fallen t p) ∷ l) (counts-append ts us (pruned t p))

pub count-size : (ts : List ℕ) (p : Plain) → length (all_counts ts p) ≡ 2 * length ts
count-size [] p = refl
count-size (t ∷ ts) p = omega (arith, count-size ts (pruned t p))

-- the numbers of the single prunes add up
pub firsts : (ts : List ℕ) (p : Plain) → firsts_of (all_counts ts p) ≡ length (all_reports ts p)
firsts [] p = refl
firsts (t ∷ ts) p = omega (arith, firsts ts (pruned t p), length-append (reports t p) (all_reports ts (pruned t p)))

pub seconds : (ts : List ℕ) (p : Plain) → seconds_of (all_counts ts p) ≡ all_fallen ts p
seconds [] p = refl
seconds (t ∷ ts) p = omega (arith, seconds ts (pruned t p))

-- what falls and what stands are as many as there were
keep_split : (q : Entry → Bool) (l : List Entry) → length (keep (λ x. not (q x)) l) + length (keep q l) ≡ length l
keep_split q [] = refl
keep_split q (x ∷ l) = go (q x) (keep_split q l)
  where
    go : (b : Bool) → length (keep (λ x. not (q x)) l) + length (keep q l) ≡ length l →
        length (cons_if (not b) x (keep (λ x. not (q x)) l)) + length (cons_if b x (keep q l)) ≡ suc (length l)
    go true ih = omega arith
    go false ih = omega arith

pub fallen_split : (t : ℕ) (p : Plain) → length (fallen t p) + length (pruned t p).entries ≡ length p.entries
unfolding fallen survivors pruned
fallen_split t p = keep_split (stands p t) p.entries

pub reports-few : (t : ℕ) (p : Plain) → length (reports t p) ≤ length (fallen t p)
unfolding reports
reports-few t p = rw length-map (length-keep (λ e. is_reported (rule_of p.local e)) (fallen t p))

-- a prune at a time with room for what it writes goes through
pub prune-done : (t room : ℕ) (p : Plain) → is_time t ≡ true → 3 * length (reports t p) ≤ room →
    after_prune t room p ≡
    record {
      refused = 0;
      answers = length (reports t p) ∷ length (fallen t p) ∷ [];
      ledger = pruned t p;
      words = concat_map report_words (reports t p);
    }
unfolding after_prune
prune-done t room p v h =
    let n : length (concat_map report_words (reports t p)) ≤ room = omega (arith, length-words report_words 3 (λ r. refl) (reports t p)) in
    rw (v, le-ltb room (length (concat_map report_words (reports t p))) n)

pub as_calls : (ts : List ℕ) (p : Plain) → all is_time ts ≡ true → length p.entries ≤ 48 → AsCalls ts p
as_calls [] p v h = record { ledger = refl; words = refl; answers = refl }
as_calls (t ∷ ts) p v h =
    let split = fallen_split t p in
    let q = prune-done t 144 p (and_left (is_time t) (all is_time ts) v) (omega (arith, split, reports-few t p)) in
    let r = as_calls ts (pruned t p) (and_right (is_time t) (all is_time ts) v) (omega (arith, split)) in
    record {
      ledger = ap (λ o. run (prune_calls ts) o.ledger) q ∙ r.ledger;
      words =
          ap (λ o. o.words ++ all_words (prune_calls ts) o.ledger) q ∙ ap (λ l. concat_map report_words (reports t p) ++ l) r.words
          ∙ sym (concat_map-append report_words (reports t p) (all_reports ts (pruned t p)));
      answers =
          ap (λ o. o.answers ++ all_answers (prune_calls ts) o.ledger) q
          ∙ ap (λ l. length (reports t p) ∷ length (fallen t p) ∷ l) r.answers;
    }

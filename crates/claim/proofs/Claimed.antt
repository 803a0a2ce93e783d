-- The claim from what its parts say: a held ledger's index is the plain one's, and a series of prunes is one at the last clock.
-- Assumes nothing.
use Prim.Native.Nat.{ℕ, ◌*◌, ◌≤◌, ◌<◌}
use mathlib.Core.Path.{◌≡◌, refl, sym, ap, ap₂, ◌∙◌}
use mathlib.Core.Bool.{Bool, true, false, ◌&&◌}
use mathlib.Core.List.{List, [], ◌∷◌}
use native.Mathlib.Omega.{arith}
use lib.Dec.{leb}
use borrow.Author.Tests.{leb-true}
use lib.ListN.{length, take, drop}
use lib.Seq.{take-append_seam}
use Rattle.std.specs.Prelude.{Some, None}
use Rattle.lists.specs.Lists.{concat_map, all}
use Rattle.lists.proofs.Listing.{length-words}
use Rattle.lists.proofs.Tests.{and_left, and_right}
use Rattle.rules.specs.Numbers.{is_time}
use Rattle.rules.specs.Plain.{Plain}
use Rattle.rules.specs.Index.{names, lists_record}
use Rattle.rules.specs.Good.{Good}
use Rattle.rules.specs.Prune.{Report, report_words, reports, pruned, prunes, all_reports, in_order, last_of, AsOnce}
use Rattle.rules.specs.Calls.{Call, run}
use Rattle.rules.proofs.Once.{as_once}
use Rattle.rules.proofs.Named.{index-names}
use Rattle.ledger.specs.declared.Ledger.{Ledger}
use Rattle.ledger.specs.Contents.{contents, Held}
use Rattle.claim.specs.declared.series.PrunedAll.{PrunedAll}
use Rattle.claim.specs.Calls.{lent_after}
use Rattle.claim.specs.Series.{steady, all_counts, firsts_of, seconds_of, reports_in, Series}
use Rattle.claim.specs.Claim.{lent, Equals, may_prune, InTurn, AsOne, Claim}
use Rattle.claim.proofs.Clocks.{steady-times, steady_so}
use Rattle.claim.proofs.InTurn.{count-size, firsts, seconds, as_calls}

pub equals : (p : Plain) (l : Ledger) → Held l → contents l ≡ p → Equals p l
equals p l h e =
    record {
      held = h;
      fields = e;
      pairs = rw e at h.issuers;
      named = λ r t. ap (λ ps. names ps r t) h.issuers.pairs ∙ index-names (contents l) h.good r t ∙ ap (λ q. lists_record q r t) e;
    }

-- what the test says of clocks and rooms
pub record May (clocks report_list count_list : List ℕ) : Type 0 where
  pub steady : steady 0 clocks ≡ true
  pub times : all is_time clocks ≡ true
  pub reports : 144 ≤ length report_list
  pub counts : 2 * length clocks ≤ length count_list

pub may : (clocks report_list count_list : List ℕ) → may_prune clocks report_list count_list ≡ true → May clocks report_list count_list
may clocks report_list count_list e =
    let a : Bool = leb 144 (length report_list) in
    let b : Bool = leb (2 * length clocks) (length count_list) in
    let s = and_left (steady 0 clocks) (a && b) e in
    let rooms = and_right (steady 0 clocks) (a && b) e in
    record {
      steady = s;
      times = steady-times 0 clocks s;
      reports = leb-true 144 (length report_list) (and_left a b rooms);
      counts = leb-true (2 * length clocks) (length count_list) (and_right a b rooms);
    }

-- the series in the claim's words
pub in_turn_lem : (p : Plain) (clocks : List ℕ) (k : ℕ) (was is counts_were counts_are : List ℕ) (r : PrunedAll) → Good p → all is_time clocks ≡ true →
    Series k clocks p was is counts_were counts_are r → InTurn p clocks k (lent was is) (lent counts_were counts_are) r
in_turn_lem p clocks k was is counts_were counts_are r g times s =
    record {
      between = equals (prunes (take k clocks) p) r.between s.held_between s.left_between;
      after = equals (prunes clocks p) r.after s.held s.left;
      told = s.told;
      counted = s.counted;
      gone = s.gone;
      many = s.many;
      calls = as_calls clocks p times g.entries.count;
    }

-- reports written and read back
read_back : (rs : List Report) → reports_in (concat_map report_words rs) ≡ rs
read_back [] = refl
read_back (r ∷ rs) = ap (λ l. r ∷ l) (read_back rs)

-- the series is one prune at the last clock
pub as_one_lem : (p : Plain) (clocks : List ℕ) (k : ℕ) (was is counts_were counts_are : List ℕ) (before : Ledger) (r : PrunedAll) → Good p → contents before ≡ p → steady 0 clocks ≡ true →
    Series k clocks p was is counts_were counts_are r → 0 < length clocks →
    AsOne p clocks (last_of 0 clocks) (lent was is) (lent counts_were counts_are) before r
unfolding contents pruned
as_one_lem p [] k was is counts_were counts_are before r g e v s some = absurd (omega (arith, some))
as_one_lem p (t ∷ ts) k was is counts_were counts_are before r g e v s some =
    let clocks : List ℕ = t ∷ ts in
    let last : ℕ = last_of t ts in
    let o : AsOnce t ts p = as_once t ts (steady_so 0 clocks v).1 p g.entries.rows.order in
    let left : contents r.after ≡ pruned last p = s.left ∙ o.left in
    let size : 3 * r.written ≡ length (concat_map report_words (all_reports clocks p)) =
    ap (λ n. 3 * n) s.many ∙ sym (length-words report_words 3 (λ x. refl) (all_reports clocks p)) in
    let front : take (3 * r.written) is ≡ concat_map report_words (all_reports clocks p) =
    ap₂ take size s.told ∙ take-append_seam (concat_map report_words (all_reports clocks p)) (drop (length (concat_map report_words (all_reports clocks p))) was) in
    let numbers : take (2 * length clocks) counts_are ≡ all_counts clocks p =
    ap₂ take (sym (count-size clocks p)) s.counted ∙ take-append_seam (all_counts clocks p) (drop (length (all_counts clocks p)) counts_were) in
    let told : in_order (reports_in (take (3 * r.written) is)) ≡ reports last p =
    ap (λ ws. in_order (reports_in ws)) front ∙ ap in_order (read_back (all_reports clocks p)) ∙ o.told in
    record {
      left = equals (pruned last p) r.after s.held left;
      local = ap (λ q. q.local) left ∙ sym (ap (λ q. q.local) e);
      validity = ap (λ q. q.validity) left ∙ sym (ap (λ q. q.validity) e);
      core_span = ap (λ q. q.core_span) left ∙ sym (ap (λ q. q.core_span) e);
      leg_span = ap (λ q. q.leg_span) left ∙ sym (ap (λ q. q.leg_span) e);
      counts = ap (λ q. q.counts) left ∙ sym (ap (λ q. q.counts) e);
      told = told;
      words = ap (concat_map report_words) told;
      gone = s.gone ∙ o.gone;
      many = s.many ∙ o.written;
      added_fallen = ap seconds_of numbers ∙ seconds clocks p ∙ o.gone;
      added_written = ap firsts_of numbers ∙ firsts clocks p ∙ o.written;
    }

-- where no prune is made
pub unpruned : (start : Plain) (calls : List Call) (clocks : List ℕ) (k : ℕ) (was is report_list count_list : List ℕ) (l : Ledger) → Held l →
    contents l ≡ run calls start → is ≡ lent_after calls start was → may_prune clocks report_list count_list ≡ false →
    Claim start calls clocks k (lent was is) (lent report_list report_list) (lent count_list count_list)
    (record { before = l; pruned = None })
unpruned start calls clocks k was is report_list count_list l h e w n =
    record {
      listed = equals (run calls start) l h e;
      wrote = w;
      made = sym n;
      in_turn = tt;
      as_one = λ some. tt;
      no_prune = record { reports = refl; counts = refl };
    }

-- where the prunes are made
pub all-pruned : (start : Plain) (calls : List Call) (clocks : List ℕ) (k : ℕ) (was is reports_were reports_are counts_were counts_are : List ℕ) (l : Ledger) (r : PrunedAll) →
    Held l → contents l ≡ run calls start → is ≡ lent_after calls start was → may_prune clocks reports_were counts_were ≡ true →
    Series k clocks (contents l) reports_were reports_are counts_were counts_are r →
    Claim start calls clocks k (lent was is) (lent reports_were reports_are) (lent counts_were counts_are)
    (record { before = l; pruned = Some r })
all-pruned start calls clocks k was is reports_were reports_are counts_were counts_are l r h e w m series =
    let p : Plain = run calls start in
    let good : Good p = rw e at h.good in
    let s = rw e at series in
    let c = may clocks reports_were counts_were m in
    record {
      listed = equals p l h e;
      wrote = w;
      made = sym m;
      in_turn = in_turn_lem p clocks k reports_were reports_are counts_were counts_are _ good c.times s;
      as_one = λ some. as_one_lem p clocks k reports_were reports_are counts_were counts_are _ _ good e c.steady s some;
      no_prune = tt;
    }

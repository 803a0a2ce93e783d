-- A prune at a time with room enough goes through, and its reports and numbers stand behind those of the prunes before it.
-- Assumes nothing.
use Prim.Native.Nat.{ℕ, suc, ◌+◌, ◌-◌, ◌*◌, ◌≤◌, ◌<◌}
use mathlib.Core.Path.{◌≡◌, refl, sym, ap, ap₂, ◌∙◌}
use mathlib.Core.Bool.{Bool, true, false, cond}
use mathlib.Core.List.{List, [], ◌∷◌, ◌++◌, append-nil}
use native.Mathlib.Omega.{arith}
use lib.Dec.{ltb}
use borrow.Author.Tests.{ltb-true, ltb-false}
use lib.ListN.{length, take, drop, get_or, set, length-append, length-take, length-drop, length-set}
use lib.Seq.{take-suc, take_all, take-nil, take-append-le, length-take-le}
use Rattle.std.specs.Prelude.{Result, Ok, Err}
use Rattle.std.specs.Result.{result_unwrap_or}
use Rattle.types.specs.declared.refusal.Refusal.{Refusal}
use Rattle.lists.specs.Lists.{concat_map}
use Rattle.lists.proofs.Listing.{length-words}
use Rattle.rules.specs.Numbers.{is_time}
use Rattle.rules.specs.Plain.{Plain}
use Rattle.rules.specs.Prune.{report_words, fallen, reports, pruned, prunes, all_reports, all_fallen}
use Rattle.rules.specs.Calls.{after_prune}
use Rattle.ledger.specs.declared.Ledger.{Ledger}
use Rattle.ledger.specs.declared.Done.{Done}
use Rattle.ledger.specs.Contents.{contents, Held}
use Rattle.ledger.specs.Meets.{Meets, answers_in, written}
use Rattle.claim.specs.Series.{all_counts, Series}
use Rattle.claim.proofs.Writing.{lent-rest, two_behind}
use Rattle.claim.proofs.InTurn.{prunes-append, reports-append, words_append, fallen-append, counts-append, count-size, fallen_split, reports-few, prune-done}

-- the answers of a call, with those that stand for none
pub answers_or : (s : Result (List ℕ) Refusal) → result_unwrap_or s (0 ∷ 0 ∷ 0 ∷ []) ≡ answers_in s
answers_or (Ok ns) = refl
answers_or (Err r) = refl

-- what a prune says where the clock is a time and there is room for all
pub record Prunes (t : ℕ) (p : Plain) (lent after : List ℕ) (r : Done) : Type 0 where
  pub answer : get_or (answers_in r.said) 0 0 ≡ length (reports t p)
  pub gone : get_or (answers_in r.said) 1 0 ≡ length (fallen t p)
  pub ledger : contents r.ledger ≡ pruned t p
  pub wrote : after ≡ written (concat_map report_words (reports t p)) lent
  pub held : Held r.ledger
  pub few : get_or (answers_in r.said) 0 0 ≤ get_or (answers_in r.said) 1 0
  pub size : get_or (answers_in r.said) 1 0 + length (contents r.ledger).entries ≡ length p.entries

pub goes_through : (t : ℕ) (p : Plain) (lent after : List ℕ) (r : Done) → is_time t ≡ true → 3 * length p.entries ≤ length lent →
    Meets (after_prune t (length lent) p) lent after r → Prunes t p lent after r
goes_through t p lent after r v h m =
    let few = reports-few t p in
    let split = fallen_split t p in
    let n = rw (prune-done t (length lent) p v (omega (arith, few, split))) at m in
    let first : get_or (answers_in r.said) 0 0 ≡ length (reports t p) = ap (λ ns. get_or ns 0 0) n.answers in
    let second : get_or (answers_in r.said) 1 0 ≡ length (fallen t p) = ap (λ ns. get_or ns 1 0) n.answers in
    record {
      answer = first;
      gone = second;
      ledger = n.ledger;
      wrote = n.wrote;
      held = n.held;
      few = omega (arith, first, second, few);
      size = ap₂ (λ k q. k + length q.entries) second n.ledger ∙ split;
    }

-- where the prunes stand after the first i clocks
pub record Going (clocks : List ℕ) (start : Plain) (lent list lent_counts counts : List ℕ) (ledger between : Ledger) (gone many i k : ℕ) : Type 0 where
  pub below : i ≤ length clocks
  pub sized : length list ≡ length lent
  pub counts_sized : length counts ≡ length lent_counts
  pub few : many ≤ gone
  pub fits : gone + length (contents ledger).entries ≤ 48
  pub room : 144 ≤ length list
  pub counting : 2 * length clocks ≤ length counts
  pub series : Series k (take i clocks) start lent list lent_counts counts (record { fallen = gone; written = many; between = between; after = ledger })

-- the ledger after the first k of the clocks gone through, before and after one more
kept : (ts : List ℕ) (u k : ℕ) (p : Plain) (old new next : Ledger) → Held old → contents old ≡ prunes (take k ts) p → Held new →
    contents new ≡ prunes (ts ++ (u ∷ [])) p → next ≡ cond (ltb (length ts) k) new old → Held next × (contents next ≡ prunes (take k (ts ++ (u ∷ []))) p)
kept ts u k p old new next h e g f n = go (ltb (length ts) k) refl
  where
    go : (b : Bool) → ltb (length ts) k ≡ b → Held next × (contents next ≡ prunes (take k (ts ++ (u ∷ []))) p)
    go true t =
        let all = take_all k (ts ++ (u ∷ [])) (omega (arith, length-append ts (u ∷ []), ltb-true (length ts) k t)) in
        let same : next ≡ new = n ∙ rw t refl in
        (rw same g, ap contents same ∙ f ∙ ap (λ l. prunes l p) (sym all))
    go false t =
        let same : next ≡ old = n ∙ rw t refl in
        (rw same h, ap contents same ∙ e ∙ ap (λ l. prunes l p) (sym (take-append-le k ts (u ∷ []) (ltb-false (length ts) k t))))

-- a list of which the end was lent and written on keeps its length
seam : (list after : List ℕ) (n : ℕ) → n ≤ length list → length after ≡ length (take (length list - n) (drop n list)) →
    length (take n list ++ (after ++ drop (length list - n) (drop n list))) ≡ length list
seam list after n h e = simp (length-append, length-take, length-drop, e) (omega arith)

pub going_on : (clocks : List ℕ) (start : Plain) (lent list lent_counts counts : List ℕ) (ledger between : Ledger) (gone many i k : ℕ) →
    Going clocks start lent list lent_counts counts ledger between gone many i k → i < length clocks → (after : List ℕ) (r : Done) (next : Ledger) →
    let left = length list - 3 * many in
    let rest = drop (3 * many) list in
    Prunes (get_or clocks i 0) (contents ledger) (take left rest) after r → next ≡ cond (ltb i k) r.ledger between →
    length after ≡ length (take left rest) →
    Going clocks start lent (take (3 * many) list ++ (after ++ drop left rest)) lent_counts (set (set counts (2 * i) (get_or (answers_in r.said) 0 0)) (2 * i + 1) (get_or (answers_in r.said) 1 0)) r.ledger next
    (gone + get_or (answers_in r.said) 1 0) (many + get_or (answers_in r.said) 0 0) (i + 1) k
going_on clocks start lent list lent_counts counts ledger between gone many i k g h after r new t n size =
    let same = seam list after (3 * many) (omega (arith, g.few, g.fits, g.room)) size ∙ g.sized in
    let p : Plain = contents ledger in
    let u : ℕ = get_or clocks i 0 in
    let ts : List ℕ = take i clocks in
    let s = g.series in
    let words : 3 * many ≡ length (concat_map report_words (all_reports ts start)) =
    ap (λ m. 3 * m) s.many ∙ sym (length-words report_words 3 (λ x. refl) (all_reports ts start)) in
    let numbers : 2 * i ≡ length (all_counts ts start) =
    ap (λ m. 2 * m) (sym (length-take-le i clocks g.below)) ∙ sym (count-size ts start) in
    let one_more : i + 1 ≡ suc i = omega arith in
    let next : take (i + 1) clocks ≡ ts ++ (u ∷ []) = ap (λ j. take j clocks) one_more ∙ take-suc clocks i 0 h in
    let one : all_reports (u ∷ []) (prunes ts start) ≡ reports u p = ap (all_reports (u ∷ [])) (sym s.left) ∙ append-nil (reports u p) in
    let left : contents r.ledger ≡ prunes (ts ++ (u ∷ [])) start = t.ledger ∙ ap (pruned u) s.left ∙ sym (prunes-append ts (u ∷ []) start) in
    let chosen : new ≡ cond (ltb (length ts) k) r.ledger between = n ∙ ap (λ j. cond (ltb j k) r.ledger between) (sym (length-take-le i clocks g.below)) in
    let k-th = kept ts u k start between r.ledger new s.held_between s.left_between t.held left chosen in
    record {
      below = omega arith;
      sized = same;
      counts_sized = simp length-set g.counts_sized;
      few = omega (arith, g.few, t.few);
      fits = omega (arith, g.fits, t.size);
      room = omega (arith, g.room, same, g.sized);
      counting = simp length-set g.counting;
      series =
          record {
            held = t.held;
            left = left ∙ ap (λ l. prunes l start) (sym next);
            held_between = k-th.0;
            left_between = k-th.1 ∙ ap (λ l. prunes (take k l) start) (sym next);
            told =
                lent-rest (concat_map report_words (all_reports ts start)) (concat_map report_words (reports u p)) lent list after (3 * many) s.told words t.wrote
                ∙ sym (ap (λ l. written l lent) (ap (λ l. concat_map report_words (all_reports l start)) next ∙ words_append ts (u ∷ []) start
                ∙ ap (λ l. concat_map report_words (all_reports ts start) ++ concat_map report_words l) one));
            counted =
                ap₂ (λ a b. set (set counts (2 * i) a) (2 * i + 1) b) t.answer t.gone
                ∙ two_behind (all_counts ts start) lent_counts counts (2 * i) (length (reports u p)) (length (fallen u p)) s.counted numbers (omega (arith, g.counting, g.counts_sized))
                ∙ sym (ap (λ l. written l lent_counts) (ap (λ l. all_counts l start) next ∙ counts-append ts (u ∷ []) start ∙ ap (λ q. all_counts ts start ++ all_counts (u ∷ []) q) (sym s.left)));
            gone = omega (arith, s.gone, t.gone, ap (λ l. all_fallen l start) next, fallen-append ts (u ∷ []) start, ap (all_fallen (u ∷ [])) s.left);
            many = omega (arith, s.many, t.answer, ap (λ l. length (all_reports l start)) next, ap length (reports-append ts (u ∷ []) start), length-append (all_reports ts start) (all_reports (u ∷ []) (prunes ts start)), ap length one);
          };
    }

-- before the first, and after the last
pub begun : (clocks : List ℕ) (start : Ledger) (lent lent_counts : List ℕ) (k : ℕ) → Held start → 144 ≤ length lent →
    2 * length clocks ≤ length lent_counts → Going clocks (contents start) lent lent lent_counts lent_counts start start 0 0 0 k
begun clocks start lent lent_counts k h room counting =
    record {
      below = omega arith;
      sized = refl;
      counts_sized = refl;
      few = omega arith;
      fits = omega (arith, h.good.entries.count);
      room = room;
      counting = counting;
      series = record { held = h; left = refl; held_between = h; left_between = ap (λ l. prunes l (contents start)) (sym (take-nil k)); told = refl; counted = refl; gone = refl; many = refl };
    }

pub ended : (clocks : List ℕ) (start : Plain) (lent list lent_counts counts : List ℕ) (ledger between : Ledger) (gone many i k : ℕ) →
    Going clocks start lent list lent_counts counts ledger between gone many i k → length clocks ≤ i →
    Series k clocks start lent list lent_counts counts (record { fallen = gone; written = many; between = between; after = ledger })
ended clocks start lent list lent_counts counts ledger between gone many i k g h = rw (take_all i clocks h) at g.series

-- The items of a well formed bundle: how many there are, and which the i-th one is. A loop over the items has at turn i a place `at` with
-- at + total self (drop i (item_lengths ws)) ≡ length ws: `items_start`, `item_next`, `item_at_lem`.
-- Assumes nothing.
use Prim.Native.Nat.{ℕ, ◌+◌, ◌-◌, ◌*◌, ◌≤◌, ◌<◌}
use mathlib.Core.Path.{◌≡◌, sym, ap, ◌∙◌}
use mathlib.Core.Bool.{Bool, true, ◌&&◌}
use mathlib.Core.List.{List, [], ◌∷◌}
use native.Mathlib.Omega.{arith}
use lib.Dec.{eqb, leb}
use lib.ListN.{length, get_or, take, drop}
use lib.Seq.{drop-drop}
use borrow.Author.Tests.{leb-true, eqb-true, eq-eqb}
use Rattle.lists.specs.Lists.{filled, total, self, part, cut, zip_by}
use Rattle.lists.proofs.Tests.{and_true, same_test}
use Rattle.lists.proofs.Keep.{each_of}
use Rattle.lists.proofs.Cuts.{rest_tail, rest_more, total_more, total_split, part_length, part_at, cut-length, cut_more, cut-rest, zip_by-length, zip_by-rest}
use Rattle.rules.specs.Numbers.{max_items}
use Rattle.rules.specs.Words.{word, Item, item_count, items_at, item_kinds, item_lengths, items_written, bundle_whole, bundle_known, bundle_measured}
use Rattle.rules.proofs.Kept.{tested}
use Rattle.words.specs.Bundle.{form_refusal, item_of}

-- the tests of a bundle's form, one by one
pub record Bundled (ws : List ℕ) : Type 0 where
  pub few : item_count ws ≤ 64
  pub room : items_at ws ≤ length ws
  pub exact : length ws ≡ items_at ws + total self (item_lengths ws)

abbrev whole_tests : List ℕ → List Bool
whole_tests ws = filled ws ∷ leb (item_count ws) max_items ∷ leb (items_at ws) (length ws) ∷ []

pub bundled : (ws : List ℕ) → form_refusal ws ≡ 0 → Bundled ws
unfolding form_refusal bundle_whole bundle_measured
bundled ws h =
    let a = tested (bundle_whole ws) 10 _ h in
    let t = each_of (whole_tests ws) a.0 in
    let c = tested (bundle_measured ws) 10 _ (tested (bundle_known ws) 9 _ a.1).1 in
    record {
      few = leb-true (item_count ws) 64 t.1.0;
      room = leb-true (items_at ws) (length ws) t.1.1.0;
      exact = eqb-true (length ws) (items_at ws + total self (item_lengths ws)) c.0;
    }

-- the first test in the code's words
pub whole_is : (ws : List ℕ) → bundle_whole ws ≡ filled ws && (leb (word 0 ws) 64 && leb (1 + 2 * word 0 ws) (length ws))
unfolding bundle_whole
whole_is ws = rw (and_true (leb (items_at ws) (length ws)))

-- what it says
pub whole_has : (ws : List ℕ) → bundle_whole ws ≡ true → (item_count ws ≤ 64) × (items_at ws ≤ length ws)
unfolding bundle_whole
whole_has ws h =
    let t = each_of (whole_tests ws) h in
    (leb-true (item_count ws) 64 t.1.0, leb-true (items_at ws) (length ws) t.1.1.0)

-- the lengths make up what is behind them just where they and what is in front are all
even : (n a s : ℕ) → a ≤ n → eqb (n - a) s ≡ eqb n (a + s)
even n a s h = same_test _ _ (λ q. eq-eqb n (a + s) (omega (arith, eqb-true (n - a) s q))) (λ q. eq-eqb (n - a) s (omega (arith, eqb-true n (a + s) q)))

pub measured_is : (ws : List ℕ) → bundle_whole ws ≡ true → eqb (length ws - items_at ws) (total self (item_lengths ws)) ≡ bundle_measured ws
unfolding bundle_measured
measured_is ws h = even (length ws) (items_at ws) (total self (item_lengths ws)) (whole_has ws h).1

-- the i-th item, whose words start at a place
abbrev pub item_at : List ℕ → ℕ → ℕ → Item
item_at ws i at = item_of (get_or (item_kinds ws) i 0) (part at (get_or (item_lengths ws) i 0) ws)

module _ (ws : List ℕ) (f : form_refusal ws ≡ 0) where
  b : Bundled ws
  b = bundled ws f

  pub kinds-many : length (item_kinds ws) ≡ item_count ws
  kinds-many = part_length 1 (item_count ws) ws (omega (arith, b.room))

  pub lengths-many : length (item_lengths ws) ≡ item_count ws
  lengths-many = part_length (1 + item_count ws) (item_count ws) ws (omega (arith, b.room))

  pub items-many : length (items_written ws) ≡ item_count ws
  items-many =
      zip_by-length item_of (item_kinds ws) (cut (item_lengths ws) (drop (items_at ws) ws))
      (kinds-many ∙ sym (cut-length (item_lengths ws) (drop (items_at ws) ws) ∙ lengths-many))
      ∙ kinds-many

  pub kind_word : (i : ℕ) → i < item_count ws → word (1 + i) ws ≡ get_or (item_kinds ws) i 0
  kind_word i h = sym (part_at 1 (item_count ws) i ws h)

  pub length_word : (i : ℕ) → i < item_count ws → word (1 + item_count ws + i) ws ≡ get_or (item_lengths ws) i 0
  length_word i h = sym (part_at (1 + item_count ws) (item_count ws) i ws h)

  -- the words of the first item start where the items' do
  pub items_start : items_at ws + total self (drop 0 (item_lengths ws)) ≡ length ws
  items_start = sym b.exact

  -- the place after the i-th item's words, and that these lie within the bundle's
  pub item_next : (i at : ℕ) → i < item_count ws → at + total self (drop i (item_lengths ws)) ≡ length ws →
      at + get_or (item_lengths ws) i 0 + total self (drop (i + 1) (item_lengths ws)) ≡ length ws
  item_next i at h e = omega (arith, e, total_more self 0 (item_lengths ws) at i (omega (arith, lengths-many)))

  pub item_within : (i at : ℕ) → i < item_count ws → at + total self (drop i (item_lengths ws)) ≡ length ws → at + get_or (item_lengths ws) i 0 ≤ length ws
  item_within i at h e = omega (arith, item_next i at h e)

  pub item_at_lem : (i at : ℕ) → i < item_count ws → at + total self (drop i (item_lengths ws)) ≡ length ws →
      drop i (items_written ws) ≡ item_at ws i at ∷ drop (i + 1) (items_written ws)
  item_at_lem i at h e =
      let ks = item_kinds ws in
      let s = item_lengths ws in
      let q : items_at ws + total self (take i s) ≡ at = omega (arith, e, b.exact, total_split self i s) in
      let c : drop i (cut s (drop (items_at ws) ws)) ≡ cut (drop i s) (drop at ws) =
      cut-rest s (drop (items_at ws) ws) i ∙ ap (cut (drop i s)) (drop-drop (total self (take i s)) (items_at ws) ws ∙ ap (λ k. drop k ws) q) in
      let g : drop i (items_written ws) ≡ item_at ws i at ∷ zip_by item_of (drop (i + 1) ks) (cut (drop (i + 1) s) (drop (at + get_or s i 0) ws)) =
      zip_by-rest item_of ks (cut s (drop (items_at ws) ws)) i
      ∙ rw (c, cut_more s ws i at (omega (arith, lengths-many)), rest_more 0 ks i (omega (arith, kinds-many))) in
      g ∙ ap (λ l. item_at ws i at ∷ l) (sym (rest_tail (items_written ws) i (item_at ws i at) _ g))

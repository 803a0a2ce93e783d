-- The groups of a well formed record: how many there are, what the i-th one is, and where its routes start. A loop over the groups
-- has at turn i a place `at` with at + total self (drop i (reach_sizes ws)) ≡ length ws: `reach_start`, `reach-next`, `group_at_lem`.
-- Assumes nothing.
use Prim.Native.Nat.{ℕ, zero, suc, ◌+◌, ◌*◌, ◌≤◌, ◌<◌}
use mathlib.Core.Path.{◌≡◌, refl, sym, ap, ◌∙◌}
use mathlib.Core.Bool.{true, ◌&&◌}
use mathlib.Core.List.{List, [], ◌∷◌}
use native.Mathlib.Omega.{arith}
use lib.Dec.{eqb, leb}
use lib.ListN.{length, get_or, take, drop}
use lib.Seq.{drop-drop, get_or-drop}
use borrow.Author.Tests.{leb-true, eqb-true}
use Rattle.lists.specs.Lists.{all, total, self, part, cut}
use Rattle.lists.proofs.Tests.{and_true}
use Rattle.lists.proofs.Keep.{each_of}
use Rattle.lists.proofs.Cuts.{rest_tail, total_more, total-within, total_split, part_length, part_at, cut-length, cut_more, cut-rest, all-at, rest_more}
use Rattle.rules.specs.Plain.{Terms}
use Rattle.rules.specs.Words.{word, within, transaction_at, group_count, reach_sizes, group_size, groups_at, reaches_at, group_terms, groups_from, record_groups, record_tests, record_formed, timed}
use Rattle.words.specs.Taken.{group_at, figures_timed}

-- the tests of a record's form, one by one
pub record Recorded (ws : List ℕ) : Type 0 where
  pub head : 2 ≤ length ws
  pub few : group_count ws ≤ 48
  pub limits : within 8 (reach_sizes ws) ≡ true
  pub exact : length ws ≡ reaches_at ws + total self (reach_sizes ws)

pub recorded : (ws : List ℕ) → record_formed ws ≡ true → Recorded ws
unfolding record_formed
recorded ws h =
    let t = each_of (record_tests ws) h in
    record {
      head = leb-true 2 (length ws) t.0;
      few = leb-true (group_count ws) 48 t.1.0;
      limits = t.1.1.0;
      exact = eqb-true (length ws) (reaches_at ws + total self (reach_sizes ws)) t.1.1.1.0;
    }

-- the tests in the code's words
pub record_is : (ws : List ℕ) → record_formed ws ≡
    leb 2 (length ws) && (leb (word 0 ws) 48 && (all (λ n. leb n 8) (part 2 (word 0 ws) ws) && eqb (length ws) (2 + word 0 ws + 5 * word 0 ws + total self (part 2 (word 0 ws) ws))))
unfolding record_formed
record_is ws = rw (and_true (eqb (length ws) (reaches_at ws + total self (reach_sizes ws))))

-- as many reaches as groups, where these have room
pub reaches_length : (ws : List ℕ) → reaches_at ws ≤ length ws → length (reach_sizes ws) ≡ group_count ws
reaches_length ws h = part_length 2 (group_count ws) ws (omega arith)

pub reaches_few : (ws : List ℕ) → reaches_at ws ≤ length ws → group_count ws ≤ 48 → within 8 (reach_sizes ws) ≡ true → total self (reach_sizes ws) ≤ 384
reaches_few ws h n w = omega (arith, total-within 8 (reach_sizes ws) w, reaches_length ws h)

length_from : (a : ℕ) (reaches : List (List ℕ)) (ws : List ℕ) → length (groups_from a reaches ws) ≡ length reaches
length_from a [] ws = refl
length_from a (routes ∷ more) ws = ap suc (length_from (a + 5) more ws)

rest_from : (a i : ℕ) (reaches : List (List ℕ)) (ws : List ℕ) → drop i (groups_from a reaches ws) ≡ groups_from (a + 5 * i) (drop i reaches) ws
rest_from a zero reaches ws = ap (λ k. groups_from k reaches ws) (let z : a ≡ a + 5 * 0 = omega arith in z)
rest_from a (suc i) [] ws = refl
rest_from a (suc i) (routes ∷ more) ws =
    rest_from (a + 5) i more ws ∙ ap (λ k. groups_from k (drop i more) ws) (let z : a + 5 + 5 * i ≡ a + 5 * suc i = omega arith in z)

module _ (ws : List ℕ) (f : record_formed ws ≡ true) where
  sizes-many : length (reach_sizes ws) ≡ group_count ws
  sizes-many = reaches_length ws (omega (arith, (recorded ws f).exact))

  pub groups_length : length (record_groups ws) ≡ group_count ws
  unfolding record_groups
  groups_length =
      length_from (groups_at ws) (cut (reach_sizes ws) (drop (reaches_at ws) ws)) ws ∙ cut-length (reach_sizes ws) (drop (reaches_at ws) ws) ∙ sizes-many

  -- the routes of the first group start where the reaches do
  pub reach_start : reaches_at ws + total self (drop 0 (reach_sizes ws)) ≡ length ws
  reach_start = sym (recorded ws f).exact

  size_here : (i : ℕ) → i < group_count ws → get_or (reach_sizes ws) i 0 ≡ word (2 + i) ws
  size_here i h = part_at 2 (group_count ws) i ws h

  -- the place after the i-th group's routes, and that these lie within the words
  pub reach-next : (i at : ℕ) → i < group_count ws → at + total self (drop i (reach_sizes ws)) ≡ length ws →
      at + word (2 + i) ws + total self (drop (i + 1) (reach_sizes ws)) ≡ length ws
  reach-next i at h e =
      omega (arith, e, size_here i h, total_more self 0 (reach_sizes ws) at i (omega (arith, sizes-many)))

  pub reach-within : (i at : ℕ) → i < group_count ws → at + total self (drop i (reach_sizes ws)) ≡ length ws → at + word (2 + i) ws ≤ length ws
  reach-within i at h e = omega (arith, reach-next i at h e)

  -- no more than eight
  pub reach-size : (i : ℕ) → i < group_count ws → word (2 + i) ws ≤ 8
  reach-size i h =
      omega (arith, size_here i h, leb-true (get_or (reach_sizes ws) i 0) 8 (all-at (λ n. leb n 8) 0 (reach_sizes ws) i (omega (arith, sizes-many)) (recorded ws f).limits))

  group_found : (i : ℕ) → i < group_count ws → (at : ℕ) → at ≡ reaches_at ws + total self (take i (reach_sizes ws)) →
      drop i (record_groups ws) ≡ group_at ws i at ∷ drop (i + 1) (record_groups ws)
  unfolding record_groups
  group_found i h at q =
      let s = reach_sizes ws in
      let c : drop i (cut s (drop (reaches_at ws) ws)) ≡ cut (drop i s) (drop at ws) =
      rw (q) (cut-rest s (drop (reaches_at ws) ws) i ∙ ap (cut (drop i s)) (drop-drop (total self (take i s)) (reaches_at ws) ws)) in
      let g = rest_from (groups_at ws) i (cut s (drop (reaches_at ws) ws)) ws
      ∙ ap (λ r. groups_from (groups_at ws + 5 * i) r ws) (c ∙ cut_more s ws i at (omega (arith, sizes-many)))
      ∙ ap (λ n. group_terms (drop (groups_at ws + 5 * i) ws) (part at n ws) ∷ groups_from (groups_at ws + 5 * i + 5) (cut (drop (i + 1) s) (drop (at + get_or s i 0) ws)) ws)
      (size_here i h) in
      g ∙ ap (λ t. group_at ws i at ∷ t) (sym (rest_tail (record_groups ws) i (group_at ws i at) _ g))

  pub group_at_lem : (i at : ℕ) → i < group_count ws → at + total self (drop i (reach_sizes ws)) ≡ length ws →
      drop i (record_groups ws) ≡ group_at ws i at ∷ drop (i + 1) (record_groups ws)
  group_at_lem i at h e = group_found i h at (omega (arith, e, (recorded ws f).exact, total_split self i (reach_sizes ws)))

  -- the place where the i-th group's routes start, counted from the front
  abbrev pub reach : ℕ → ℕ
  reach i = reaches_at ws + total self (take i (reach_sizes ws))

  pub group_there : (i : ℕ) → i < group_count ws → drop i (record_groups ws) ≡ group_at ws i (reach i) ∷ drop (i + 1) (record_groups ws)
  group_there i h = group_found i h (reach i) refl

-- what a group says of its figures
figure : (ws : List ℕ) (at k : ℕ) → word k (drop at ws) ≡ word (at + k) ws
figure ws at k = get_or-drop at ws k 0

pub group_transaction_lem : (ws : List ℕ) (i at : ℕ) → (group_at ws i at).transaction ≡ transaction_at (groups_at ws + group_size ws * i) ws
group_transaction_lem ws i at =
    figure ws (groups_at ws + 5 * i) 0 ∙ ap (λ k. word k ws) (let z : groups_at ws + 5 * i + 0 ≡ groups_at ws + 5 * i = omega arith in z)

pub group_timed_lem : (ws : List ℕ) (i at : ℕ) → timed (group_at ws i at) ≡ figures_timed (groups_at ws + group_size ws * i) ws
group_timed_lem ws i at = let p = groups_at ws + 5 * i in rw (figure ws p 1, figure ws p 2, figure ws p 3)

-- the group at a place of all, and what its figures say of its times
abbrev pub none : Terms
none = group_terms [] []

module _ (ws : List ℕ) (f : record_formed ws ≡ true) (i : ℕ) (h : i < group_count ws) where
  pub group-at : get_or (record_groups ws) i none ≡ group_at ws i (reach ws f i)
  group-at = ap (λ m. get_or m 0 none) (sym (rest_more none (record_groups ws) i (omega (arith, groups_length ws f))) ∙ group_there ws f i h)

  pub timed-at : figures_timed (groups_at ws + group_size ws * i) ws ≡ timed (get_or (record_groups ws) i none)
  timed-at = sym (ap timed group-at ∙ group_timed_lem ws i (reach ws f i))

-- A uniform tree within the limits answers as its depth does.
-- Assumes nothing.
use Prim.Native.Nat.{ℕ, zero, suc, ◌+◌, ◌*◌, ◌^◌, ◌≤◌}
use mathlib.Core.Path.{◌≡◌, refl, sym, ap, ◌∙◌}
use mathlib.Core.Bool.{Bool, true, false, cond}
use mathlib.Core.List.{List, [], ◌∷◌, ◌++◌, map}
use mathlib.Core.Option.{some}
use native.Mathlib.Nat.{pow-succ'}
use native.Mathlib.Omega.{arith}
use borrow.Author.Tests.{le-ltb}
use lib.ListN.{length, length-append}
use Rattle.std.proofs.Common.{pow_mono}
use Rattle.lists.specs.Lists.{Every, at, keep, find, set_of}
use Rattle.lists.proofs.Keep.{every_keep, concat_map_alike}
use Rattle.rules.specs.Numbers.{is_word, shard_for_route, count_from}
use Rattle.rules.specs.Plain.{Plain, Entry, transaction_of, shard_of, remote, is_remote}
use Rattle.rules.specs.Good.{Good, GoodEntry, Holds}
use Rattle.rules.specs.Outcome.{done, unless}
use Rattle.rules.specs.Over.{over}
use Rattle.rules.specs.Tree.{marks_of, height, leaves_below, leaf_below, leaf_of, tree_of, Accepted}
use Rattle.rules.specs.Readings.{listing, single, list_of, counterparts, counterparts_of}
use Rattle.rules.specs.Uniform.{uniform, AsDepth}
use Rattle.rules.proofs.Depth.{from_root, next_bit, by_bit}
use Rattle.rules.proofs.Tree.{taken, leaf_left, leaf_right}

uniform-height : (d : ℕ) → height (uniform d) ≡ d
uniform-height zero = refl
uniform-height (suc d) = omega (arith, uniform-height d)

uniform-marks : (d : ℕ) → suc (length (marks_of (uniform d))) ≡ 2 ^ suc d
uniform-marks zero = refl
uniform-marks (suc d) =
    omega (arith, length-append (marks_of (uniform d)) (marks_of (uniform d)), uniform-marks d, pow-succ' 2 (suc d))

uniform-accepted : (d : ℕ) → d ≤ 5 → Accepted (marks_of (uniform d)) (uniform d)
uniform-accepted d few = taken (marks_of (uniform d)) (uniform d) (record {
  shape = refl;
  few = omega (arith, uniform-marks d, pow_mono (let z : suc d ≤ 6 = omega (arith, few) in z));
  low = omega (arith, uniform-height d, few);
})

-- one stretch of numbers behind another
stretches : (a m k : ℕ) → count_from a m ++ count_from (a + m) k ≡ count_from a (m + k)
stretches a zero k = ap (λ n. count_from n k) (let z : a + 0 ≡ a = omega arith in z) ∙ ap (count_from a) (let z : k ≡ 0 + k = omega arith in z)
stretches a (suc m) k =
    ap (λ l. a ∷ l) (ap (λ n. count_from (suc a) m ++ count_from n k) (let z : a + suc m ≡ suc a + m = omega arith in z) ∙ stretches (suc a) m k)
    ∙ ap (count_from a) (let z : suc (m + k) ≡ suc m + k = omega arith in z)

uniform-leaves : (n d : ℕ) → leaves_below n (uniform d) ≡ count_from (2 ^ d * n) (2 ^ d)
uniform-leaves n zero = ap (λ k. k ∷ []) (let z : n ≡ 1 * n = omega arith in z)
uniform-leaves n (suc d) =
    let m : ℕ = 2 ^ d in
    let two : 2 ^ suc d ≡ 2 * m = pow-succ' 2 d in
    ap (λ l. l ++ leaves_below (2 * n + 1) (uniform d)) (uniform-leaves (2 * n) d)
    ∙ ap (λ l. count_from (m * (2 * n)) m ++ l) (uniform-leaves (2 * n + 1) d)
    ∙ ap (λ k. count_from (m * (2 * n)) m ++ count_from k m) (let z : m * (2 * n + 1) ≡ m * (2 * n) + m = omega arith in z)
    ∙ stretches (m * (2 * n)) m m
    ∙ ap (λ k. count_from k (m + m)) (let z : m * (2 * n) ≡ 2 * m * n = omega arith in z)
    ∙ ap (λ k. count_from (2 * m * n) k) (let z : m + m ≡ 2 * m = omega arith in z)
    ∙ ap (λ k. count_from (k * n) k) (sym two)

uniform-leaf : (d k n route : ℕ) → d + k ≤ 64 → shard_for_route d route ≡ n → leaf_below d n (uniform k) route ≡ shard_for_route (d + k) route
uniform-leaf d zero n route h e = sym e ∙ ap (λ i. shard_for_route i route) (let z : d ≡ d + 0 = omega arith in z)
uniform-leaf d (suc k) n route h e =
    let step = next_bit d route (omega (arith, h)) in
    by_bit d route
    (λ b. leaf_left d n (uniform k) (uniform k) route b ∙ uniform-leaf (suc d) k (2 * n) route (omega (arith, h)) (step ∙ omega (arith, e, b)))
    (λ b. leaf_right d n (uniform k) (uniform k) route b ∙ uniform-leaf (suc d) k (2 * n + 1) route (omega (arith, h)) (step ∙ omega (arith, e, b)))
    ∙ ap (λ i. shard_for_route i route) (let z : suc d + k ≡ d + suc k = omega arith in z)

-- Two tries that say the same of every word give the same counterparts.
found_alike : (P : Entry → Type 0) (f g : Entry → List ℕ) → ((e : Entry) → P e → f e ≡ g e) → (q : Entry → Bool) (es : List Entry) → Every P es → list_of f (find q es) ≡ list_of g (find q es)
found_alike P f g h q [] v = refl
found_alike P f g h q (e ∷ es) v = go (q e) (h e v.0) (found_alike P f g h q es v.1)
  where
    go : (b : Bool) → f e ≡ g e → list_of f (find q es) ≡ list_of g (find q es) → list_of f (cond b (some e) (find q es)) ≡ list_of g (cond b (some e) (find q es))
    go true one rest = one
    go false one rest = rest

counterparts_alike : (f g : ℕ → ℕ) → ((route : ℕ) → is_word route ≡ true → f route ≡ g route) → (t : ℕ) (p : Plain) → Good p → counterparts f t p ≡ counterparts g t p
unfolding counterparts
counterparts_alike f g h t p good =
    found_alike (GoodEntry p.local) (counterparts_of f p) (counterparts_of g p) alike (at transaction_of t) p.entries good.entries.rows.each
  where
    alike : (e : Entry) → GoodEntry p.local e → counterparts_of f p e ≡ counterparts_of g p e
    alike e k =
        ap set_of
        (concat_map_alike (Holds is_word) _ _ (λ route w. ap (λ s. s ∷ map shard_of (keep (over e route) p.departures)) (h route w)) (remote p.local e.terms)
        (every_keep (Holds is_word) (is_remote p.local) e.terms.routes k.terms.routes.each))

one_leaf : (d : ℕ) → d ≤ 5 → (route : ℕ) → is_word route ≡ true → leaf_of (uniform d) route ≡ shard_for_route d route
one_leaf d few route w = uniform-leaf 0 d 1 route (omega (arith, few)) (from_root route w) ∙ ap (λ k. shard_for_route k route) (let z : 0 + d ≡ d = omega arith in z)

pub as_depth : (d : ℕ) → d ≤ 5 → (p : Plain) → Good p → AsDepth d p
as_depth d few p good =
    let a = uniform-accepted d few in
    record {
      leaf = λ route w. ap (λ m. unless m p (done (leaf_of (tree_of (marks_of (uniform d))) route ∷ []) p)) a.refusal ∙ ap (λ t. done (leaf_of t route ∷ []) p) a.tree ∙ ap (λ s. done (s ∷ []) p) (one_leaf d few route w);
      leaves = λ room. rw (a.refusal, a.tree, uniform-leaves 1 d, (let z : 2 ^ d * 1 ≡ 2 ^ d = omega arith in z)) refl;
      counterparts = λ t room.
          rw (a.refusal, a.tree, le-ltb 32 d (omega (arith, few)))
          (ap (λ l. listing 0 room single l p) (counterparts_alike (leaf_of (uniform d)) (shard_for_route d) (one_leaf d few) t p good));
    }

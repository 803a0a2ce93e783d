-- Depth and the way of a route: a shard's depth by its bounds, the shard at a depth that a route runs through, the next one by the route's next
-- bit, and ownership by that.
-- Assumes nothing.
use Rattle.std.proofs.Common.{◌≡◌, ℕ, zero, suc, ◌+◌, ◌-◌, ◌*◌, ◌/◌, ◌^◌, ◌<◌, ◌≤◌, Bool, true, false, cond, eqb, ltb, leb, sym, refl, ap, ◌∙◌, arith, pow_pos, pow_mono, ltb-true, eq-eqb, eqb-true, leb-false, leb-true, le-leb, lt-ltb, mul_comm, mod-lt}
use native.Mathlib.Nat.{div-eq_of_lt, div-div-eq-div-mul, pow-succ'}
use Rattle.std.proofs.Math.Nat.{div-add-mod, div-mul-le_self}
use Rattle.std.proofs.lemmas.Nat.{le-div}
use Rattle.lists.proofs.Tests.{same_test, and_both}
use Rattle.rules.specs.Numbers.{is_word, is_shard, highest_bit, depth, owns, top_bits, shard_for_route}
use Rattle.rules.specs.Tree.{bit_at}

-- of two powers of 2, the lower has the lower exponent
pub lower : (i j n : ℕ) → 2 ^ i ≤ n → n < 2 ^ suc j → i ≤ j
lower i j n l h = by_order (leb (suc j) i) refl
  where
    by_order : (b : Bool) → leb (suc j) i ≡ b → i ≤ j
    by_order true e =
        let up = pow_mono (leb-true (suc j) i e) in
        let gone : ⊥ = omega arith in
        absurd gone
    by_order false e = omega (arith, leb-false (suc j) i e)

-- the search for the highest one bit from the limit down finds it
pub highest : (limit n j : ℕ) → 2 ^ j ≤ n → n < 2 ^ suc j → j ≤ limit → highest_bit limit n ≡ j
highest zero n j l h k = omega arith
highest (suc limit) n j l h k = go (highest limit n j l h) (leb (2 ^ suc limit) n) refl
  where
    go : (j ≤ limit → highest_bit limit n ≡ j) → (b : Bool) → leb (2 ^ suc limit) n ≡ b → cond b (suc limit) (highest_bit limit n) ≡ j
    go rest true e =
        let near = lower (suc limit) j n (leb-true (2 ^ suc limit) n e) h in
        omega arith
    go rest false e = rest (lower j limit n l (leb-false (2 ^ suc limit) n e))

-- the number with b taken off, or b put on the other
pub moved : (a b n : ℕ) → b ≤ n → eqb (b + a) n ≡ eqb a (n - b)
moved a b n h =
    same_test (eqb (b + a) n) (eqb a (n - b))
    (λ e. eq-eqb a (n - b) (omega (arith, eqb-true (b + a) n e)))
    (λ e. eq-eqb (b + a) n (omega (arith, eqb-true a (n - b) e)))

-- the highest one bit is in a number that is not 0
bit_within : (limit n : ℕ) → 1 ≤ n → 2 ^ highest_bit limit n ≤ n
bit_within zero n h = h
bit_within (suc limit) n h = go (bit_within limit n h) (leb (2 ^ suc limit) n) refl
  where
    go : 2 ^ highest_bit limit n ≤ n → (b : Bool) → leb (2 ^ suc limit) n ≡ b → 2 ^ cond b (suc limit) (highest_bit limit n) ≤ n
    go below true e = leb-true (2 ^ suc limit) n e
    go below false e = below

pub depth-within : (n : ℕ) → 1 ≤ n → 2 ^ depth n ≤ n
unfolding depth
depth-within n h = bit_within 32 n h

-- A number owns a route if and only if the route runs through it at its depth.
pub owns_through : (n route : ℕ) → 1 ≤ n → owns n route ≡ eqb (shard_for_route (depth n) route) n
unfolding owns
owns_through n route h = sym (moved (top_bits (depth n) route) (2 ^ depth n) n (depth-within n h))

-- of two routes, the one with the lower top bits is the lower
pub lower_top : (d route route' : ℕ) → shard_for_route d route < shard_for_route d route' → route < route'
lower_top d route route' h = go (leb route' route) refl
  where
    go : (b : Bool) → leb route' route ≡ b → route < route'
    go true e =
        let m : ℕ = 2 ^ (64 - d) in
        absurd (omega (arith, h, le-div (route' / m) route m (pow_pos (64 - d)) (omega (arith, div-mul-le_self route' m, leb-true route' route e))))
    go false e = leb-false route' route e

-- A shard at a depth: its highest one bit is there.
pub record At (d n : ℕ) : Type 0 where
  pub least : 2 ^ d ≤ n
  pub most : n < 2 ^ suc d

pub root_at : At 0 1
root_at = record { least = omega arith; most = omega arith }

module _ (d n : ℕ) (h : At d n) where
  twice : 2 ^ suc d ≡ 2 * 2 ^ d
  twice = pow-succ' 2 d

  further : 2 ^ suc (suc d) ≡ 2 * 2 ^ suc d
  further = pow-succ' 2 (suc d)

  pub left_at : At (suc d) (2 * n)
  left_at = record { least = omega (arith, h.least, twice); most = omega (arith, h.most, further) }

  pub right_at : At (suc d) (2 * n + 1)
  right_at = record { least = omega (arith, h.least, twice); most = omega (arith, h.most, further) }

  pub depth_at : d ≤ 32 → depth n ≡ d
  unfolding depth
  depth_at few = highest 32 n d h.least h.most few

  pub owns_at : (route : ℕ) → d ≤ 32 → owns n route ≡ eqb (shard_for_route d route) n
  owns_at route few = owns_through n route (omega (arith, h.least, pow_pos d)) ∙ ap (λ k. eqb (shard_for_route k route) n) (depth_at few)

  pub shard_at : d ≤ 32 → is_shard n ≡ true
  shard_at few =
      let up = pow_mono (let z : suc d ≤ 33 = omega (arith, few) in z) in
      and_both (leb 1 n) (ltb n (2 ^ 33)) (le-leb 1 n (omega (arith, pow_pos d, h.least))) (lt-ltb n (2 ^ 33) (omega (arith, h.most, up)))

-- every route runs through the root
pub from_root : (route : ℕ) → is_word route ≡ true → shard_for_route 0 route ≡ 1
from_root route w = ap (λ n. 1 + n) (div-eq_of_lt (ltb-true route (2 ^ 64) w))

-- and on from a shard to the left or to the right, by its next bit
pub next_bit : (d route : ℕ) → d < 64 → shard_for_route (suc d) route ≡ 2 * shard_for_route d route + bit_at d route
next_bit d route h =
    let m : ℕ = 2 ^ (64 - suc d) in
    let wider : 2 ^ (64 - d) ≡ m * 2 = ap (λ k. 2 ^ k) (let z : 64 - d ≡ suc (64 - suc d) = omega (arith, h) in z) ∙ pow-succ' 2 (64 - suc d) ∙ mul_comm 2 m in
    let half : route / 2 ^ (64 - d) ≡ route / m / 2 = ap (λ k. route / k) wider ∙ sym (div-div-eq-div-mul route m 2) in
    omega (arith, half, div-add-mod (route / m) 2, pow-succ' 2 d)

pub bit_small : (d route : ℕ) → bit_at d route < 2
bit_small d route = mod-lt (top_bits (suc d) route) (omega arith)

pub by_bit : {P : Type 0} (d route : ℕ) → (bit_at d route ≡ 0 → P) → (bit_at d route ≡ 1 → P) → P
by_bit {P} d route left right = go (bit_at d route) (bit_small d route) refl
  where
    go : (b : ℕ) → b < 2 → bit_at d route ≡ b → P
    go zero small e = left e
    go (suc b) small e = right (omega (arith, small, e))

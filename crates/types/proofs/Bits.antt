-- Bits of numbers: where the highest one bit is, what the leading zeros say of it, and a route with a one bit put in front.
-- Assumes nothing.
use Rattle.std.proofs.Common.{◌≡◌, ℕ, zero, suc, ◌+◌, ◌-◌, ◌/◌, ◌^◌, ◌<◌, ◌≤◌, Bool, true, false, cond, ◌&&◌, eqb, ltb, leb, sym, refl, ap, ◌∙◌, add_comm, arith, pow_pos, pow_mono, pow-add, ltb-true, leb-false, leb-true, le-leb, min, max}
use Rattle.std.proofs.Math.Nat.{min-eq_left, min-eq_right, max-eq_left}
use native.Mathlib.Nat.{div-eq_of_lt, add-mul-div_right, div-div-eq-div-mul, pow-succ'}
use lib.Count.{count_leading_zeros, leading_top}
use Rattle.lists.proofs.Tests.{and_left, and_right}
use Rattle.rules.proofs.Depth.{lower, highest, moved}
use Rattle.rules.specs.Numbers.{is_shard, highest_bit, depth, owns, top_bits, shard_for_route}

-- two tests joined: the first decides where it fails, else the second
pub second : (a b : Bool) → a ≡ true → b ≡ a && b
second a b h = rw h

pub first : (a b : Bool) → a ≡ false → a ≡ a && b
first a b h = rw h

-- a number past the limit has it for its depth
capped : (limit n : ℕ) → 2 ^ limit ≤ n → highest_bit limit n ≡ limit
capped zero n h = refl
capped (suc limit) n h = rw (le-leb (2 ^ suc limit) n h)

-- the depth by the place of the highest one bit
pub depth-is : (n k : ℕ) → 2 ^ k ≤ n → n < 2 ^ suc k → min k 32 ≡ depth n
unfolding depth
depth-is n k l h = by_size (leb k 32) refl
  where
    by_size : (b : Bool) → leb k 32 ≡ b → min k 32 ≡ highest_bit 32 n
    by_size true e =
        let small = leb-true k 32 e in
        omega (arith, min-eq_left small, highest 32 n k l h small)
    by_size false e =
        let large = leb-false k 32 e in
        let up = pow_mono large in
        omega (arith, min-eq_right (let z : 32 ≤ k = omega arith in z), capped 32 n (omega arith))

-- 0 has the depth of 1
pub depth-some : (n : ℕ) → depth (max n 1) ≡ depth n
unfolding depth
depth-some zero = refl
depth-some (suc n) = ap depth (max-eq_left (let z : 1 ≤ suc n = omega arith in z))

-- the depth as 63 less the leading zeros
pub depth-by : (n : ℕ) → n < 2 ^ 64 → min (63 - count_leading_zeros 64 (max n 1)) 32 ≡ depth n
depth-by n h =
    let found = leading_top 64 (max n 1) (some n) (small n h) in
    let top : 63 - count_leading_zeros 64 (max n 1) ≡ found.0 = omega (arith, found.1) in
    ap (λ k. min k 32) top ∙ depth-is (max n 1) found.0 found.2 found.3 ∙ depth-some n
  where
    some : (n : ℕ) → 0 < max n 1
    some zero = omega arith
    some (suc n) = omega (arith, max-eq_left (let z : 1 ≤ suc n = omega arith in z))

    small : (n : ℕ) → n < 2 ^ 64 → max n 1 < 2 ^ 64
    small zero h = omega arith
    small (suc n) h = omega (arith, max-eq_left (let z : 1 ≤ suc n = omega arith in z))

-- it is no higher than the limit
bit_limit : (limit n : ℕ) → highest_bit limit n ≤ limit
bit_limit zero n = omega arith
bit_limit (suc limit) n = elim (leb (2 ^ suc limit) n) as (λ b. cond b (suc limit) (highest_bit limit n) ≤ suc limit) [ true ↦ omega arith | false ↦ omega (arith, bit_limit limit n) ]

pub depth-small : (n : ℕ) → depth n ≤ 32
unfolding depth
depth-small n = bit_limit 32 n

-- what is known of a shard: where its highest one bit is
pub record Topped (n : ℕ) : Type 0 where
  pub top : ℕ
  pub zeros : count_leading_zeros 64 n + suc top ≡ 64
  pub least : 2 ^ top ≤ n
  pub deep : depth n ≡ top

pub topped : (n : ℕ) → is_shard n ≡ true → Topped n
unfolding depth
topped n shard =
    let some = leb-true 1 n (and_left (leb 1 n) (ltb n (2 ^ 33)) shard) in
    let small = ltb-true n (2 ^ 33) (and_right (leb 1 n) (ltb n (2 ^ 33)) shard) in
    let found = leading_top 64 n some (omega arith) in
    record {
      top = found.0;
      zeros = found.1;
      least = found.2;
      deep = highest 32 n found.0 found.2 found.3 (lower found.0 32 n found.2 small);
    }

-- a route with a one bit in front, cut to d bits after it: the shard of the depth d for the route
pub led : (d s route : ℕ) → d + s ≡ 63 → (route / 2 + 2 ^ 63) / 2 ^ s ≡ shard_for_route d route
led d s route e =
    let rest : suc s ≡ 64 - d = omega arith in
    ap (λ (x : ℕ). (route / 2 + x) / 2 ^ s) (ap (λ (x : ℕ). 2 ^ x) (sym e) ∙ pow-add 2 d s)
    ∙ add-mul-div_right (route / 2) (2 ^ d) (pow_pos s)
    ∙ ap (λ (x : ℕ). x + 2 ^ d) (div-div-eq-div-mul route 2 (2 ^ s) ∙ ap (λ (x : ℕ). route / x) (sym (pow-succ' 2 s)) ∙ ap (λ (x : ℕ). route / 2 ^ x) rest)
    ∙ add_comm (route / 2 ^ (64 - d)) (2 ^ d)

-- the comparison of one shift is ownership
pub owned-at : (n route s : ℕ) → depth n + s ≡ 63 → 2 ^ depth n ≤ n → eqb ((route / 2 + 2 ^ 63) / 2 ^ s) n ≡ owns n route
unfolding owns
owned-at n route s e h = ap (λ (x : ℕ). eqb x n) (led (depth n) s route e) ∙ moved (top_bits (depth n) route) (2 ^ depth n) n h

-- by the definition 0, which is no shard, owns every route
pub owned-zero : (route : ℕ) → route < 2 ^ 64 → true ≡ owns 0 route
unfolding owns depth
owned-zero route h = ap (λ (x : ℕ). eqb x 0) (sym (div-eq_of_lt h))

pub owned : (n route : ℕ) → Topped n → eqb ((route / 2 + 2 ^ 63) / 2 ^ count_leading_zeros 64 n) n ≡ owns n route
owned n route t = owned-at n route (count_leading_zeros 64 n) (omega (arith, t.zeros, t.deep)) (rw t.deep t.least)

-- A tree parts the routes: every route has one leaf; the leaves are just the shards that have a route, each once, and lie by their routes.
-- Proved of the tree below any shard, down which the routes run that run through that shard.
-- Assumes nothing.
use Prim.Native.Nat.{ℕ, suc, ◌+◌, ◌*◌, ◌-◌, ◌^◌, ◌≤◌}
use mathlib.Core.Path.{◌≡◌, refl, sym, ap, subst, ◌∙◌}
use mathlib.Core.Bool.{Bool, true, false, ◌||◌}
use mathlib.Core.List.{List, [], ◌∷◌, ◌++◌}
use mathlib.Core.Logic.{⊎_elim}
use native.Mathlib.Omega.{arith}
use borrow.Author.Tests.{eqb-true, eq-eqb, lt-ltb}
use lib.Dec.{eqb}
use Rattle.std.proofs.Common.{pow_pos, pow-add}
use native.Mathlib.Nat.{pow-succ'}
use Rattle.std.proofs.Math.Nat.{mul-div_cancel, mul-le-mul_right}
use Rattle.std.specs.Prelude.{Contains}
use Rattle.lists.specs.Lists.{Every, has, self}
use Rattle.lists.specs.Arrays.{Distinct}
use Rattle.lists.proofs.Contained.{contains_first, contains_none, contains_tail, contains_more, contains_left, contains_right, contains_either, each_has}
use Rattle.lists.proofs.Keep.{every_append}
use Rattle.rules.specs.Numbers.{is_word, is_shard, owns, shard_for_route}
use Rattle.rules.specs.Tree.{Tree, leaf, split, height, leaves, leaves_below, leaf_below, bit_at, tree_refusal, tree_of, Ahead, InOrder, Parts}
use Rattle.rules.proofs.Depth.{At, root_at, left_at, right_at, owns_at, shard_at, from_root, next_bit, lower_top, bit_small, by_bit}
use Rattle.rules.proofs.Tree.{accepted-height, leaf_left, leaf_right}

-- a route runs through a shard at its depth
abbrev Through : ℕ → ℕ → ℕ → Type 0
Through d n route = (is_word route ≡ true) × (shard_for_route d route ≡ n)

-- of a route that a leaf owns: it runs through the shard above, and that is its leaf
record Owned (d n : ℕ) (t : Tree) (s route : ℕ) : Type 0 where
  through : Through d n route
  leaf : s ≡ leaf_below d n t route

-- a route that runs through the shard above and whose leaf it is
record Routed (d n : ℕ) (t : Tree) (s : ℕ) : Type 0 where
  route : ℕ
  through : Through d n route
  leaf : leaf_below d n t route ≡ s

record Below (d n : ℕ) (t : Tree) : Type 0 where
  among : (route : ℕ) → Through d n route → Contains (leaves_below n t) (leaf_below d n t route)
  owner : (route : ℕ) → Through d n route → owns (leaf_below d n t route) route ≡ true
  only : (s route : ℕ) → is_word route ≡ true → Contains (leaves_below n t) s → owns s route ≡ true → Owned d n t s route
  routed : (s : ℕ) → Contains (leaves_below n t) s → Routed d n t s
  shard : (s : ℕ) → Contains (leaves_below n t) s → is_shard s ≡ true
  order : InOrder (leaves_below n t)

-- A leaf alone: its routes are those that run through it.
module _ (d n : ℕ) (h : At d n) (few : d ≤ 16) where
  alone : (s : ℕ) → Contains (n ∷ []) s → n ≡ s
  alone s c = ⊎_elim (λ e. e) (λ m. absurd (contains_none s m)) (contains_tail n [] c)

  first_route : Routed d n leaf n
  first_route =
      let k : ℕ = n - 2 ^ d in
      let m : ℕ = 2 ^ (64 - d) in
      let all : 2 ^ 64 ≡ 2 ^ d * m = ap (λ e. 2 ^ e) (let z : 64 ≡ d + (64 - d) = omega (arith, few) in z) ∙ pow-add 2 d (64 - d) in
      let fits : suc k * m ≤ 2 ^ d * m = mul-le-mul_right m (omega (arith, h.least, h.most, pow-succ' 2 d)) in
      record {
        route = k * m;
        through = (
          lt-ltb (k * m) (2 ^ 64) (omega (arith, all, fits, pow_pos (64 - d))),
          ap (λ e. 2 ^ d + e) (mul-div_cancel k (pow_pos (64 - d))) ∙ omega (arith, h.least),
        );
        leaf = refl;
      }

  below_leaf : Below d n leaf
  below_leaf = record {
    among = λ route r. contains_first n [];
    owner = λ route r. owns_at d n h route (omega (arith, few)) ∙ eq-eqb (shard_for_route d route) n r.1;
    only = λ s route w c o.
        let e = alone s c in
        record {
          through = (w, eqb-true (shard_for_route d route) n (sym (owns_at d n h route (omega (arith, few))) ∙ ap (λ k. owns k route) e ∙ o));
          leaf = sym e;
        };
    routed = λ s c. subst (Routed d n leaf) (alone s c) first_route;
    shard = λ s c. subst (λ k. is_shard k ≡ true) (alone s c) (shard_at d n h (omega (arith, few)));
    order = (tt, tt);
  }

-- two lists in order, each of the one ahead of each of the other
in_order : (a b : List ℕ) → InOrder a → InOrder b → ((s s' : ℕ) → Contains a s → Contains b s' → Ahead s s') → InOrder (a ++ b)
in_order [] b x y h = y
in_order (s ∷ a) b x y h = (
  every_append (Ahead s) a b x.0 (each_has (Ahead s) b (λ s' c. h s s' (contains_first s a) c)),
  in_order a b x.1 y (λ z s' c k. h z s' (contains_more s a c) k),
)

-- A split: a route runs on to the left or to the right, by its next bit.
module _ (d n : ℕ) (l r : Tree) (few : suc d ≤ 16) (left : Below (suc d) (2 * n) l) (right : Below (suc d) (2 * n + 1) r) where
  abbrev here : Tree
  here = split l r

  -- which half, by the next bit; and the leaf is that half's
  record Left (route : ℕ) : Type 0 where
    through : Through (suc d) (2 * n) route
    leaf : leaf_below d n here route ≡ leaf_below (suc d) (2 * n) l route

  record Right (route : ℕ) : Type 0 where
    through : Through (suc d) (2 * n + 1) route
    leaf : leaf_below d n here route ≡ leaf_below (suc d) (2 * n + 1) r route

  to_the_left : (route : ℕ) → Through d n route → bit_at d route ≡ 0 → Left route
  to_the_left route t e = record {
    through = (t.0, next_bit d route (omega (arith, few)) ∙ omega (arith, t.1, e));
    leaf = leaf_left d n l r route e;
  }

  to_the_right : (route : ℕ) → Through d n route → bit_at d route ≡ 1 → Right route
  to_the_right route t e = record {
    through = (t.0, next_bit d route (omega (arith, few)) ∙ omega (arith, t.1, e));
    leaf = leaf_right d n l r route e;
  }

  by_half : {P : Type 0} → (route : ℕ) → Through d n route → (Left route → P) → (Right route → P) → P
  by_half route t f g = by_bit d route (λ e. f (to_the_left route t e)) (λ e. g (to_the_right route t e))

  -- back from a half to the shard above
  from_left : (route : ℕ) → Through (suc d) (2 * n) route → Left route
  from_left route t =
      let step = next_bit d route (omega (arith, few)) in
      to_the_left route (t.0, omega (arith, step, t.1, bit_small d route)) (omega (arith, step, t.1, bit_small d route))

  from_right : (route : ℕ) → Through (suc d) (2 * n + 1) route → Right route
  from_right route t =
      let step = next_bit d route (omega (arith, few)) in
      to_the_right route (t.0, omega (arith, step, t.1, bit_small d route)) (omega (arith, step, t.1, bit_small d route))

  above_half : (route k : ℕ) → Through (suc d) k route → (2 * n ≤ k) × (k ≤ 2 * n + 1) → Through d n route
  above_half route k t b =
      let step = next_bit d route (omega (arith, few)) in
      (t.0, omega (arith, step, t.1, bit_small d route, b.0, b.1))

  abbrev ls : List ℕ
  ls = leaves_below (2 * n) l

  abbrev rs : List ℕ
  rs = leaves_below (2 * n + 1) r

  split_among : (route : ℕ) → Through d n route → Contains (ls ++ rs) (leaf_below d n here route)
  split_among route t =
      by_half route t
      (λ w. subst (Contains (ls ++ rs)) (sym w.leaf) (contains_left ls rs (left.among route w.through)))
      (λ w. subst (Contains (ls ++ rs)) (sym w.leaf) (contains_right ls rs (right.among route w.through)))

  split_owner : (route : ℕ) → Through d n route → owns (leaf_below d n here route) route ≡ true
  split_owner route t =
      by_half route t
      (λ w. ap (λ k. owns k route) w.leaf ∙ left.owner route w.through)
      (λ w. ap (λ k. owns k route) w.leaf ∙ right.owner route w.through)

  split_only : (s route : ℕ) → is_word route ≡ true → Contains (ls ++ rs) s → owns s route ≡ true → Owned d n here s route
  split_only s route w c o =
      ⊎_elim
      (λ m. let x = left.only s route w m o in record { through = above_half route (2 * n) x.through (omega arith, omega arith); leaf = x.leaf ∙ sym (from_left route x.through).leaf })
      (λ m. let x = right.only s route w m o in record { through = above_half route (2 * n + 1) x.through (omega arith, omega arith); leaf = x.leaf ∙ sym (from_right route x.through).leaf })
      (contains_either ls rs c)

  split_routed : (s : ℕ) → Contains (ls ++ rs) s → Routed d n here s
  split_routed s c =
      ⊎_elim
      (λ m. let x = left.routed s m in record { route = x.route; through = above_half x.route (2 * n) x.through (omega arith, omega arith); leaf = (from_left x.route x.through).leaf ∙ x.leaf })
      (λ m. let x = right.routed s m in record { route = x.route; through = above_half x.route (2 * n + 1) x.through (omega arith, omega arith); leaf = (from_right x.route x.through).leaf ∙ x.leaf })
      (contains_either ls rs c)

  -- what runs to the left lies ahead of what runs to the right
  halves_ahead : (s s' : ℕ) → Contains ls s → Contains rs s' → Ahead s s'
  halves_ahead s s' c c' route route' w w' o o' =
      let x = (left.only s route w c o).through.1 in
      let y = (right.only s' route' w' c' o').through.1 in
      lower_top (suc d) route route' (omega (arith, x, y))

below : (d n : ℕ) (t : Tree) → At d n → d + height t ≤ 16 → Below d n t
below d n leaf h few = below_leaf d n h (omega (arith, few))
below d n (split l r) h few =
    let a = below (suc d) (2 * n) l (left_at d n h) (omega (arith, few)) in
    let b = below (suc d) (2 * n + 1) r (right_at d n h) (omega (arith, few)) in
    let deep : suc d ≤ 16 = omega (arith, few) in
    record {
      among = split_among d n l r deep a b;
      owner = split_owner d n l r deep a b;
      only = split_only d n l r deep a b;
      routed = split_routed d n l r deep a b;
      shard = λ s c. ⊎_elim (λ m. a.shard s m) (λ m. b.shard s m) (contains_either (leaves_below (2 * n) l) (leaves_below (2 * n + 1) r) c);
      order = in_order (leaves_below (2 * n) l) (leaves_below (2 * n + 1) r) a.order b.order (halves_ahead d n l r deep a b);
    }

-- where none lies ahead of itself, each stands once
once : (l : List ℕ) → InOrder l → ((s : ℕ) → Contains l s → Ahead s s → ⊥) → Distinct l
once [] o apart = tt
once (s ∷ l) o apart = (lacks l o.0, once l o.1 (λ z c. apart z (contains_more s l c)))
  where
    lacks : (l : List ℕ) → Every (Ahead s) l → has self s l ≡ false
    lacks [] v = refl
    lacks (y ∷ m) v = go (lacks m v.1) (eqb y s) refl
      where
        go : has self s m ≡ false → (b : Bool) → eqb y s ≡ b → b || has self s m ≡ false
        go rest true e = absurd (apart s (contains_first s l) (subst (Ahead s) (eqb-true y s e) v.0))
        go rest false e = rest

pub parts : (t : Tree) → height t ≤ 16 → Parts t
parts t low =
    let b = below 0 1 t root_at (omega (arith, low)) in
    record {
      one = λ route w. record { among = b.among route (w, from_root route w); owner = b.owner route (w, from_root route w); only = λ s c o. (b.only s route w c o).leaf };
      leaf = λ s c. let x = b.routed s c in record { route = x.route; word = x.through.0; leaf = x.leaf };
      shard = b.shard;
      once = once (leaves t) b.order (λ s c a. let x = b.routed s c in let o = ap (λ k. owns k x.route) (sym x.leaf) ∙ b.owner x.route x.through in omega (arith, a x.route x.route x.through.0 x.through.0 o o));
      order = b.order;
    }

-- of marks that are accepted
pub accepted_parts : (marks : List ℕ) → tree_refusal marks ≡ 0 → Parts (tree_of marks)
accepted_parts marks e = parts (tree_of marks) (accepted-height marks e)

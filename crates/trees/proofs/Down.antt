-- A tree that is noted, gone down: the way of a route, where the part that it has come to has its leaf, and the leaves below a place, those of
-- the left half and then those of the right one.
-- Assumes nothing.
use Prim.Native.Nat.{ℕ, suc, ◌+◌, ◌-◌, ◌*◌, ◌/◌, ◌%◌, ◌^◌, ◌≤◌, ◌<◌}
use mathlib.Core.Path.{◌≡◌, refl, sym, ap, ◌∙◌}
use mathlib.Core.List.{List, [], ◌∷◌, ◌++◌, append_assoc}
use native.Mathlib.Omega.{arith}
use lib.ListN.{length, length-append, get_or}
use Rattle.std.proofs.Common.{pow_mono}
use Rattle.std.proofs.Math.Nat.{pow-succ', le-mul_of_pos_right}
use Rattle.std.proofs.lemmas.Nat.{pow_pos}
use Rattle.lists.specs.Front.{held}
use Rattle.lists.specs.declared.front.Front.{Front}
use Rattle.lists.proofs.Held.{held-length}
use Rattle.rules.specs.Tree.{Tree, leaf, split, marks_of, height, leaf_of, leaf_below, bit_at, leaves_below}
use Rattle.rules.proofs.Tree.{marks-leaves, leaf_left, leaf_right}
use Rattle.trees.specs.Walks.{Noted, OfTree, Below, right_of}

-- where no leaf is noted a split is, with its halves
record Parted (t : Tree) (marks right : List ℕ) (at : ℕ) : Type 0 where
  l : Tree
  r : Tree
  is : t ≡ split l r
  noted_left : Noted marks right (at + 1) l
  noted_right : Noted marks right (get_or right at 0) r

module _ (marks right : List ℕ) where
  pub noted_within : (at : ℕ) (t : Tree) → Noted marks right at t → at < length marks
  noted_within at leaf n = n.0
  noted_within at (split l r) n = n.0.0

  -- a tree that is noted ends within the marks
  marks_within : (at : ℕ) (t : Tree) → Noted marks right at t → at + length (marks_of t) ≤ length marks
  marks_within at leaf n = omega (arith, n.0)
  marks_within at (split l r) n = omega (arith, marks_within (right_of at l) r n.3, length-append (marks_of l) (marks_of r))

  parted : (at : ℕ) (t : Tree) → Noted marks right at t → (get_or marks at 0 ≡ 0 → ⊥) → Parted t marks right at
  parted at leaf n mark = absurd (mark n.1)
  parted at (split l r) n mark = record { l = l; r = r; is = refl; noted_left = n.2; noted_right = rw n.1 n.3 }

-- On its way down a route has come to a part of a tree.
pub record Stands (t : Tree) (marks right : List ℕ) (route at shard depth : ℕ) : Type 0 where
  pub here : Tree
  pub noted : Noted marks right at here
  pub leaf : leaf_below depth shard here route ≡ leaf_of t route
  pub low : depth + height here ≤ 16

-- so it is of whatever tree is noted
abbrev pub StandsIn : (marks right : List ℕ) (route at shard depth : ℕ) → Type 0
StandsIn marks right route at shard depth = (t : Tree) → height t ≤ 16 → Noted marks right 0 t → Stands t marks right route at shard depth

module _ (marks right : List ℕ) (route : ℕ) where
  pub at_root : StandsIn marks right route 0 1 0
  at_root t low n = record { here = t; noted = n; leaf = refl; low = omega (arith, low) }

  module _ (at shard depth : ℕ) where
    pub stands_within : OfTree marks right → StandsIn marks right route at shard depth → at < length marks
    stands_within o s = let on = s o.tree o.low o.noted in noted_within marks right at on.here on.noted

    -- what stands where no split is noted is the leaf
    pub at_leaf : (get_or marks at 0 ≡ 1 → ⊥) → StandsIn marks right route at shard depth → (t : Tree) → height t ≤ 16 → Noted marks right 0 t → shard ≡ leaf_of t route
    at_leaf mark s t low n = let on = s t low n in go on.here on.noted on.leaf
      where
        go : (here : Tree) → Noted marks right at here → leaf_below depth shard here route ≡ leaf_of t route → shard ≡ leaf_of t route
        go leaf n same = same
        go (split l r) n same = absurd (mark n.0.1)

    module _ (mark : get_or marks at 0 ≡ 1) where
      halves : (t : Tree) → Noted marks right at t → Parted t marks right at
      halves t n = parted marks right at t n (λ e. omega (arith, e, mark))

      pub deeper : OfTree marks right → StandsIn marks right route at shard depth → depth < 16
      deeper o s = let on = s o.tree o.low o.noted in omega (arith, on.low, ap height (halves on.here on.noted).is)

      -- on into the half that the next bit says
      module _ (to bit : ℕ) (is : bit ≡ route / 2 ^ (63 - depth) % 2) where
        says : bit_at depth route ≡ bit
        says = ap (λ k. route / 2 ^ k % 2) (let z : 64 - suc depth ≡ 63 - depth = omega arith in z) ∙ sym is

        below : depth + 1 ≡ suc depth
        below = omega arith

        pub go_left : bit ≡ 0 → to ≡ at + 1 → StandsIn marks right route at shard depth → StandsIn marks right route to (2 * shard + bit) (depth + 1)
        go_left b q s = λ t low n.
            let on = s t low n in
            let h = halves on.here on.noted in
            let root : 2 * shard + bit ≡ 2 * shard = omega (arith, b) in
            let same = rw h.is at on.leaf in
            record { here = h.l; noted = rw q h.noted_left; leaf = rw (below, root) (sym (leaf_left depth shard h.l h.r route (says ∙ b)) ∙ same); low = omega (arith, on.low, ap height h.is) }

        pub go_right : (bit ≡ 0 → ⊥) → to ≡ get_or right at 0 → StandsIn marks right route at shard depth → StandsIn marks right route to (2 * shard + bit) (depth + 1)
        go_right b q s = λ t low n.
            let on = s t low n in
            let h = halves on.here on.noted in
            let one : bit ≡ 1 = omega (arith, b, is) in
            let same = rw h.is at on.leaf in
            record { here = h.r; noted = rw q h.noted_right; leaf = rw (below, one) (sym (leaf_right depth shard h.l h.r route (says ∙ one)) ∙ same); low = omega (arith, on.low, ap height h.is) }

-- a shard at a depth that is not the last has room for another bit
pub has_room : (shard depth : ℕ) → depth < 16 → shard < 2 ^ suc depth → shard < 2 ^ 16
has_room shard depth low small = let up = pow_mono (let z : suc depth ≤ 16 = low in z) in omega (arith, small, up)

pub stays_small : (shard depth bit : ℕ) → bit < 2 → shard < 2 ^ suc depth → 2 * shard + bit < 2 ^ suc (depth + 1)
stays_small shard depth bit b small =
    let below : depth + 1 ≡ suc depth = omega arith in
    rw below (let z : 2 * shard + bit < 2 ^ suc (suc depth) = omega (arith, b, small, pow-succ' 2 (suc depth)) in z)

pub all_below : (marks right : List ℕ) (stand : ℕ) → stand ≡ 0 → OfTree marks right → Below marks right 0 1 16 stand
all_below marks right stand none o =
    record { tree = o.tree; noted = o.noted; low = o.low; small = omega arith; room = omega (arith, none, marks_within marks right 0 o.tree o.noted, o.few); few = o.few }

module _ (marks right : List ℕ) (at root left stand : ℕ) (mark : get_or marks at 0 ≡ 0 → ⊥) (b : Below marks right at root left stand) where
  abbrev h : Parted b.tree marks right at
  h = parted marks right at b.tree b.noted mark

  abbrev k : ℕ
  k = left - 1

  pub some_left : 1 ≤ left
  some_left = omega (arith, b.low, ap height h.is)

  small : (2 * root + 1 + 1) * 2 ^ k ≤ 2 ^ 64
  small =
      let up : left ≡ suc k = omega (arith, some_left) in
      let doubled : (root + 1) * 2 ^ left ≡ (root + 1) * (2 * 2 ^ k) = ap (λ e. (root + 1) * 2 ^ e) up ∙ ap (λ e. (root + 1) * e) (pow-succ' 2 k) in
      omega (arith, doubled, b.small)

  pub fits : 2 * root + 1 < 2 ^ 64
  fits = omega (arith, le-mul_of_pos_right (2 * root + 1 + 1) (pow_pos k), small)

  halves_marks : length (marks_of b.tree) ≡ suc (length (marks_of h.l) + length (marks_of h.r))
  halves_marks = ap (λ t. length (marks_of t)) h.is ∙ ap suc (length-append (marks_of h.l) (marks_of h.r))

  pub left_below : Below marks right (at + 1) (2 * root) k stand
  left_below =
      record { tree = h.l; noted = h.noted_left; low = omega (arith, b.low, ap height h.is); small = omega (arith, small); room = omega (arith, b.room, halves_marks); few = b.few }

  -- with the leaves of the left half put down
  pub right_below : (old new : Front ℕ 32) → old.len ≡ stand → ((t : Tree) → Noted marks right (at + 1) t → held new ≡ held old ++ leaves_below (2 * root) t) →
      Below marks right (get_or right at 0) (2 * root + 1) k new.len
  right_below old new e first =
      let put : new.len ≡ old.len + length (leaves_below (2 * root) h.l) = omega (arith, held-length new, held-length old, ap length (first h.l h.noted_left), length-append (held old) (leaves_below (2 * root) h.l)) in
      let room : 2 * new.len + length (marks_of h.r) ≤ 63 = omega (arith, b.room, halves_marks, e, put, marks-leaves (2 * root) h.l) in
      record { tree = h.r; noted = h.noted_right; low = omega (arith, b.low, ap height h.is); small = small; room = room; few = b.few }

module _ (marks right : List ℕ) (at root : ℕ) (old new : List ℕ) where
  -- below a leaf is itself
  pub one_put : get_or marks at 0 ≡ 0 → new ≡ old ++ root ∷ [] → (t : Tree) → Noted marks right at t → new ≡ old ++ leaves_below root t
  one_put mark e leaf n = e
  one_put mark e (split l r) n = absurd (omega (arith, n.0.1, mark))

  pub both_put : (mid : List ℕ) → (get_or marks at 0 ≡ 0 → ⊥) → ((t : Tree) → Noted marks right (at + 1) t → mid ≡ old ++ leaves_below (2 * root) t) →
      ((t : Tree) → Noted marks right (get_or right at 0) t → new ≡ mid ++ leaves_below (2 * root + 1) t) →
      (t : Tree) → Noted marks right at t → new ≡ old ++ leaves_below root t
  both_put mid mark first then leaf n = absurd (mark n.1)
  both_put mid mark first then (split l r) n =
      then r (rw n.1 n.3) ∙ ap (λ x. x ++ leaves_below (2 * root + 1) r) (first l n.2) ∙ append_assoc old (leaves_below (2 * root) l) (leaves_below (2 * root + 1) r)

-- A split that is walked: what the walk of each half notes, and that the second leaves what the first noted.
-- Assumes nothing.
use Prim.Native.Nat.{ℕ, ◌+◌, ◌≤◌, ◌<◌}
use mathlib.Core.Path.{◌≡◌, ap, subst, ◌∙◌}
use mathlib.Core.Bool.{Bool, true, false}
use mathlib.Core.List.{List}
use native.Mathlib.Omega.{arith}
use lib.ListN.{length, get_or, set, drop, length-append}
use lib.Seq.{get_or-set_same, get_or-set_other}
use Rattle.rules.specs.Tree.{Tree, leaf, split, marks_of, joined, and_then, walk}
use Rattle.trees.specs.Walks.{Noted, Whole, Says, right_of}

-- what is noted of a tree stands in the places of its marks
noted_same : (marks r r' : List ℕ) (at : ℕ) (t : Tree) → ((i : ℕ) → at ≤ i → i < at + length (marks_of t) → get_or r' i 0 ≡ get_or r i 0) → Noted marks r at t → Noted marks r' at t
noted_same marks r r' at leaf h v = v
noted_same marks r r' at (split x y) h v =
    let long = length-append (marks_of x) (marks_of y) in (
      v.0,
      h at (omega arith) (omega (arith, long)) ∙ v.1,
      noted_same marks r r' (at + 1) x (λ i a b. h i (omega (arith, a)) (omega (arith, b, long))) v.2,
      noted_same marks r r' (right_of at x) y (λ i a b. h i (omega (arith, a)) (omega (arith, b, long))) v.3,
    )

module _ (left : ℕ) (marks : List ℕ) (from mid : ℕ) (old new : List ℕ) (here : from < length marks) (is_split : get_or marks from 0 ≡ 1)
    (room : from < length new) (w : Whole (walk left (drop (from + 1) marks)) marks (from + 1) mid old new) where
  abbrev marked : List ℕ
  marked = set new from mid

  pub halves : (b : Bool) (to : ℕ) (last : List ℕ) → Says b (walk left (drop mid marks)) marks mid to marked last →
      Says b (and_then (walk left) (walk left (drop (from + 1) marks))) marks from to old last
  halves false to last e = ap (and_then (walk left)) w.shape ∙ ap (joined w.tree) e
  halves true to last v =
      let long = length-append (marks_of w.tree) (marks_of v.tree) in
      record {
        tree = split w.tree v.tree;
        shape = ap (and_then (walk left)) w.shape ∙ ap (joined w.tree) v.shape;
        end = omega (arith, v.end, w.end, long);
        within = v.within;
        noted = (
          (here, is_split),
          v.same from (omega (arith, w.end)) ∙ get_or-set_same new from mid 0 room ∙ w.end,
          noted_same marks new last (from + 1) w.tree (λ i a b. v.same i (omega (arith, b, w.end)) ∙ get_or-set_other new from i mid 0 (λ q. omega (arith, a, q))) w.noted,
          subst (λ k. Noted marks last k v.tree) w.end v.noted,
        );
        same = λ i h. v.same i (omega (arith, h, w.end)) ∙ get_or-set_other new from i mid 0 (λ q. omega (arith, h, q)) ∙ w.same i (omega (arith, h));
      }

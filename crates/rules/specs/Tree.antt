-- A depot that is split unevenly: its tree comes in as marks in pre-order, and a leaf's shard follows from its path.
use Rattle.std.specs.Prelude.{ℕ, zero, suc, ◌≡◌, ◌≤◌, ◌<◌, ◌+◌, ◌*◌, ◌%◌, max, true, cond, eqb, ltb, List, [], ◌∷◌, ◌++◌, length, Contains}
use Rattle.lists.specs.Lists.{filled, Every}
use Rattle.lists.specs.Arrays.{Distinct}
use Rattle.rules.specs.Numbers.{is_word, is_shard, owns, top_bits, max_tree, max_height}
use Rattle.rules.specs.Outcome.{◌gives◌then◌}

pub data Tree : Type 0 where
  leaf : Tree
  split : (left right : Tree) → Tree

-- pre-order: 1 is a split, its left half and then its right half behind it; 0 is a leaf
abbrev pub marks_of : Tree → List ℕ
marks_of leaf = 0 ∷ []
marks_of (split l r) = 1 ∷ marks_of l ++ marks_of r

-- how far below its root the deepest leaf lies
abbrev pub height : Tree → ℕ
height leaf = 0
height (split l r) = suc (max (height l) (height r))

-- What is walked from a mark on: a tree and the marks behind it, or the refusal of the first breach.
pub data Walked : Type 0 where
  whole : (tree : Tree) (rest : List ℕ) → Walked
  broken : (refusal : ℕ) → Walked

-- a left half that is walked, and then a right half
abbrev pub joined : Tree → Walked → Walked
joined l (whole r rest) = whole (split l r) rest
joined l (broken n) = broken n

abbrev pub and_then : (List ℕ → Walked) → Walked → Walked
and_then walk_right (whole l rest) = joined l (walk_right rest)
and_then walk_right (broken n) = broken n

-- The walk goes down with the depth still allowed. 15: the marks end early, or hold another value. 16: a split at depth 16.
abbrev pub walk : (left : ℕ) (marks : List ℕ) → Walked
walk left [] = broken 15
walk left (zero ∷ rest) = whole leaf rest
walk zero (suc zero ∷ rest) = broken 16
walk (suc left) (suc zero ∷ rest) = and_then (walk left) (walk left rest)
walk left (suc (suc other) ∷ rest) = broken 15

-- 15 too: the marks go on behind the tree. 16, ahead of all: more than 63 marks.
abbrev pub refusal_of : Walked → ℕ
refusal_of (whole t rest) = filled rest gives 15 then 0
refusal_of (broken n) = n

unfoldable pub tree_refusal : List ℕ → ℕ
tree_refusal marks = ltb max_tree (length marks) gives 16 then refusal_of (walk max_height marks)

-- the tree of marks that are accepted; of no others is it asked
abbrev pub tree_in : Walked → Tree
tree_in (whole t rest) = t
tree_in (broken n) = leaf

unfoldable pub tree_of : List ℕ → Tree
tree_of marks = tree_in (walk max_height marks)

-- A leaf's shard: the root is 1, below n lie 2n to the left and 2n + 1 to the right.
abbrev pub leaves_below : ℕ → Tree → List ℕ
leaves_below n leaf = n ∷ []
leaves_below n (split l r) = leaves_below (2 * n) l ++ leaves_below (2 * n + 1) r

abbrev pub leaves : Tree → List ℕ
leaves t = leaves_below 1 t

-- the bit of a route that decides at a depth, the highest at the root: 0 to the left, 1 to the right
abbrev pub bit_at : ℕ → ℕ → ℕ
bit_at d route = top_bits (suc d) route % 2

abbrev pub leaf_below : (depth shard : ℕ) → Tree → ℕ → ℕ
leaf_below d n leaf route = n
leaf_below d n (split l r) route =
    cond (eqb (bit_at d route) 0) (leaf_below (suc d) (2 * n) l route) (leaf_below (suc d) (2 * n + 1) r route)

-- the leaf of a route
abbrev pub leaf_of : Tree → ℕ → ℕ
leaf_of t route = leaf_below 0 1 t route

-- What is proved of these, in words (`proofs/Tree`, `proofs/TreeParts`).

-- What is no tree within the limits is refused: marks are accepted if and only if they are those of a tree within them, and it is the tree read.
pub record WithinLimits (marks : List ℕ) (t : Tree) : Type 0 where
  pub shape : marks ≡ marks_of t
  pub few : length marks ≤ max_tree
  pub low : height t ≤ max_height

pub record Accepted (marks : List ℕ) (t : Tree) : Type 0 where
  pub refusal : tree_refusal marks ≡ 0
  pub tree : tree_of marks ≡ t

-- The first breach from the left, by the depths of the halves that are still to come, the next in front: 15 where its mark is missing or is
-- another value, or where a mark stands and no half is to come; 16 where a half at depth 16 is split.
abbrev pub first_breach : (to_come marks : List ℕ) → ℕ
first_breach [] [] = 0
first_breach [] (m ∷ marks) = 15
first_breach (d ∷ ds) [] = 15
first_breach (d ∷ ds) (zero ∷ marks) = first_breach ds marks
first_breach (d ∷ ds) (suc zero ∷ marks) = eqb d max_height gives 16 then first_breach (suc d ∷ suc d ∷ ds) marks
first_breach (d ∷ ds) (suc (suc other) ∷ marks) = 15

-- the number by that: the length first, then the first breach of a tree whose root is at depth 0
abbrev pub first_refusal : List ℕ → ℕ
first_refusal marks = ltb max_tree (length marks) gives 16 then first_breach (0 ∷ []) marks

-- A route has one leaf: it is a leaf of the tree, it owns the route, and no other leaf does.
pub record OneLeaf (t : Tree) (route : ℕ) : Type 0 where
  pub among : Contains (leaves t) (leaf_of t route)
  pub owner : owns (leaf_of t route) route ≡ true
  pub only : (s : ℕ) → Contains (leaves t) s → owns s route ≡ true → s ≡ leaf_of t route

-- a shard with a route whose leaf it is
pub record HasRoute (t : Tree) (s : ℕ) : Type 0 where
  pub route : ℕ
  pub word : is_word route ≡ true
  pub leaf : leaf_of t route ≡ s

-- every route of the one lies ahead of every route of the other
abbrev pub Ahead : ℕ → ℕ → Type 0
Ahead s s' = (r r' : ℕ) → is_word r ≡ true → is_word r' ≡ true → owns s r ≡ true → owns s' r' ≡ true → r < r'

-- each ahead of all behind it
abbrev pub InOrder : List ℕ → Type 0
InOrder [] = Unit {0}
InOrder (s ∷ l) = Every (Ahead s) l × InOrder l

-- a tree parts the routes: every one has one leaf; the leaves are just those shards, each once, and lie by their routes
pub record Parts (t : Tree) : Type 0 where
  pub one : (route : ℕ) → is_word route ≡ true → OneLeaf t route
  pub leaf : (s : ℕ) → Contains (leaves t) s → HasRoute t s
  pub shard : (s : ℕ) → Contains (leaves t) s → is_shard s ≡ true
  pub once : Distinct (leaves t)
  pub order : InOrder (leaves t)

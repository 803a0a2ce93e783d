-- What a walk of marks notes of a tree, and what it says of one that breaks.
use Rattle.std.specs.Prelude.{ℕ, ◌≡◌, ◌≤◌, ◌<◌, ◌+◌, ◌*◌, ◌^◌, Bool, true, false, cond, eqb, List, length, get_or, drop}
use Rattle.rules.specs.Numbers.{max_height}
use Rattle.rules.specs.Tree.{Tree, leaf, split, marks_of, height, Walked, whole, broken, walk, and_then}

-- where the right half of a split begins: behind the split and its left half
abbrev pub right_of : ℕ → Tree → ℕ
right_of at l = at + 1 + length (marks_of l)

-- The tree stands in the marks from a place on, and at each of its splits where the right half begins.
abbrev pub Noted : (marks right : List ℕ) → ℕ → Tree → Type 0
Noted marks right at leaf = (at < length marks) × (get_or marks at 0 ≡ 0)
Noted marks right at (split l r) =
    ((at < length marks) × (get_or marks at 0 ≡ 1))
    × (get_or right at 0 ≡ right_of at l)
    × Noted marks right (at + 1) l
    × Noted marks right (right_of at l) r

-- What a walk says: of a tree from one place to another, which it notes, and nothing ahead of it; or where it broke.
pub record Whole (walked : Walked) (marks : List ℕ) (from to : ℕ) (old new : List ℕ) : Type 0 where
  pub tree : Tree
  pub shape : walked ≡ whole tree (drop to marks)
  pub end : to ≡ from + length (marks_of tree)
  pub within : to ≤ length marks
  pub noted : Noted marks new from tree
  pub same : (i : ℕ) → i < from → get_or new i 0 ≡ get_or old i 0

-- a split where a walk broke is one too deep; else no mark is there, or another value
abbrev pub breach_at : ℕ → List ℕ → ℕ
breach_at at marks = cond (eqb (get_or marks at 0) 1) 16 15

abbrev pub Says : Bool → Walked → (marks : List ℕ) (from to : ℕ) (old new : List ℕ) → Type 0
Says true w marks from to old new = Whole w marks from to old new
Says false w marks from to old new = w ≡ broken (breach_at to marks)

abbrev pub Goes : Bool → (left : ℕ) (marks : List ℕ) (from to : ℕ) (old new : List ℕ) → Type 0
Goes b left marks from to old new = Says b (walk left (drop from marks)) marks from to old new

-- of the halves of a split
abbrev pub GoesOn : Bool → (left : ℕ) (marks : List ℕ) (from to : ℕ) (old new : List ℕ) → Type 0
GoesOn b left marks from to old new = Says b (and_then (walk left) (walk left (drop (from + 1) marks))) marks from to old new

-- a tree within the limits is noted from the first mark on
pub record OfTree (marks right : List ℕ) : Type 0 where
  pub tree : Tree
  pub low : height tree ≤ max_height
  pub noted : Noted marks right 0 tree
  pub few : length marks ≤ 63

-- a tree that is noted from a place on, its depth, its root's shard, and how many shards stand already
pub record Below (marks right : List ℕ) (at root left stand : ℕ) : Type 0 where
  pub tree : Tree
  pub noted : Noted marks right at tree
  pub low : height tree ≤ left
  pub small : (root + 1) * 2 ^ left ≤ 2 ^ 64
  pub room : 2 * stand + length (marks_of tree) ≤ 63
  pub few : length marks ≤ 63

-- What the walk of marks takes and refuses: just the marks of a tree within the limits, that tree; and of others the first breach from the left. How
-- many leaves a tree has, and in which half of a split a route has its leaf.
-- Assumes nothing.
use Prim.Native.Nat.{ℕ, zero, suc, ◌+◌, ◌*◌, ◌≤◌}
use mathlib.Core.Path.{◌≡◌, refl, sym, ap, ◌∙◌}
use mathlib.Core.Bool.{Bool, true, false}
use mathlib.Core.List.{List, [], ◌∷◌, ◌++◌, append_assoc, append-nil}
use native.Mathlib.Omega.{arith}
use borrow.Author.Tests.{le-ltb, ltb-false, eq-eqb, ne_eqb}
use lib.Dec.{ltb}
use lib.ListN.{length, length-append}
use Rattle.lists.specs.Lists.{filled}
use Rattle.rules.specs.Numbers.{max_tree, max_height}
use Rattle.rules.specs.Outcome.{◌gives◌then◌}
use Rattle.rules.specs.Tree.{Tree, leaf, split, marks_of, height, Walked, whole, broken, joined, and_then, walk, refusal_of, tree_refusal, tree_in, tree_of, bit_at, leaves_below, leaf_below, WithinLimits, Accepted, first_breach, first_refusal}

-- What was walked stands in front of the marks and is no deeper than was allowed; what broke gives 15 or 16.
abbrev Shown : (left : ℕ) (marks : List ℕ) → Walked → Type 0
Shown left marks (whole t rest) = (marks ≡ marks_of t ++ rest) × (height t ≤ left)
Shown left marks (broken n) = 15 ≤ n

shown : (left : ℕ) (marks : List ℕ) → Shown left marks (walk left marks)
shown left [] = omega arith
shown left (zero ∷ rest) = (refl, omega arith)
shown zero (suc zero ∷ rest) = omega arith
shown (suc left) (suc zero ∷ rest) = halves (shown left) (walk left rest) (shown left rest)
  where
    right : (l : Tree) (mid : List ℕ) → Shown left rest (whole l mid) → (w : Walked) → Shown left mid w → Shown (suc left) (1 ∷ rest) (joined l w)
    right l mid a (whole r behind) b =
        (ap (λ m. 1 ∷ m) (a.0 ∙ ap (λ m. marks_of l ++ m) b.0 ∙ sym (append_assoc (marks_of l) (marks_of r) behind)), omega (arith, a.1, b.1))
    right l mid a (broken n) b = b

    halves : ((mid : List ℕ) → Shown left mid (walk left mid)) → (w : Walked) → Shown left rest w → Shown (suc left) (1 ∷ rest) (and_then (walk left) w)
    halves go (whole l mid) a = right l mid a (walk left mid) (go mid)
    halves go (broken n) a = a
shown left (suc (suc other) ∷ rest) = omega arith

-- the marks of a tree that is no deeper are walked to their end
pub walk-marks : (t : Tree) (left : ℕ) (rest : List ℕ) → height t ≤ left → walk left (marks_of t ++ rest) ≡ whole t rest
walk-marks leaf left rest h = refl
walk-marks (split l r) zero rest h = absurd (omega (arith, h))
walk-marks (split l r) (suc left) rest h =
    ap (λ m. and_then (walk left) (walk left m)) (append_assoc (marks_of l) (marks_of r) rest)
    ∙ ap (and_then (walk left)) (walk-marks l left (marks_of r ++ rest) (omega (arith, h)))
    ∙ ap (joined l) (walk-marks r left rest (omega (arith, h)))

-- What is accepted.

pub accepted : (marks : List ℕ) → tree_refusal marks ≡ 0 → WithinLimits marks (tree_of marks)
unfolding tree_refusal tree_of
accepted marks e = by_length (ltb max_tree (length marks)) refl e
  where
    ended : (t : Tree) (rest : List ℕ) → length marks ≤ max_tree → Shown max_height marks (whole t rest) → refusal_of (whole t rest) ≡ 0 → WithinLimits marks t
    ended t [] few s q = record { shape = s.0 ∙ append-nil (marks_of t); few = few; low = s.1 }
    ended t (m ∷ rest) few s q = absurd (omega (arith, q))

    by_walk : (w : Walked) → length marks ≤ max_tree → Shown max_height marks w → refusal_of w ≡ 0 → WithinLimits marks (tree_in w)
    by_walk (whole t rest) few s q = ended t rest few s q
    by_walk (broken n) few s q = absurd (omega (arith, s, q))

    by_length : (b : Bool) → ltb max_tree (length marks) ≡ b → (b gives 16 then refusal_of (walk max_height marks)) ≡ 0 → WithinLimits marks (tree_in (walk max_height marks))
    by_length true t q = absurd (omega (arith, q))
    by_length false t q = by_walk (walk max_height marks) (ltb-false max_tree (length marks) t) (shown max_height marks) q

pub taken : (marks : List ℕ) (t : Tree) → WithinLimits marks t → Accepted marks t
unfolding tree_refusal tree_of
taken marks t w =
    let whole_walk = ap (walk max_height) (w.shape ∙ sym (append-nil (marks_of t))) ∙ walk-marks t max_height [] w.low in
    record { refusal = rw (le-ltb max_tree (length marks) w.few, whole_walk); tree = ap tree_in whole_walk }

pub accepted-height : (marks : List ℕ) → tree_refusal marks ≡ 0 → height (tree_of marks) ≤ 16
accepted-height marks e = (accepted marks e).low

-- The first breach from the left: where the walk breaks, and else where what is left of the marks is broken.
abbrev Goes_on : List ℕ → Walked → ℕ
Goes_on to_come (whole t rest) = first_breach to_come rest
Goes_on to_come (broken n) = n

breach : (left d : ℕ) (marks to_come : List ℕ) → left + d ≡ max_height → first_breach (d ∷ to_come) marks ≡ Goes_on to_come (walk left marks)
breach left d [] to_come h = refl
breach left d (zero ∷ rest) to_come h = refl
breach zero d (suc zero ∷ rest) to_come h = rw (eq-eqb d max_height (omega (arith, h)))
breach (suc left) d (suc zero ∷ rest) to_come h =
    rw (ne_eqb d max_height (λ q. omega (arith, h, q)))
    (breach left (suc d) rest (suc d ∷ to_come) (omega (arith, h)) ∙ halves (walk left rest) (λ mid. breach left (suc d) mid to_come (omega (arith, h))))
  where
    right : (l : Tree) (w : Walked) → Goes_on to_come w ≡ Goes_on to_come (joined l w)
    right l (whole r behind) = refl
    right l (broken n) = refl

    halves : (w : Walked) → ((mid : List ℕ) → first_breach (suc d ∷ to_come) mid ≡ Goes_on to_come (walk left mid)) →
        Goes_on (suc d ∷ to_come) w ≡ Goes_on to_come (and_then (walk left) w)
    halves (whole l mid) go = go mid ∙ right l (walk left mid)
    halves (broken n) go = refl
breach left d (suc (suc other) ∷ rest) to_come h = refl

pub first_of_marks : (marks : List ℕ) → tree_refusal marks ≡ first_refusal marks
unfolding tree_refusal
first_of_marks marks = ap (λ n. ltb max_tree (length marks) gives 16 then n) (sym (breach max_height 0 marks [] refl ∙ behind (walk max_height marks)))
  where
    ended : (rest : List ℕ) → first_breach [] rest ≡ (filled rest gives 15 then 0)
    ended [] = refl
    ended (m ∷ rest) = refl

    behind : (w : Walked) → Goes_on [] w ≡ refusal_of w
    behind (whole t rest) = ended rest
    behind (broken n) = refl

-- one leaf more than splits
pub marks-leaves : (n : ℕ) (t : Tree) → 2 * length (leaves_below n t) ≡ suc (length (marks_of t))
marks-leaves n leaf = refl
marks-leaves n (split l r) =
    omega (
      arith,
      length-append (leaves_below (2 * n) l) (leaves_below (2 * n + 1) r),
      length-append (marks_of l) (marks_of r),
      marks-leaves (2 * n) l,
      marks-leaves (2 * n + 1) r,
    )

-- a leaf lies in the half that the next bit says
module _ (d n : ℕ) (l r : Tree) (route : ℕ) where
  pub leaf_left : bit_at d route ≡ 0 → leaf_below d n (split l r) route ≡ leaf_below (suc d) (2 * n) l route
  leaf_left e = rw (eq-eqb (bit_at d route) 0 e)

  pub leaf_right : bit_at d route ≡ 1 → leaf_below d n (split l r) route ≡ leaf_below (suc d) (2 * n + 1) r route
  leaf_right e = rw (ne_eqb (bit_at d route) 0 (λ q. omega (arith, e, q)))

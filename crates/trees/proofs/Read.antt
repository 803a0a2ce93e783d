-- What the table says of some marks, by what the walk of them comes to.
-- Assumes nothing.
use Prim.Native.Nat.{ℕ, ◌+◌, ◌≤◌, ◌<◌}
use mathlib.Core.Path.{◌≡◌, sym, ap, ◌∙◌}
use mathlib.Core.List.{List, [], ◌∷◌}
use borrow.Author.Tests.{lt-ltb, le-ltb}
use lib.ListN.{length, get_or, drop}
use Rattle.lists.proofs.Cuts.{rest_more, rest-none}
use Rattle.rules.specs.Tree.{whole, Walked, walk, refusal_of, tree_in, tree_refusal, tree_of}
use Rattle.rules.proofs.Tree.{accepted}
use Rattle.trees.specs.Walks.{Noted, Whole, OfTree}

module _ (marks : List ℕ) where
  pub too_many : 63 < length marks → 16 ≡ tree_refusal marks
  unfolding tree_refusal
  too_many h = rw (lt-ltb 63 (length marks) h)

  module _ (few : length marks ≤ 63) (from : ℕ) (first : from ≡ 0) where
    pub walked : (w : Walked) → walk 16 (drop from marks) ≡ w → tree_refusal marks ≡ refusal_of w
    unfolding tree_refusal
    walked w e = rw (le-ltb 63 (length marks) few) (ap (λ i. refusal_of (walk 16 (drop i marks))) (sym first) ∙ ap refusal_of e)

    module _ (to : ℕ) (old new : List ℕ) (w : Whole (walk 16 (drop from marks)) marks from to old new) where
      -- marks go on behind the tree, or none do
      pub goes_on : to < length marks → 15 ≡ tree_refusal marks
      goes_on h = sym (walked (whole w.tree (get_or marks to 0 ∷ drop (to + 1) marks)) (w.shape ∙ ap (whole w.tree) (rest_more 0 marks to h)))

      pub ends : length marks ≤ to → 0 ≡ tree_refusal marks
      ends h = sym (walked (whole w.tree []) (w.shape ∙ ap (whole w.tree) (rest-none marks to h)))

      pub read_noted : Noted marks new 0 (tree_of marks)
      unfolding tree_of
      read_noted =
          let same : w.tree ≡ tree_in (walk 16 marks) = ap tree_in (sym w.shape) ∙ ap (λ i. tree_in (walk 16 (drop i marks))) first in
          rw (sym first, sym same) w.noted

  -- marks that were read are those of a tree within the limits
  pub of_read : (right : List ℕ) → 0 ≡ tree_refusal marks → Noted marks right 0 (tree_of marks) → OfTree marks right
  of_read right e n = let w = accepted marks (sym e) in record { tree = tree_of marks; low = w.low; noted = n; few = w.few }

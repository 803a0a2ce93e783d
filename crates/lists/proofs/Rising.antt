-- A list in the front of an array that stands for items which rise by a key: one put in at a place, and one that was found written anew.
-- Assumes nothing.
use Prim.Native.Nat.{ℕ, ◌<◌}
use mathlib.Core.Path.{◌≡◌, sym, ap, ◌∙◌}
use mathlib.Core.List.{List, map}
use native.Mathlib.Omega.{arith}
use lib.ListN.{get_or, set}
use Rattle.std.specs.Prelude.{Some}
use Rattle.lists.specs.Lists.{at, change, Ascending}
use Rattle.lists.specs.Arrays.{insert_at, place}
use Rattle.lists.specs.Front.{held}
use Rattle.lists.specs.declared.front.Front.{Front}
use Rattle.lists.proofs.Held.{held_at, mapped-length}
use Rattle.lists.proofs.Order.{ascending-change_if}
use Rattle.lists.proofs.Loops.{located}
use Rattle.lists.proofs.Distinct.{map-insert_at}
use Rattle.lists.proofs.Pairs.{changed_in}

module _ {A B : Type 0} {n : ℕ} (x : Front A n) (g : A → B) where
  pub inserted : (k : ℕ) (y : A) {l : List A} → l ≡ insert_at k y (held x) → map g l ≡ insert_at k (g y) (map g (held x))
  inserted k y e = ap (map g) e ∙ map-insert_at g k y (held x)

  module _ (key : B → ℕ) (rises : Ascending key (map g (held x))) (t : ℕ) {i : ℕ} (found : place (at key t) 0 (map g (held x)) ≡ Some i) where
    pub found-below : i < x.len
    found-below = omega (arith, (located key t (map g (held x)) i found).below, mapped-length x g)

    -- f is what is done to the item, and leaves its key
    module _ (f : B → B) (d y : A) {l : List A} (put : l ≡ set (held x) i y) (is : g y ≡ f (g (get_or x.items i d))) where
      pub renewed : map g l ≡ change key t f (map g (held x))
      renewed = ap (map g) put ∙ changed_in g key t f d (held x) i y rises found (is ∙ ap (λ z. f (g z)) (sym (held_at x i d found-below)))

      pub renewed_rises : ((z : B) → key (f z) ≡ key z) → Ascending key (map g l)
      renewed_rises same = rw renewed (ascending-change_if key (at key t) f same (map g (held x)) rises)

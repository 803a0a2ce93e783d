-- What flags keep of a rising list rises, and what they keep of a list whose members all have a property all has it.
-- Assumes nothing.
use Prim.Native.Nat.{ℕ, ◌≤◌}
use mathlib.Core.Path.{◌≡◌, ap, ◌∙◌}
use mathlib.Core.Bool.{Bool, true, false}
use mathlib.Core.List.{List, [], ◌∷◌}
use lib.ListN.{length, take}
use lib.Seq.{length-take-le}
use Rattle.lists.specs.Arrays.{Kept}
use Rattle.lists.specs.Lists.{Every, Above, Ascending, keep_by}

module _ {A : Type 0} where
  -- the first n flags stand for the first n items
  pub flagged : (stay : List Bool) (n : ℕ) (a b : List A) (m : ℕ) → n ≤ length stay → Kept (take n stay) a b m → take m b ≡ keep_by (take n stay) (take n a)
  flagged stay n a b m h k = k.front ∙ ap (λ i. keep_by (take n stay) (take i a)) (length-take-le n stay h)

  pub every_kept : (P : A → Type 0) (fs : List Bool) (l : List A) → Every P l → Every P (keep_by fs l)
  every_kept P [] l v = tt
  every_kept P (b ∷ fs) [] v = tt
  every_kept P (true ∷ fs) (x ∷ l) v = (v.0, every_kept P fs l v.1)
  every_kept P (false ∷ fs) (x ∷ l) v = every_kept P fs l v.1

  module _ (key : A → ℕ) where
    kept_above : (k : ℕ) (fs : List Bool) (l : List A) → Above key k l → Above key k (keep_by fs l)
    kept_above k [] l v = tt
    kept_above k (b ∷ fs) [] v = tt
    kept_above k (true ∷ fs) (x ∷ l) v = (v.0, kept_above k fs l v.1)
    kept_above k (false ∷ fs) (x ∷ l) v = kept_above k fs l v.1

    pub kept_rises : (fs : List Bool) (l : List A) → Ascending key l → Ascending key (keep_by fs l)
    kept_rises [] l v = tt
    kept_rises (b ∷ fs) [] v = tt
    kept_rises (true ∷ fs) (x ∷ l) v = (kept_above (key x) fs l v.0, kept_rises fs l v.1)
    kept_rises (false ∷ fs) (x ∷ l) v = kept_rises fs l v.1

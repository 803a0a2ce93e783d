-- The facts that stand in a type have at most one proof each.
use Rattle.std.specs.Prelude.{ℕ, ◌<◌, List, [], ◌∷◌}
use Rattle.std.specs.Coded.{×_prop, Unit-prop, le_prop, Coded-set, coded_bool}
use Rattle.lists.specs.Lists.{Every, Above, Ascending}
use Rattle.lists.specs.Arrays.{Distinct}

pub Distinct-prop : (l : List ℕ) → IsProp (Distinct l)
Distinct-prop [] = Unit-prop
Distinct-prop (x ∷ l) = ×_prop (Coded-set coded_bool _ _) (Distinct-prop l)

pub Below-prop : (n : ℕ) (l : List ℕ) → IsProp (Every (λ x. x < n) l)
Below-prop n [] = Unit-prop
Below-prop n (x ∷ l) = ×_prop le_prop (Below-prop n l)

module _ {A : Type 0} (key : A → ℕ) where
  Above-prop : (k : ℕ) (l : List A) → IsProp (Above key k l)
  Above-prop k [] = Unit-prop
  Above-prop k (x ∷ l) = ×_prop le_prop (Above-prop k l)

  pub Ascending-prop : (l : List A) → IsProp (Ascending key l)
  Ascending-prop [] = Unit-prop
  Ascending-prop (x ∷ l) = ×_prop (Above-prop (key x) l) (Ascending-prop l)

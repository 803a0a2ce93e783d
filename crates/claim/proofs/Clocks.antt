-- Clocks that pass the test are times and never fall.
-- Assumes nothing.
use Prim.Native.Nat.{ℕ}
use mathlib.Core.Path.{◌≡◌, refl}
use mathlib.Core.Bool.{true, ◌&&◌}
use mathlib.Core.List.{List, [], ◌∷◌}
use lib.Dec.{leb}
use borrow.Author.Tests.{leb-true}
use Rattle.lists.specs.Lists.{all}
use Rattle.lists.proofs.Tests.{and_left, and_right, and_both}
use Rattle.rules.specs.Numbers.{is_time}
use Rattle.rules.specs.Prune.{Steady}
use Rattle.claim.specs.Series.{steady}

pub steady-times : (t : ℕ) (cs : List ℕ) → steady t cs ≡ true → all is_time cs ≡ true
steady-times t [] s = refl
steady-times t (u ∷ us) s =
    and_both (is_time u) (all is_time us) (and_right (leb t u) (is_time u) (and_left (leb t u && is_time u) (steady u us) s))
    (steady-times u us (and_right (leb t u && is_time u) (steady u us) s))

pub steady_so : (t : ℕ) (cs : List ℕ) → steady t cs ≡ true → Steady t cs
steady_so t [] s = tt
steady_so t (u ∷ us) s = (
  leb-true t u (and_left (leb t u) (is_time u) (and_left (leb t u && is_time u) (steady u us) s)),
  steady_so u us (and_right (leb t u && is_time u) (steady u us) s),
)

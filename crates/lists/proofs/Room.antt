-- Rising numbers that all stand in a list are no more than the list has: each takes its own place away.
-- Assumes nothing.
use Prim.Native.Nat.{ℕ, suc, ◌≤◌, ◌<◌}
use mathlib.Core.Path.{◌≡◌, refl, ap, ◌∙◌}
use mathlib.Core.List.{List, [], ◌∷◌}
use mathlib.Core.Bool.{Bool, true, false, not, ◌||◌, false≢true}
use native.Mathlib.Omega.{arith}
use borrow.Author.Tests.{eqb-true, ne_eqb}
use lib.Dec.{eqb}
use lib.ListN.{length}
use Rattle.lists.specs.Lists.{cons_if, Every, has, without, Above, Ascending, self}
use Rattle.lists.proofs.Keep.{length-keep}

fewer : (x : ℕ) (s : List ℕ) → has self x s ≡ true → suc (length (without self x s)) ≤ length s
fewer x [] h = absurd (false≢true h)
fewer x (y ∷ s) h = go (eqb y x) h (fewer x s)
  where
    go : (b : Bool) → b || has self x s ≡ true → (has self x s ≡ true → suc (length (without self x s)) ≤ length s) →
        suc (length (cons_if (not b) y (without self x s))) ≤ suc (length s)
    go true q ih = omega (arith, length-keep (λ (z : ℕ). not (eqb z x)) s)
    go false q ih = omega (arith, ih q)

others : (x z : ℕ) (s : List ℕ) → x < z → has self z (without self x s) ≡ has self z s
others x z [] h = refl
others x z (y ∷ s) h = go (eqb y x) refl (others x z s h)
  where
    go : (b : Bool) → eqb y x ≡ b → has self z (without self x s) ≡ has self z s → has self z (cons_if (not b) y (without self x s)) ≡ eqb y z || has self z s
    go true u ih = rw (ne_eqb y z (omega (arith, eqb-true y x u))) ih
    go false u ih = ap (λ m. eqb y z || m) ih

still : (x : ℕ) (l s : List ℕ) → Above self x l → Every (λ z. has self z s ≡ true) l → Every (λ z. has self z (without self x s) ≡ true) l
still x [] s a v = tt
still x (y ∷ l) s a v = (others x y s a.0 ∙ v.0, still x l s a.1 v.1)

pub rising-within : (l s : List ℕ) → Ascending self l → Every (λ x. has self x s ≡ true) l → length l ≤ length s
rising-within [] s a v = omega arith
rising-within (x ∷ l) s a v =
    omega (arith, fewer x s v.0, rising-within l (without self x s) a.1 (still x l s a.0 v.1))

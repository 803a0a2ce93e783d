-- Several transactions let go at once: those whose flag is down, put at the front one by one, and the pairs that are left without them.
-- Assumes nothing.
use Prim.Native.Nat.{ℕ, ◌+◌, ◌≤◌, ◌<◌}
use mathlib.Core.Path.{◌≡◌, refl, sym, ap, ◌∙◌}
use mathlib.Core.Bool.{Bool, true, false, not, ◌&&◌, ◌||◌}
use mathlib.Core.List.{List, [], ◌∷◌}
use native.Mathlib.Omega.{arith}
use lib.Dec.{eqb}
use lib.ListN.{length, take, drop, get_or}
use Rattle.lists.specs.Lists.{keep, has, self}
use Rattle.lists.proofs.Tests.{eqb_swap}
use Rattle.lists.proofs.Keep.{keep_same, keep_and, keep_all}
use Rattle.lists.proofs.Loops.{rest-cons, rest_end}
use Rattle.rules.specs.Index.{Pair}
use Rattle.store.specs.Issuers.{is_not}
use Rattle.store.specs.Leaving.{unnamed_by, is_dropped, dropped_by}

-- where nobody is gone, nothing is unnamed
pub none-gone : (bs : List Bool) (ts : List ℕ) (ps : List Pair) → dropped_by bs ts ≡ [] → unnamed_by bs ts ps ≡ ps
none-gone [] ts ps e = refl
none-gone (b ∷ bs) [] ps e = refl
none-gone (true ∷ bs) (t ∷ ts) ps e = none-gone bs ts ps e
none-gone (false ∷ bs) (t ∷ ts) ps e = absurd (omega (arith, ap length e))

-- the same where those who are gone are the first n of an array, and n is 0
pub nobody : (bs : List Bool) (ts : List ℕ) (ps : List Pair) (l : List ℕ) (n : ℕ) → take n l ≡ dropped_by bs ts → n ≡ 0 → ps ≡ unnamed_by bs ts ps
nobody bs ts ps l n e z = sym (none-gone bs ts ps (sym e ∙ ap (λ m. take m l) z))

-- those from i on whose flag is down, which are still to come
module _ (stay : List Bool) (keys : List ℕ) (i n : ℕ) (h₂ : n ≤ length stay) (h₃ : n ≤ length keys) where
  abbrev coming : ℕ → List ℕ
  coming j = dropped_by (drop j (take n stay)) (drop j (take n keys))

  pub coming_stays : i < n → get_or stay i false ≡ true → coming i ≡ coming (i + 1)
  coming_stays h f = rw (rest-cons false stay i n h h₂, rest-cons 0 keys i n h h₃, f)

  pub coming_leaves : i < n → get_or stay i false ≡ false → coming i ≡ get_or keys i 0 ∷ coming (i + 1)
  coming_leaves h f = rw (rest-cons false stay i n h h₂, rest-cons 0 keys i n h h₃, f)

  pub coming_end : n ≤ i → coming i ≡ []
  coming_end h = rw (rest_end stay i n h h₂)

-- a transaction is gone if it is among those
pub gone-among : (bs : List Bool) (ts : List ℕ) (t : ℕ) → is_dropped bs ts t ≡ has self t (dropped_by bs ts)
gone-among [] ts t = refl
gone-among (b ∷ bs) [] t = refl
gone-among (true ∷ bs) (u ∷ ts) t = gone-among bs ts t
gone-among (false ∷ bs) (u ∷ ts) t = rw (eqb_swap t u) (ap (λ c. eqb u t || c) (gone-among bs ts t))

-- the pair's transaction is not among these
abbrev pub apart : List ℕ → Pair → Bool
apart ts q = not (has self q.transaction ts)

-- the pairs that are left are those of transactions that are not gone
abbrev pub remains : List Bool → List ℕ → Pair → Bool
remains bs ts q = not (is_dropped bs ts q.transaction)

not_either : (a b : Bool) → not a && not b ≡ not (a || b)
not_either true b = refl
not_either false b = refl

pub unnamed_keep : (bs : List Bool) (ts : List ℕ) (ps : List Pair) → unnamed_by bs ts ps ≡ keep (remains bs ts) ps
unnamed_keep [] ts ps = sym (keep_all ps)
unnamed_keep (b ∷ bs) [] ps = sym (keep_all ps)
unnamed_keep (true ∷ bs) (t ∷ ts) ps = unnamed_keep bs ts ps
unnamed_keep (false ∷ bs) (t ∷ ts) ps =
    unnamed_keep bs ts (keep (is_not t) ps)
    ∙ keep_and (is_not t) (remains bs ts) ps
    ∙ keep_same (λ q. is_not t q && remains bs ts q) (remains (false ∷ bs) (t ∷ ts)) ps (λ q _. not_either (eqb q.transaction t) (is_dropped bs ts q.transaction))

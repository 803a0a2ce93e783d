-- Rows of one length, cut one after the other: one more of them, and the one at a place.
-- Assumes nothing.
use Prim.Native.Nat.{ℕ, zero, suc, ◌+◌, ◌*◌, ◌<◌}
use mathlib.Core.Path.{◌≡◌, sym, ap, ◌∙◌}
use mathlib.Core.List.{List, [], ◌∷◌, ◌++◌}
use native.Mathlib.Omega.{arith}
use native.Mathlib.Nat.{mul-suc, suc-add}
use lib.ListN.{take, drop}
use lib.Seq.{drop-drop}
use Rattle.lists.specs.Lists.{part, rows}

pub rows_more : (k n : ℕ) (l : List ℕ) → rows k (suc n) l ≡ rows k n l ++ (take k (drop (k * n) l) ∷ [])
rows_more k zero l = ap (λ j. take k (drop j l) ∷ []) (let z : 0 ≡ k * 0 = omega arith in z)
rows_more k (suc n) l =
    ap (λ m. take k l ∷ m) (rows_more k n (drop k l) ∙ ap (λ m. rows k n (drop k l) ++ (take k m ∷ [])) (drop-drop (k * n) k l ∙ ap (λ j. drop j l) (let z : k + k * n ≡ k * suc n = omega (arith, mul-suc k n) in z)))

-- the row at a place, and those behind it
pub row_next : (k n i : ℕ) (l : List ℕ) → i < n → drop i (rows k n l) ≡ part (k * i) k l ∷ drop (i + 1) (rows k n l)
row_next k zero i l h = absurd (omega arith)
row_next k (suc n) zero l h = ap (λ j. take k (drop j l) ∷ rows k n (drop k l)) (let z : 0 ≡ k * 0 = omega arith in z)
row_next k (suc n) (suc i) l h =
    row_next k n i (drop k l) (omega (arith, h))
    ∙ ap (λ m. take k m ∷ drop (i + 1) (rows k n (drop k l))) (drop-drop (k * i) k l ∙ ap (λ j. drop j l) (let z : k + k * i ≡ k * suc i = omega (arith, mul-suc k i) in z))
    ∙ ap (λ m. part (k * suc i) k l ∷ m) (sym (ap (λ j. drop j (rows k (suc n) l)) (suc-add i 1)))

pub row_read : (k n i : ℕ) (l row : List ℕ) → i < n → row ≡ part (k * i) k l → drop i (rows k n l) ≡ row ∷ drop (i + 1) (rows k n l)
row_read k n i l row h e = row_next k n i l h ∙ ap (λ m. m ∷ drop (i + 1) (rows k n l)) (sym e)

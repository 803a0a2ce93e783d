-- Parts of a list of words: what holds of each element of the whole holds of each of a part, and how long parts are.
-- Assumes nothing.
use Prim.Native.Nat.{ℕ, zero, suc, ◌≤◌}
use mathlib.Core.Path.{◌≡◌}
use mathlib.Core.List.{List, [], ◌∷◌}
use mathlib.Core.Bool.{true}
use native.Mathlib.Omega.{arith}
use lib.Dec.{leb}
use lib.ListN.{length, get_or, take, drop, length-take}
use borrow.Author.Tests.{leb-true}
use Rattle.lists.specs.Lists.{Every, zip_by, part, cut}

module _ {A : Type 0} where
  pub every_take : (P : A → Type 0) (n : ℕ) (l : List A) → Every P l → Every P (take n l)
  every_take P zero l v = tt
  every_take P (suc n) [] v = tt
  every_take P (suc n) (x ∷ l) v = (v.0, every_take P n l v.1)

  pub every_drop : (P : A → Type 0) (n : ℕ) (l : List A) → Every P l → Every P (drop n l)
  every_drop P zero l v = v
  every_drop P (suc n) [] v = tt
  every_drop P (suc n) (x ∷ l) v = every_drop P n l v.1

  pub every_get_d : (P : A → Type 0) (d : A) (i : ℕ) (l : List A) → P d → Every P l → P (get_or l i d)
  every_get_d P d i [] q v = q
  every_get_d P d zero (x ∷ l) q v = v.0
  every_get_d P d (suc i) (x ∷ l) q v = every_get_d P d i l q v.1

pub every_part : (P : ℕ → Type 0) (from n : ℕ) (l : List ℕ) → Every P l → Every P (part from n l)
every_part P from n l v = every_take P n (drop from l) (every_drop P from l v)

pub length_part : (from n : ℕ) (l : List ℕ) → length (part from n l) ≤ n
length_part from n l = omega (arith, length-take n (drop from l))

module _ {A B C : Type 0} where
  pub every_zip_by : (P : A → Type 0) (Q : B → Type 0) (R : C → Type 0) (f : A → B → C) → ((x : A) (y : B) → P x → Q y → R (f x y)) →
      (xs : List A) (ys : List B) → Every P xs → Every Q ys → Every R (zip_by f xs ys)
  every_zip_by P Q R f c [] ys v w = tt
  every_zip_by P Q R f c (x ∷ xs) [] v w = tt
  every_zip_by P Q R f c (x ∷ xs) (y ∷ ys) v w = (c x y v.0 w.0, every_zip_by P Q R f c xs ys v.1 w.1)

  pub length-zip_by : (f : A → B → C) (xs : List A) (ys : List B) → length (zip_by f xs ys) ≤ length xs
  length-zip_by f [] ys = omega arith
  length-zip_by f (x ∷ xs) [] = omega arith
  length-zip_by f (x ∷ xs) (y ∷ ys) = omega (arith, length-zip_by f xs ys)

-- each of the lists that are cut apart is within the limit, and has what the whole has
pub every_cut : (P : ℕ → Type 0) (limit : ℕ) (sizes l : List ℕ) → Every (λ n. leb n limit ≡ true) sizes → Every P l →
    Every (λ (m : List ℕ). (length m ≤ limit) × Every P m) (cut sizes l)
every_cut P limit [] l s v = tt
every_cut P limit (n ∷ ns) l s v =
    ((omega (arith, leb-true n limit s.0, length-take n l), every_take P n l v), every_cut P limit ns (drop n l) s.1 (every_drop P n l v))

-- two facts of each
pub every_both : {A : Type 0} (P Q : A → Type 0) (l : List A) → Every P l → Every Q l → Every (λ x. P x × Q x) l
every_both P Q [] v w = tt
every_both P Q (x ∷ l) v w = ((v.0, w.0), every_both P Q l v.1 w.1)

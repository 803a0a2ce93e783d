-- What loops over fronts of arrays that are read off one list cite: the front at a place, filled by one more, and gone through downwards.
-- Assumes nothing.
use Prim.Native.Nat.{ℕ, zero, suc, ◌+◌, ◌-◌, ◌≤◌, ◌<◌}
use mathlib.Core.Path.{◌≡◌, sym, ap, ◌∙◌}
use mathlib.Core.List.{List, [], ◌∷◌, map, map-append}
use native.Mathlib.Numerals.{add-one}
use native.Mathlib.Omega.{arith}
use lib.ListN.{length, take, drop, get_or, set, replicate}
use lib.Seq.{drop-cons, take-suc, take-suc-set}
use Rattle.lists.specs.Lists.{Every}

-- one more is read off into the front
pub fill_one : {A B : Type 0} (f : A → B) (a : List B) (l : List A) (i : ℕ) (d : A) (y : B) → i < length a → i < length l → y ≡ f (get_or l i d) →
    take i a ≡ map f (take i l) → take (i + 1) (set a i y) ≡ map f (take (i + 1) l)
fill_one f a l i d y h k e r =
    rw (add-one i, take-suc-set a i y h, take-suc l i d k, map-append f (take i l) (get_or l i d ∷ []), r, e)

-- the same where the element is what the rest begins with
pub fill_next : {A B : Type 0} (f : A → B) (a : List B) (l : List A) (i : ℕ) (x : A) (y : B) → i < length a → i < length l → drop i l ≡ x ∷ drop (i + 1) l → y ≡ f x →
    take i a ≡ map f (take i l) → take (i + 1) (set a i y) ≡ map f (take (i + 1) l)
fill_next f a l i x y h k e q r =
    let same : get_or l i x ≡ x = ap (λ m. get_or m 0 x) (sym (drop-cons l i x k) ∙ e) in
    fill_one f a l i x y h k (q ∙ ap f (sym same)) r

-- the rest from one place further down
pub rest_down : {A : Type 0} (l : List A) (i : ℕ) (d : A) → 0 < i → i ≤ length l → drop (i - 1) l ≡ get_or l (i - 1) d ∷ drop i l
rest_down l i d p h =
    let s : suc (i - 1) ≡ i = omega arith in
    drop-cons l (i - 1) d (omega arith) ∙ ap (λ m. get_or l (i - 1) d ∷ drop m l) s

pub every_same : {A : Type 0} (P : A → Type 0) (n : ℕ) (x : A) → P x → Every P (replicate n x)
every_same P zero x h = tt
every_same P (suc n) x h = (h, every_same P n x h)

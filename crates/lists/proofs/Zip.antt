-- Two lists side by side: how long, what stands at a place, what is left from a place on, and one more put in at a place; and
-- the same of joined lists cut apart.
-- Assumes nothing.
use Prim.Native.Nat.{ℕ, zero, suc, ◌+◌, ◌≤◌, ◌<◌}
use mathlib.Core.Path.{◌≡◌, refl, ap, ◌∙◌}
use mathlib.Core.List.{List, [], ◌∷◌}
use mathlib.Core.Bool.{Bool, true, false}
use native.Mathlib.Omega.{arith}
use lib.ListN.{length, take, drop, get_or}
use lib.Seq.{drop-drop, get_or-take, length-take-le}
use Rattle.lists.specs.Lists.{keep_by, zip_by, cut, total, self}
use Rattle.lists.specs.Arrays.{insert_at}

module _ {A B C : Type 0} (f : A → B → C) where
  pub length-zip : (xs : List A) (ys : List B) → length xs ≡ length ys → length (zip_by f xs ys) ≡ length xs
  length-zip [] ys h = refl
  length-zip (x ∷ xs) [] h = absurd (omega arith)
  length-zip (x ∷ xs) (y ∷ ys) h = ap suc (length-zip xs ys (omega arith))

  pub get_d_zip : (i : ℕ) (a : A) (b : B) (c : C) (xs : List A) (ys : List B) → i < length xs → i < length ys →
      get_or (zip_by f xs ys) i c ≡ f (get_or xs i a) (get_or ys i b)
  get_d_zip i a b c [] ys h k = absurd (omega arith)
  get_d_zip i a b c (x ∷ xs) [] h k = absurd (omega arith)
  get_d_zip zero a b c (x ∷ xs) (y ∷ ys) h k = refl
  get_d_zip (suc i) a b c (x ∷ xs) (y ∷ ys) h k = get_d_zip i a b c xs ys (omega arith) (omega arith)

  insert-zip : (k : ℕ) (a : A) (b : B) (xs : List A) (ys : List B) → k ≤ length xs → k ≤ length ys →
      zip_by f (insert_at k a xs) (insert_at k b ys) ≡ insert_at k (f a b) (zip_by f xs ys)
  insert-zip zero a b xs ys h k = refl
  insert-zip (suc i) a b [] ys h k = absurd (omega arith)
  insert-zip (suc i) a b (x ∷ xs) [] h k = absurd (omega arith)
  insert-zip (suc i) a b (x ∷ xs) (y ∷ ys) h k = ap (λ m. f x y ∷ m) (insert-zip i a b xs ys (omega arith) (omega arith))

-- two arrays of which the first n count
module _ {A B C : Type 0} (f : A → B → C) (xs : List A) (ys : List B) (n : ℕ) (h : n ≤ length xs) (k : n ≤ length ys) where
  pub pairs-at : (a : A) (b : B) (c : C) (i : ℕ) → i < n → get_or (zip_by f (take n xs) (take n ys)) i c ≡ f (get_or xs i a) (get_or ys i b)
  pairs-at a b c i l =
      get_d_zip f i a b c (take n xs) (take n ys) (omega (arith, length-take-le n xs h)) (omega (arith, length-take-le n ys k))
      ∙ rw (get_or-take n xs i a l, get_or-take n ys i b l)

  -- both with one put in at the same place
  pub insert-pairs : (i : ℕ) (a : A) (b : B) (us : List A) (vs : List B) → i ≤ n → take (n + 1) us ≡ insert_at i a (take n xs) → take (n + 1) vs ≡ insert_at i b (take n ys) →
      zip_by f (take (n + 1) us) (take (n + 1) vs) ≡ insert_at i (f a b) (zip_by f (take n xs) (take n ys))
  insert-pairs i a b us vs l p q =
      rw (p, q) (insert-zip f i a b (take n xs) (take n ys) (omega (arith, length-take-le n xs h)) (omega (arith, length-take-le n ys k)))

pub length_cut : (sizes l : List ℕ) → length (cut sizes l) ≡ length sizes
length_cut [] l = refl
length_cut (n ∷ ns) l = ap suc (length_cut ns (drop n l))

-- the list at a place starts after all those before it
pub get_d_cut : (i : ℕ) (sizes l : List ℕ) → i < length sizes →
    get_or (cut sizes l) i [] ≡ take (get_or sizes i 0) (drop (total self (take i sizes)) l)
get_d_cut i [] l h = absurd (omega arith)
get_d_cut zero (n ∷ ns) l h = refl
get_d_cut (suc i) (n ∷ ns) l h =
    get_d_cut i ns (drop n l) (omega arith) ∙ ap (λ m. take (get_or ns i 0) m) (drop-drop (total self (take i ns)) n l)

-- kept by the same flags, two lists of one length stay side by side
module _ {A B : Type 0} where
  pub kept-length : (fs : List Bool) (xs : List A) (ys : List B) → length xs ≡ length ys → length (keep_by fs xs) ≡ length (keep_by fs ys)
  kept-length [] xs ys h = refl
  kept-length (b ∷ fs) [] [] h = refl
  kept-length (b ∷ fs) [] (y ∷ ys) h = absurd (omega arith)
  kept-length (b ∷ fs) (x ∷ xs) [] h = absurd (omega arith)
  kept-length (true ∷ fs) (x ∷ xs) (y ∷ ys) h = ap suc (kept-length fs xs ys (omega arith))
  kept-length (false ∷ fs) (x ∷ xs) (y ∷ ys) h = kept-length fs xs ys (omega arith)

  pub kept-pairs : {C : Type 0} (f : A → B → C) (fs : List Bool) (xs : List A) (ys : List B) → length xs ≡ length ys →
      zip_by f (keep_by fs xs) (keep_by fs ys) ≡ keep_by fs (zip_by f xs ys)
  kept-pairs f [] xs ys h = refl
  kept-pairs f (b ∷ fs) [] ys h = refl
  kept-pairs f (b ∷ fs) (x ∷ xs) [] h = absurd (omega arith)
  kept-pairs f (true ∷ fs) (x ∷ xs) (y ∷ ys) h = ap (λ l. f x y ∷ l) (kept-pairs f fs xs ys (omega arith))
  kept-pairs f (false ∷ fs) (x ∷ xs) (y ∷ ys) h = kept-pairs f fs xs ys (omega arith)

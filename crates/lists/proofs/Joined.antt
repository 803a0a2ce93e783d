-- Lists that are joined and cut apart again, both ways round, and the parts of a list of words.
-- Assumes nothing.
use Prim.Native.Nat.{ℕ, zero, suc, ◌+◌, ◌*◌, ◌≤◌, ◌<◌}
use mathlib.Core.Path.{◌≡◌, refl, sym, ap, ap₂, ◌∙◌}
use mathlib.Core.List.{List, [], ◌∷◌, ◌++◌, map, map-map, append_assoc}
use native.Mathlib.Nat.{mul-suc, suc-add}
use native.Mathlib.Omega.{arith}
use lib.ListN.{length, take, drop, get_or, replicate, length-map, length-append, length-drop, take-append-drop, length-replicate}
use lib.Seq.{take_at, take-append_seam, drop-append_seam, drop-drop, length-take-le, take-append-le, drop-append-le, take-nil}
use Rattle.lists.specs.Lists.{Every, total, concat_map, self, part, cut, rows}
use Rattle.lists.proofs.Cuts.{rest_more}
use Rattle.lists.proofs.Keep.{every_always, every_more}
use Rattle.lists.proofs.Listing.{length-words}
use Rattle.lists.proofs.Parts.{every_take, every_drop}
use Rattle.lists.proofs.Zip.{length_cut}

-- the rest behind a part
pub behind : (n : ℕ) (l a b : List ℕ) → drop n l ≡ a ++ b → drop (n + length a) l ≡ b
behind n l a b e = sym (drop-drop (length a) n l) ∙ ap (drop (length a)) e ∙ drop-append_seam a b

-- the part that stands at a place
pub stands_at : (n k : ℕ) (l a b : List ℕ) → drop n l ≡ a ++ b → length a ≡ k → part n k l ≡ a
stands_at n k l a b e h = ap (take k) e ∙ take_at a b k h

-- a part and what is behind it, or a word and what is behind it
pub part_then : (n k next : ℕ) (l m : List ℕ) → n + k ≡ next → drop next l ≡ m → drop n l ≡ part n k l ++ m
part_then n k next l m h e =
    sym (take-append-drop k (drop n l)) ∙ ap (λ b. part n k l ++ b) (drop-drop k n l ∙ ap (λ i. drop i l) h ∙ e)

pub word_then : (n : ℕ) (l m : List ℕ) → n < length l → drop (n + 1) l ≡ m → drop n l ≡ get_or l n 0 ∷ m
word_then n l m h e = rest_more 0 l n h ∙ ap (λ b. get_or l n 0 ∷ b) e

-- the word that stands at a place
pub word_at : (n : ℕ) (l : List ℕ) (x : ℕ) (m : List ℕ) → drop n l ≡ x ∷ m → get_or l n 0 ≡ x
word_at zero l x m e = ap (λ k. get_or k 0 0) e
word_at (suc n) [] x m e = ap (λ k. get_or k 0 0) e
word_at (suc n) (y ∷ l) x m e = word_at n l x m e

-- the parts of a front
pub part_append : (k n : ℕ) (a b : List ℕ) → k + n ≤ length a → part k n (a ++ b) ≡ part k n a
part_append k n a b h =
    ap (take n) (drop-append-le k a b (omega (arith, h))) ∙ take-append-le n (drop k a) b (omega (arith, h, length-drop k a))

-- there and back of each is there and back of all
pub map_back : {A B : Type 0} (f : A → B) (g : B → A) (xs : List A) → Every (λ x. g (f x) ≡ x) xs → map g (map f xs) ≡ xs
map_back f g [] v = refl
map_back f g (x ∷ xs) v = ap₂ (λ y ys. y ∷ ys) v.0 (map_back f g xs v.1)

-- pieces that are what f says of each are read by what reads each back
pub map_read : {A B : Type 0} (f : A → B) (g : B → A) → ((x : A) → g (f x) ≡ x) → (xs : List A) (pieces : List B) → pieces ≡ map f xs → map g pieces ≡ xs
map_read f g back xs pieces e = ap (map g) e ∙ map_back f g xs (every_always (λ x. g (f x) ≡ x) back xs)

-- What f says of each, end to end, and cut apart again.
module _ {A : Type 0} (f : A → List ℕ) where
  pub cut_joined : (xs : List A) (rest : List ℕ) → cut (map (λ x. length (f x)) xs) (concat_map f xs ++ rest) ≡ map f xs
  cut_joined [] rest = refl
  cut_joined (x ∷ xs) rest =
      rw (append_assoc, take-append_seam (f x) (concat_map f xs ++ rest), drop-append_seam (f x) (concat_map f xs ++ rest), cut_joined xs rest)

  pub length_joined : (xs : List A) → length (concat_map f xs) ≡ total self (map (λ x. length (f x)) xs)
  length_joined [] = refl
  length_joined (x ∷ xs) = length-append (f x) (concat_map f xs) ∙ ap (λ n. length (f x) + n) (length_joined xs)

  -- what is left behind them
  pub behind_joined : (xs : List A) (rest : List ℕ) → drop (total self (map (λ x. length (f x)) xs)) (concat_map f xs ++ rest) ≡ rest
  behind_joined xs rest = rw (sym (length_joined xs)) (drop-append_seam (concat_map f xs) rest)

  -- the same where each is of k words
  module _ (k : ℕ) (same : (x : A) → length (f x) ≡ k) where
    one_size : (xs : List A) → map (λ x. length (f x)) xs ≡ replicate (length xs) k
    one_size [] = refl
    one_size (x ∷ xs) = ap₂ (λ n ns. n ∷ ns) (same x) (one_size xs)

    pub rows_joined : (xs : List A) (rest : List ℕ) → rows k (length xs) (concat_map f xs ++ rest) ≡ map f xs
    rows_joined xs rest = rw (one_size xs) at (cut_joined xs rest)

    pub behind_rows : (n : ℕ) (l : List ℕ) (xs : List A) (rest : List ℕ) → drop n l ≡ concat_map f xs ++ rest → drop (n + k * length xs) l ≡ rest
    behind_rows n l xs rest e = rw (length-words f k same xs) at (behind n l (concat_map f xs) rest e)

-- the lists, end to end
concat_map-map : {A B : Type 0} (f : A → List B) (xs : List A) → concat_map (λ m. m) (map f xs) ≡ concat_map f xs
concat_map-map f [] = refl
concat_map-map f (x ∷ xs) = ap (λ m. f x ++ m) (concat_map-map f xs)

-- What is cut apart is the front of the list, and each piece has its size.
take_sum : (m n : ℕ) (l : List ℕ) → take (m + n) l ≡ take m l ++ take n (drop m l)
take_sum zero n l = ap (λ k. take k l) (let z : 0 + n ≡ n = omega arith in z)
take_sum (suc m) n [] = rw (suc-add m n) (sym (take-nil n))
take_sum (suc m) n (x ∷ l) = rw (suc-add m n) (ap (λ k. x ∷ k) (take_sum m n l))

pub joined_cut : (sizes l : List ℕ) → concat_map (λ m. m) (cut sizes l) ≡ take (total self sizes) l
joined_cut [] l = refl
joined_cut (n ∷ sizes) l = ap (λ m. take n l ++ m) (joined_cut sizes (drop n l)) ∙ sym (take_sum n (total self sizes) l)

pub sizes_cut : (sizes l : List ℕ) → total self sizes ≤ length l → map (λ (m : List ℕ). length m) (cut sizes l) ≡ sizes
sizes_cut [] l h = refl
sizes_cut (n ∷ sizes) l h = ap₂ (λ m ms. m ∷ ms) (length-take-le n l (omega arith)) (sizes_cut sizes (drop n l) (omega (arith, h, length-drop n l)))

pub total-replicate : (n k : ℕ) → total self (replicate n k) ≡ k * n
total-replicate zero k = omega arith
total-replicate (suc n) k = rw (total-replicate n k, mul-suc k n) (omega arith)

pub length_rows : (k n : ℕ) (l : List ℕ) → length (rows k n l) ≡ n
length_rows k n l = length_cut (replicate n k) l ∙ length-replicate n k

pub every_row : (k n : ℕ) (l : List ℕ) → k * n ≤ length l → Every (λ m. length m ≡ k) (rows k n l)
every_row k n l h = go n l (rw (sym (total-replicate n k)) at h)
  where
    go : (n : ℕ) (l : List ℕ) → total self (replicate n k) ≤ length l → Every (λ m. length m ≡ k) (rows k n l)
    go zero l h = tt
    go (suc n) l h = (length-take-le k l (omega arith), go n (drop k l) (omega (arith, h, length-drop k l)))

-- a row of two words is these
pub every_pair : (n : ℕ) (l : List ℕ) → 2 * n ≤ length l → Every (λ m. get_or m 0 0 ∷ get_or m 1 0 ∷ [] ≡ m) (rows 2 n l)
every_pair n l h = every_more (λ m. length m ≡ 2) (λ m. get_or m 0 0 ∷ get_or m 1 0 ∷ [] ≡ m) two (rows 2 n l) (every_row 2 n l h)
  where
    two : (m : List ℕ) → length m ≡ 2 → get_or m 0 0 ∷ get_or m 1 0 ∷ [] ≡ m
    two [] h = absurd (omega (arith, h))
    two (x ∷ []) h = absurd (omega (arith, h))
    two (x ∷ y ∷ []) h = refl
    two (x ∷ y ∷ z ∷ m) h = absurd (omega (arith, h))

-- What is read of the pieces, and written again, has their sizes and is what was cut.
module _ {A : Type 0} (f : A → List ℕ) (xs : List A) (sizes l : List ℕ) (same : map f xs ≡ cut sizes l) where
  pub sizes_again : total self sizes ≤ length l → map (λ x. length (f x)) xs ≡ sizes
  sizes_again h = sym (map-map (λ (m : List ℕ). length m) f xs) ∙ ap (map (λ (m : List ℕ). length m)) same ∙ sizes_cut sizes l h

  pub joined_again : concat_map f xs ≡ take (total self sizes) l
  joined_again = sym (concat_map-map f xs) ∙ ap (concat_map (λ m. m)) same ∙ joined_cut sizes l

-- the same of rows: as many are read, and written again they are the front of the list
module _ {A : Type 0} (g : List ℕ → A) (k n : ℕ) (l : List ℕ) where
  pub length_read : length (map g (rows k n l)) ≡ n
  length_read = length-map (rows k n l) g ∙ length_rows k n l

  pub rows_again : (f : A → List ℕ) → Every (λ m. f (g m) ≡ m) (rows k n l) → concat_map f (map g (rows k n l)) ≡ take (k * n) l
  rows_again f v = joined_again f (map g (rows k n l)) (replicate n k) l (map_back g f (rows k n l) v) ∙ ap (λ i. take i l) (total-replicate n k)

-- what holds of each word holds of those of each piece
pub every_piece : (P : ℕ → Type 0) (sizes l : List ℕ) → Every P l → Every (Every P) (cut sizes l)
every_piece P [] l v = tt
every_piece P (n ∷ sizes) l v = (every_take P n l v, every_piece P sizes (drop n l) (every_drop P n l v))

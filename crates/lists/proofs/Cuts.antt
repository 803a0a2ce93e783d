-- Loops over a whole slice, whose rest at turn i is `drop i s`, and parts of a list of words: what stands in them, and how
-- joined lists are cut apart. d is what is read past the end: write _.
-- Assumes nothing.
use Prim.Native.Nat.{ℕ, zero, suc, ◌+◌, ◌-◌, ◌*◌, ◌≤◌, ◌<◌}
use mathlib.Core.Path.{◌≡◌, refl, sym, ap, ◌∙◌}
use mathlib.Core.List.{List, [], ◌∷◌, ◌++◌, map}
use mathlib.Core.Bool.{Bool, true, false, ◌&&◌}
use native.Mathlib.Numerals.{add-one}
use native.Mathlib.Nat.{suc-mul, suc-add}
use native.Mathlib.Omega.{arith}
use borrow.Author.Tests.{leb-true, le-leb, ltb-true, lt-ltb}
use lib.Dec.{ltb, leb}
use lib.ListN.{length, take, drop, get_or, length-take, length-drop, drop_of_length-le}
use lib.Seq.{drop-cons, take-take, drop-drop, get_or-drop, get_or-take, take-nil}
use Rattle.std.proofs.lemmas.List.{drop-map}
use Rattle.std.specs.List.{AllAdjacentBelow, IsAllAdjacentAnswer}
use Rattle.lists.specs.Lists.{all, Every, all_of, total, zip_by, self, part, cut, above_all, ascending}
use Rattle.lists.proofs.Tests.{and_left, and_right, and_both, and_false}

-- what is still to come: one more, or none

pub rest_more : {A : Type 0} (d : A) (s : List A) (i : ℕ) → i < length s → drop i s ≡ get_or s i d ∷ drop (i + 1) s
rest_more d s i h = rw (add-one i, drop-cons s i d h)

pub rest-none : {A : Type 0} (s : List A) (i : ℕ) → length s ≤ i → drop i s ≡ []
rest-none s i h = drop_of_length-le s {i = i} h

pub rest_tail : {A : Type 0} (s : List A) (i : ℕ) (x : A) (t : List A) → drop i s ≡ x ∷ t → drop (i + 1) s ≡ t
rest_tail s i x t e = sym (drop-drop 1 i s) ∙ ap (drop 1) e

-- the same of what the items stand for
pub rest_mapped : {A B : Type 0} (f : A → B) (d : A) (s : List A) (i : ℕ) → i < length s → drop i (map f s) ≡ f (get_or s i d) ∷ drop (i + 1) (map f s)
rest_mapped f d s i h = drop-map f i s ∙ ap (map f) (rest_more d s i h) ∙ ap (λ m. f (get_or s i d) ∷ m) (sym (drop-map f (i + 1) s))

pub mapped-none : {A B : Type 0} (f : A → B) (s : List A) (i : ℕ) → length s ≤ i → drop i (map f s) ≡ []
mapped-none f s i h = drop-map f i s ∙ ap (map f) (rest-none s i h)

-- a test of each: all p (what is to come) stays

pub all-at : {A : Type 0} (p : A → Bool) (d : A) (s : List A) (i : ℕ) → i < length s → all p s ≡ true → p (get_or s i d) ≡ true
all-at p d [] i h t = absurd (omega arith)
all-at p d (x ∷ s) zero h t = and_left (p x) (all p s) t
all-at p d (x ∷ s) (suc i) h t = all-at p d s i (omega arith) (and_right (p x) (all p s) t)

-- tests of two rows of tests are the tests of both in a row

pub all_of-append : (a b : List Bool) → all_of (a ++ b) ≡ all_of a && all_of b
all_of-append [] b = refl
all_of-append (true ∷ a) b = all_of-append a b
all_of-append (false ∷ a) b = refl

-- a test that cannot have passed

pub fails : (b : Bool) → (b ≡ true → ⊥) → false ≡ b
fails true h = absurd (h refl)
fails false h = refl

-- a sum: x + total f (what is to come) stays

pub total_more : {A : Type 0} (f : A → ℕ) (d : A) (s : List A) (x i : ℕ) → i < length s → x + f (get_or s i d) + total f (drop (i + 1) s) ≡ x + total f (drop i s)
total_more f d s x i h = rw (rest_more d s i h) (omega arith)

pub total-within : (limit : ℕ) (s : List ℕ) → all (λ n. leb n limit) s ≡ true → total self s ≤ length s * limit
total-within limit [] t = omega arith
total-within limit (x ∷ s) t =
    let more : total self s ≤ length s * limit = total-within limit s (and_right (leb x limit) (all (λ n. leb n limit) s) t) in
    let here : x ≤ limit = leb-true x limit (and_left (leb x limit) (all (λ n. leb n limit) s) t) in
    rw (suc-mul (length s) limit) (omega arith)

pub within_more : (a b : ℕ) (s : List ℕ) → a ≤ b → all (λ n. leb n a) s ≡ true → all (λ n. leb n b) s ≡ true
within_more a b [] h t = refl
within_more a b (x ∷ s) h t =
    let here : x ≤ a = leb-true x a (and_left (leb x a) (all (λ n. leb n a) s) t) in
    and_both (leb x b) (all (λ n. leb n b) s) (le-leb x b (omega arith)) (within_more a b s h (and_right (leb x a) (all (λ n. leb n a) s) t))

pub every_within : (limit : ℕ) (s : List ℕ) → all (λ n. leb n limit) s ≡ true → Every (λ n. n ≤ limit) s
every_within limit [] t = tt
every_within limit (x ∷ s) t =
    (leb-true x limit (and_left (leb x limit) (all (λ n. leb n limit) s) t), every_within limit s (and_right (leb x limit) (all (λ n. leb n limit) s) t))

pub total_split : {A : Type 0} (f : A → ℕ) (i : ℕ) (s : List A) → total f (take i s) + total f (drop i s) ≡ total f s
total_split f zero s = omega arith
total_split f (suc i) [] = refl
total_split f (suc i) (x ∷ s) = omega (arith, total_split f i s)

-- rising by key: one above the one before it, and so on

module _ {A : Type 0} (key : A → ℕ) where
  module _ (x y : A) (l : List A) where
    above_lower : ltb (key x) (key y) ≡ true → (m : List A) → above_all key (key y) m ≡ true → above_all key (key x) m ≡ true
    above_lower t [] h = refl
    above_lower t (z ∷ m) h =
        let lt : key y < key z = ltb-true (key y) (key z) (and_left (ltb (key y) (key z)) (above_all key (key y) m) h) in
        and_both (ltb (key x) (key z)) (above_all key (key x) m) (lt-ltb (key x) (key z) (omega (arith, ltb-true (key x) (key y) t))) (above_lower t m (and_right (ltb (key y) (key z)) (above_all key (key y) m) h))

    pub rises_two : ascending key (x ∷ y ∷ l) ≡ ltb (key x) (key y) && ascending key (y ∷ l)
    rises_two = go (ltb (key x) (key y)) refl (above_all key (key y) l) refl
      where
        go : (b : Bool) → ltb (key x) (key y) ≡ b → (c : Bool) → above_all key (key y) l ≡ c →
            b && above_all key (key x) l && (c && ascending key l) ≡ b && (c && ascending key l)
        go true t true u = rw (above_lower t l u)
        go true t false u = and_false (above_all key (key x) l)
        go false t c u = refl

  -- each and the next compared: what the library answers

  rises_each : (s : List A) → AllAdjacentBelow (λ x y. true ≡ ltb (key x) (key y)) s (length s) → ascending key s ≡ true
  rises_each [] h = refl
  rises_each (x ∷ []) h = refl
  rises_each (x ∷ y ∷ l) h =
      rises_two x y l
      ∙ and_both (ltb (key x) (key y)) (ascending key (y ∷ l)) (sym (h 0 x (omega arith)))
      (rises_each (y ∷ l) (λ k d q. h (suc k) d (omega arith) ∙ ap (λ j. ltb (key (get_or (y ∷ l) k d)) (key (get_or (x ∷ y ∷ l) j d))) (suc-add k 1)))

  rises_not : (d : A) (s : List A) (k : ℕ) → k + 1 < length s → ltb (key (get_or s k d)) (key (get_or s (k + 1) d)) ≡ false → ascending key s ≡ false
  rises_not d [] k h t = absurd (omega arith)
  rises_not d (x ∷ []) k h t = absurd (omega arith)
  rises_not d (x ∷ y ∷ l) zero h t = rises_two x y l ∙ ap (λ b. b && ascending key (y ∷ l)) t
  rises_not d (x ∷ y ∷ l) (suc k) h t =
      rises_two x y l
      ∙ ap (λ b. ltb (key x) (key y) && b)
      (rises_not d (y ∷ l) k (omega arith) (sym (ap (λ j. ltb (key (get_or (y ∷ l) k d)) (key (get_or (x ∷ y ∷ l) j d))) (suc-add k 1)) ∙ t))
      ∙ and_false (ltb (key x) (key y))

  pub rises_by : (s : List A) (r : Bool) → IsAllAdjacentAnswer (λ x y b. b ≡ ltb (key x) (key y)) s r → r ≡ ascending key s
  rises_by s true h = sym (rises_each s h)
  rises_by [] false h = absurd (omega (arith, h.1))
  rises_by (x ∷ s) false h = sym (rises_not x (x ∷ s) h.0 h.1 (sym (h.2 x)))

-- what stands in a part, and how much

pub part_length : (from n : ℕ) (l : List ℕ) → from + n ≤ length l → length (part from n l) ≡ n
part_length from n l h = simp (length-take, length-drop) (omega arith)

pub part_at : (from n i : ℕ) (l : List ℕ) → i < n → get_or (part from n l) i 0 ≡ get_or l (from + i) 0
part_at from n i l h = rw (get_or-take n (drop from l) i 0 h, get_or-drop from l i 0)

pub part_more : (from n i : ℕ) (l : List ℕ) → from + n ≤ length l → i < n → drop i (part from n l) ≡ get_or l (from + i) 0 ∷ drop (i + 1) (part from n l)
part_more from n i l h k =
    rest_more 0 (part from n l) i (omega (arith, part_length from n l h)) ∙ ap (λ x. x ∷ drop (i + 1) (part from n l)) (part_at from n i l k)

-- an array whose front is the part
pub part-front : (out s : List ℕ) (from n : ℕ) (l : List ℕ) → s ≡ part from n l → from + n ≤ length l → take (length s) out ≡ s → take n out ≡ part from n l
part-front out s from n l e h t =
    let q : length s ≡ n = ap length e ∙ part_length from n l h in
    (rw q at t) ∙ e

-- joined lists

pub cut-length : (sizes l : List ℕ) → length (cut sizes l) ≡ length sizes
cut-length [] l = refl
cut-length (n ∷ sizes) l = ap suc (cut-length sizes (drop n l))

drop-take : (m n : ℕ) (l : List ℕ) → drop m (take (m + n) l) ≡ take n (drop m l)
drop-take zero n l = ap (λ k. take k l) (let z : 0 + n ≡ n = omega arith in z)
drop-take (suc m) n [] = rw (suc-add m n) (sym (take-nil n))
drop-take (suc m) n (x ∷ l) = rw (suc-add m n) (drop-take m n l)

-- no more is read than the sizes add up to
pub cut-front : (sizes l : List ℕ) (n : ℕ) → total self sizes ≤ n → cut sizes (take n l) ≡ cut sizes l
cut-front [] l n h = refl
cut-front (m ∷ sizes) l n h =
    let e : m + (n - m) ≡ n = omega arith in
    let f : drop m (take n l) ≡ take (n - m) (drop m l) = rw e at (drop-take m (n - m) l) in
    rw (take-take m n l (omega arith), f, cut-front sizes (drop m l) (n - m) (omega arith))

pub cut_more : (sizes l : List ℕ) (i at : ℕ) → i < length sizes →
    cut (drop i sizes) (drop at l) ≡ part at (get_or sizes i 0) l ∷ cut (drop (i + 1) sizes) (drop (at + get_or sizes i 0) l)
cut_more sizes l i at h = rw (rest_more 0 sizes i h, drop-drop (get_or sizes i 0) at l)

pub cut-rest : (sizes l : List ℕ) (i : ℕ) → drop i (cut sizes l) ≡ cut (drop i sizes) (drop (total self (take i sizes)) l)
cut-rest sizes l zero = refl
cut-rest [] l (suc i) = refl
cut-rest (n ∷ sizes) l (suc i) = rw (cut-rest sizes (drop n l) i, drop-drop (total self (take i sizes)) n l)

-- two lists side by side

zip_by-nil : {A B C : Type 0} (f : A → B → C) (xs : List A) → [] ≡ zip_by f xs []
zip_by-nil f [] = refl
zip_by-nil f (x ∷ xs) = refl

pub zip_by-rest : {A B C : Type 0} (f : A → B → C) (xs : List A) (ys : List B) (i : ℕ) → drop i (zip_by f xs ys) ≡ zip_by f (drop i xs) (drop i ys)
zip_by-rest f xs ys zero = refl
zip_by-rest f [] ys (suc i) = refl
zip_by-rest f (x ∷ xs) [] (suc i) = zip_by-nil f (drop i xs)
zip_by-rest f (x ∷ xs) (y ∷ ys) (suc i) = zip_by-rest f xs ys i

pub zip_by-length : {A B C : Type 0} (f : A → B → C) (xs : List A) (ys : List B) → length xs ≡ length ys → length (zip_by f xs ys) ≡ length xs
zip_by-length f [] ys h = refl
zip_by-length f (x ∷ xs) [] h = absurd (omega arith)
zip_by-length f (x ∷ xs) (y ∷ ys) h = ap suc (zip_by-length f xs ys (omega arith))

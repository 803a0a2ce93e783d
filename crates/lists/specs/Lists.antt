-- The words in which the rules speak of lists: keeping, finding, changing and putting in by key, for any type of element.
-- A test is a function to Bool; a key is a function to ℕ, by which lists are kept in rising order.
use Rattle.std.specs.Prelude.{ℕ, ◌+◌, ◌<◌, Bool, true, false, cond, not, ◌&&◌, List, [], ◌∷◌, ◌++◌, eqb, ltb, take, drop, replicate}
use Rattle.std.specs.List.{list_any, list_all}
use Rattle.std.proofs.Math.Option.{Option, none, some}

module _ {A : Type 0} where
  -- x in front of l, if the test passed
  abbrev pub cons_if : Bool → A → List A → List A
  cons_if true x l = x ∷ l
  cons_if false x l = l

  -- the elements that pass, in their order
  abbrev pub keep : (A → Bool) → List A → List A
  keep p [] = []
  keep p (x ∷ l) = cons_if (p x) x (keep p l)

  -- the elements whose flag is up, as long as there are flags
  abbrev pub keep_by : List Bool → List A → List A
  keep_by [] l = []
  keep_by (b ∷ bs) [] = []
  keep_by (b ∷ bs) (x ∷ l) = cons_if b x (keep_by bs l)

  -- whether some element passes
  abbrev pub any : (A → Bool) → List A → Bool
  any p l = list_any p l

  -- whether each element passes
  abbrev pub all : (A → Bool) → List A → Bool
  all p l = list_all p l

  -- whether the list has an element
  abbrev pub filled : List A → Bool
  filled [] = false
  filled (x ∷ l) = true

  -- the first element that passes
  abbrev pub find : (A → Bool) → List A → Option A
  find p [] = none
  find p (x ∷ l) = cond (p x) (some x) (find p l)

  -- the elements that pass changed by f, the others as they are
  abbrev pub change_if : (A → Bool) → (A → A) → List A → List A
  change_if p f [] = []
  change_if p f (x ∷ l) = cond (p x) (f x) x ∷ change_if p f l

  -- P holds of each
  abbrev pub Every : (A → Type 0) → List A → Type 0
  Every P [] = Unit {0}
  Every P (x ∷ l) = P x × Every P l

  -- the sum of what f says of each
  abbrev pub total : (A → ℕ) → List A → ℕ
  total f [] = 0
  total f (x ∷ l) = f x + total f l

  -- By key.
  module _ (key : A → ℕ) where
    -- the element has the key
    abbrev pub at : ℕ → A → Bool
    at k x = eqb (key x) k

    -- whether an element with the key stands in the list
    abbrev pub has : ℕ → List A → Bool
    has k l = any (at k) l

    -- the element with the key
    abbrev pub get : ℕ → List A → Option A
    get k l = find (at k) l

    -- the list without the element that has the key
    abbrev pub without : ℕ → List A → List A
    without k l = keep (λ x. not (eqb (key x) k)) l

    -- the element with the key changed by f
    abbrev pub change : ℕ → (A → A) → List A → List A
    change k f l = change_if (at k) f l

    -- x put in by its key, unless an element with that key stands already
    abbrev pub include : A → List A → List A
    include x [] = x ∷ []
    include x (y ∷ l) =
        cond (ltb (key x) (key y)) (x ∷ y ∷ l) (y ∷ cond (eqb (key x) (key y)) l (include x l))

    -- each of a list put in, the last first
    abbrev pub include_all : List A → List A → List A
    include_all [] l = l
    include_all (x ∷ xs) l = include x (include_all xs l)

    -- every key is above k; the keys rise strictly
    abbrev pub Above : ℕ → List A → Type 0
    Above k [] = Unit {0}
    Above k (x ∷ l) = (k < key x) × Above k l

    abbrev pub Ascending : List A → Type 0
    Ascending [] = Unit {0}
    Ascending (x ∷ l) = Above (key x) l × Ascending l

    -- the same as a test
    abbrev pub above_all : ℕ → List A → Bool
    above_all k [] = true
    above_all k (x ∷ l) = ltb k (key x) && above_all k l

    abbrev pub ascending : List A → Bool
    ascending [] = true
    ascending (x ∷ l) = above_all (key x) l && ascending l

-- Items gone through one after the other, each changing a state; and the sum of what each counts on the state that it meets.
module _ {A S : Type 0} (f : A → S → S) where
  abbrev pub through : List A → S → S
  through [] s = s
  through (x ∷ l) s = through l (f x s)

  abbrev pub tally : (A → S → ℕ) → List A → S → ℕ
  tally n [] s = 0
  tally n (x ∷ l) s = n x s + tally n l (f x s)

-- whether each of some tests passed
abbrev pub all_of : List Bool → Bool
all_of [] = true
all_of (b ∷ l) = b && all_of l

-- what f says of each, end to end
abbrev pub concat_map : {A B : Type 0} → (A → List B) → List A → List B
concat_map f [] = []
concat_map f (x ∷ l) = f x ++ concat_map f l

-- two lists side by side, as long as both go on
abbrev pub zip_by : {A B C : Type 0} → (A → B → C) → List A → List B → List C
zip_by f [] ys = []
zip_by f (x ∷ xs) [] = []
zip_by f (x ∷ xs) (y ∷ ys) = f x y ∷ zip_by f xs ys

-- numbers as they are their own key
abbrev pub self : ℕ → ℕ
self n = n

-- the distinct numbers of a list, rising
abbrev pub set_of : List ℕ → List ℕ
set_of l = include_all self l []

-- n words from a place on; joined lists cut apart by their sizes
abbrev pub part : ℕ → ℕ → List ℕ → List ℕ
part from n l = take n (drop from l)

abbrev pub cut : List ℕ → List ℕ → List (List ℕ)
cut [] l = []
cut (n ∷ ns) l = take n l ∷ cut ns (drop n l)

-- n lists of so many words each
abbrev pub rows : ℕ → ℕ → List ℕ → List (List ℕ)
rows size n l = cut (replicate n size) l

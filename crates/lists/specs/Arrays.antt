-- Lists kept in the front of an array: where something stands, and what putting in and taking out at a place does.
use Rattle.std.specs.Prelude.{ℕ, suc, ◌+◌, ◌-◌, ◌≤◌, ◌≡◌, Bool, false, cond, List, [], ◌∷◌, ◌++◌, eqb, ltb, length, take, drop, Option, Some, None}
use Rattle.lists.specs.Lists.{has, include, keep_by, self}

module _ {A : Type 0} where
  abbrev pub insert_at : ℕ → A → List A → List A
  insert_at k e l = take k l ++ e ∷ drop k l

  abbrev pub remove_at : ℕ → List A → List A
  remove_at k l = take k l ++ drop (suc k) l

  -- where the first element that passes stands, counted from i
  unfoldable pub place : (A → Bool) → ℕ → List A → Option ℕ
  place p i [] = None
  place p i (x ∷ l) = cond (p x) (Some i) (place p (suc i) l)

  -- how many elements, from the front, pass before the first that does not
  unfoldable pub rank : (A → Bool) → List A → ℕ
  rank p [] = 0
  rank p (x ∷ l) = cond (p x) (suc (rank p l)) 0

-- By whatever test the answers are given, the first element that passes stands there: Says is what is said of each element that is asked
-- about.
abbrev pub Places : {A : Type 0} → (A → Bool → Type 0) → List A → Option ℕ → Type 0
Places {A} Says l o = (p : A → Bool) → ((x : A) (b : Bool) → Says x b → b ≡ p x) → o ≡ place p 0 l

-- By whatever test the answers are given, so many elements from the front pass before the first that does not.
abbrev pub Ranks : {A : Type 0} → (A → Bool → Type 0) → List A → ℕ → Type 0
Ranks {A} Says l n = (p : A → Bool) → ((x : A) (b : Bool) → Says x b → b ≡ p x) → n ≡ rank p l

-- whether the first element has this key
abbrev pub leads : {A : Type 0} → (A → ℕ) → ℕ → List A → Bool
leads key t [] = false
leads key t (x ∷ l) = eqb (key x) t

-- no number stands twice
abbrev pub Distinct : List ℕ → Type 0
Distinct [] = Unit {0}
Distinct (x ∷ l) = (has self x l ≡ false) × Distinct l

-- numbers lower than x
abbrev pub under : ℕ → ℕ → Bool
under x y = ltb y x

-- The first n of a slice, before (a) and after (b) a change in place.
module _ {A : Type 0} (a : List A) (n : ℕ) where
  -- x put in at k
  pub record Inserted (k : ℕ) (x : A) (b : List A) : Type 0 where
    pub size : length b ≡ length a
    pub front : take (n + 1) b ≡ insert_at k x (take n a)
    pub whole : b ≡ insert_at k x (remove_at n a)

  -- what stands at k taken out; what stands at n - 1 then is of no account
  pub record Removed (k : ℕ) (b : List A) : Type 0 where
    pub size : length b ≡ length a
    pub front : take (n - 1) b ≡ remove_at k (take n a)
    pub whole : remove_at (n - 1) b ≡ remove_at k a

-- a flag stands for each of the first of a: the first m of b are those whose flag is up
pub record Kept {A : Type 0} (stay : List Bool) (a b : List A) (m : ℕ) : Type 0 where
  pub size : length b ≡ length a
  pub room : m ≤ length stay
  pub front : take m b ≡ keep_by stay (take (length stay) a)

-- the first m of b are the first n of a with x among them
pub record Included (a : List ℕ) (n x : ℕ) (b : List ℕ) (m : ℕ) : Type 0 where
  pub size : length b ≡ length a
  pub room : m ≤ length b
  pub front : take m b ≡ include self x (take n a)

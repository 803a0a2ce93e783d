-- What is read off each element: after a store, after a change, past the end.
-- Assumes nothing.
use Prim.Native.Nat.{ℕ, zero, suc, ◌<◌}
use mathlib.Core.Path.{◌≡◌, refl, ap}
use mathlib.Core.Bool.{Bool, true, false, cond, ◌&&◌}
use mathlib.Core.List.{List, [], ◌∷◌, map}
use native.Mathlib.Omega.{arith}
use lib.ListN.{length, get_or, set}
use lib.Dec.{ltb}
use Rattle.lists.specs.Lists.{change_if, all, above_all, ascending}

pub map-set : {A B : Type 0} (g : A → B) (l : List A) (i : ℕ) (x : A) → map g (set l i x) ≡ set (map g l) i (g x)
map-set g [] i x = refl
map-set g (y ∷ l) zero x = refl
map-set g (y ∷ l) (suc i) x = ap (λ m. g y ∷ m) (map-set g l i x)

-- within a list it does not matter what is read past its end
pub get_d_any : {A : Type 0} (l : List A) (i : ℕ) (d e : A) → i < length l → get_or l i d ≡ get_or l i e
get_d_any [] i d e h = absurd (omega arith)
get_d_any (x ∷ l) zero d e h = refl
get_d_any (x ∷ l) (suc i) d e h = get_d_any l i d e (omega arith)

-- a change that leaves what is read leaves it of all
pub map-change_if : {A B : Type 0} (g : A → B) (p : A → Bool) (f : A → A) → ((x : A) → g (f x) ≡ g x) → (l : List A) → map g (change_if p f l) ≡ map g l
map-change_if g p f c [] = refl
map-change_if {A} {B} g p f c (x ∷ l) = rw (map-change_if g p f c l) (ap (λ y. y ∷ map g l) (go (p x)))
  where
    go : (b : Bool) → g (cond b (f x) x) ≡ g x
    go true = c x
    go false = refl

-- what stands at a place, put back there
-- a test of each and the order by a key, of what f makes of them
pub all_map : {A B : Type 0} (g : A → B) (p : B → Bool) (l : List A) → all (λ x. p (g x)) l ≡ all p (map g l)
all_map g p [] = refl
all_map g p (x ∷ l) = ap (λ b. p (g x) && b) (all_map g p l)

above_map : {A B : Type 0} (g : A → B) (key : B → ℕ) (k : ℕ) (l : List A) → above_all (λ x. key (g x)) k l ≡ above_all key k (map g l)
above_map g key k [] = refl
above_map g key k (x ∷ l) = ap (λ b. ltb k (key (g x)) && b) (above_map g key k l)

pub ascending_map : {A B : Type 0} (g : A → B) (key : B → ℕ) (l : List A) → ascending (λ x. key (g x)) l ≡ ascending key (map g l)
ascending_map g key [] = refl
ascending_map g key (x ∷ l) = rw (above_map g key (key (g x)) l, ascending_map g key l)

pub put_back : {A : Type 0} (l : List A) (i : ℕ) (d : A) → set l i (get_or l i d) ≡ l
put_back [] i d = refl
put_back (x ∷ l) zero d = refl
put_back (x ∷ l) (suc i) d = ap (λ m. x ∷ m) (put_back l i d)

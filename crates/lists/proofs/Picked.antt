-- A test of what is made of the elements kept, as one test of all elements.
-- Assumes nothing.
use mathlib.Core.Path.{◌≡◌, refl, ap}
use mathlib.Core.Bool.{Bool, true, false, not, ◌&&◌, ◌||◌}
use mathlib.Core.List.{List, [], ◌∷◌, map}
use Rattle.lists.specs.Lists.{cons_if, keep, any, all, filled}

module _ {A B : Type 0} (q : A → Bool) (f : A → B) where
  pub any_picked : (p : B → Bool) (l : List A) → any p (map f (keep q l)) ≡ any (λ x. q x && p (f x)) l
  any_picked p [] = refl
  any_picked p (x ∷ l) = go (q x) (any_picked p l)
    where
      go : (b : Bool) → any p (map f (keep q l)) ≡ any (λ y. q y && p (f y)) l →
          any p (map f (cons_if b x (keep q l))) ≡ b && p (f x) || any (λ y. q y && p (f y)) l
      go true ih = ap (λ m. p (f x) || m) ih
      go false ih = ih

  pub all_picked : (p : B → Bool) (l : List A) → all p (map f (keep q l)) ≡ not (any (λ x. q x && not (p (f x))) l)
  all_picked p [] = refl
  all_picked p (x ∷ l) = go (q x) (p (f x)) refl (all_picked p l)
    where
      go : (b c : Bool) → p (f x) ≡ c → all p (map f (keep q l)) ≡ not (any (λ y. q y && not (p (f y))) l) →
          all p (map f (cons_if b x (keep q l))) ≡ not (b && not c || any (λ y. q y && not (p (f y))) l)
      go true true u ih = rw u ih
      go true false u ih = rw u
      go false c u ih = ih

  pub filled_picked : (l : List A) → filled (map f (keep q l)) ≡ any q l
  filled_picked [] = refl
  filled_picked (x ∷ l) = go (q x) (filled_picked l)
    where
      go : (b : Bool) → filled (map f (keep q l)) ≡ any q l → filled (map f (cons_if b x (keep q l))) ≡ b || any q l
      go true ih = refl
      go false ih = ih

pub any-kept : {A : Type 0} (p q : A → Bool) (l : List A) → any p (keep q l) ≡ any (λ x. q x && p x) l
any-kept p q [] = refl
any-kept {A} p q (x ∷ l) = go (q x) (any-kept p q l)
  where
    go : (b : Bool) → any p (keep q l) ≡ any (λ y. q y && p y) l → any p (cons_if b x (keep q l)) ≡ b && p x || any (λ y. q y && p y) l
    go true ih = ap (λ m. p x || m) ih
    go false ih = ih

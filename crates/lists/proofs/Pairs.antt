-- Two arrays side by side, and an array read through a function: what is done to the arrays at a place is
-- done to the list they are read as. By walking down the lists.
-- Assumes nothing.
use Prim.Native.Nat.{ℕ, zero, suc}
use mathlib.Core.Path.{◌≡◌, refl, sym, ap, ◌∙◌}
use mathlib.Core.Bool.{Bool}
use mathlib.Core.List.{List, [], ◌∷◌, map}
use native.Mathlib.Omega.{arith}
use lib.ListN.{length, take, get_or, set, get_or-map}
use Rattle.lists.specs.Lists.{Every, zip_by, at, change, Ascending}
use Rattle.std.specs.Prelude.{Some}
use Rattle.lists.specs.Arrays.{place, rank}
use Rattle.lists.proofs.Loops.{located}
use Rattle.lists.proofs.Maps.{map-set}

-- two arrays side by side
module _ {A B C : Type 0} (f : A → B → C) where
  pub zip-take : (n : ℕ) (l : List A) (m : List B) → take n (zip_by f l m) ≡ zip_by f (take n l) (take n m)
  zip-take zero [] m = refl
  zip-take zero (x ∷ l) [] = refl
  zip-take zero (x ∷ l) (y ∷ m) = refl
  zip-take (suc n) [] m = refl
  zip-take (suc n) (x ∷ l) [] = refl
  zip-take (suc n) (x ∷ l) (y ∷ m) = ap (λ r. f x y ∷ r) (zip-take n l m)

  pub zip_get_d : (l : List A) (m : List B) (i : ℕ) (d : A) (e : B) → length l ≡ length m → get_or (zip_by f l m) i (f d e) ≡ f (get_or l i d) (get_or m i e)
  zip_get_d [] [] i d e h = refl
  zip_get_d [] (y ∷ m) i d e h = absurd (omega arith)
  zip_get_d (x ∷ l) [] i d e h = absurd (omega arith)
  zip_get_d (x ∷ l) (y ∷ m) zero d e h = refl
  zip_get_d (x ∷ l) (y ∷ m) (suc i) d e h = zip_get_d l m i d e (omega arith)

-- an array read through a function
module _ {A B : Type 0} (f : A → B) where
  -- what is found by key is changed by writing it anew
  pub changed_in : (key : B → ℕ) (t : ℕ) (g : B → B) (d : A) (a : List A) (i : ℕ) (y : A) → Ascending key (map f a) → place (at key t) 0 (map f a) ≡ Some i →
      f y ≡ g (f (get_or a i d)) → map f (set a i y) ≡ change key t g (map f a)
  changed_in key t g d a i y s e q =
      let l = located key t (map f a) i e in
      map-set f a i y ∙ ap (set (map f a) i) (q ∙ ap g (sym (get_or-map f a i d))) ∙ sym (l.changed (f d) g s)

-- tests that agree on each rank the same
pub rank_same : {A : Type 0} (p q : A → Bool) (l : List A) → Every (λ x. p x ≡ q x) l → rank p l ≡ rank q l
unfolding rank
rank_same p q [] v = refl
rank_same p q (x ∷ l) v = rw (v.0, rank_same p q l v.1)

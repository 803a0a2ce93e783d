-- What a loop over the front of an array cites at its turn and at its end, and what a caller cites of a search. For any element.
-- The front is `take n a`; what is still to come at turn i is `drop i (take n a)`. d is what is read past an array's end: write _.
-- Assumes nothing.
use Prim.Native.Nat.{ℕ, zero, suc, ◌+◌, ◌≤◌, ◌<◌}
use mathlib.Core.Path.{◌≡◌, refl, sym, ap, ◌∙◌, subst}
use mathlib.Core.List.{List, [], ◌∷◌, map}
use mathlib.Core.Bool.{Bool, true, false, cond, not, ◌||◌, true≢false}
use mathlib.Core.Option.{none, some}
use native.Mathlib.Numerals.{add-one}
use native.Mathlib.Omega.{arith}
use borrow.Author.Tests.{eqb-true, eqb-false, ne_eqb, ltb-true, ltb-false, lt-ltb, le-ltb}
use lib.Dec.{eqb, ltb}
use lib.ListN.{length, take, drop, get_or, set, drop_of_length-le}
use lib.Seq.{drop-cons, length-take-le, get_or-take}
use Rattle.std.specs.Prelude.{Option, Some, None, is_some}
use Rattle.lists.specs.Lists.{cons_if, any, at, has, get, without, change, include, Ascending}
use Rattle.lists.specs.Arrays.{insert_at, remove_at, place, rank, Places, Ranks}
use Rattle.lists.proofs.Order.{above_lacks, ascending-include}
use Rattle.lists.proofs.Change.{change_lacking}

-- a rank is within the list
pub rank_le : {A : Type 0} (p : A → Bool) (l : List A) → rank p l ≤ length l
unfolding rank
rank_le p [] = omega arith
rank_le p (x ∷ xs) = elim (p x) as (λ b. cond b (suc (rank p xs)) 0 ≤ suc (length xs)) [ true ↦ omega (arith, rank_le p xs) | false ↦ omega arith ]

-- what is still to come: one more, or none

pub rest-cons : {A : Type 0} (d : A) (a : List A) (i n : ℕ) → i < n → n ≤ length a → drop i (take n a) ≡ get_or a i d ∷ drop (i + 1) (take n a)
rest-cons d a i n h₁ h₂ =
    let e₀ : length (take n a) ≡ n = length-take-le n a h₂ in
    let e₁ : get_or (take n a) i d ≡ get_or a i d = get_or-take n a i d h₁ in
    rw (add-one i, drop-cons (take n a) i d (omega arith), e₁)

pub rest_end : {A : Type 0} (a : List A) (i n : ℕ) → n ≤ i → n ≤ length a → drop i (take n a) ≡ []
rest_end a i n h₁ h₂ = drop_of_length-le (take n a) {i = i} (omega (arith, length-take-le n a h₂))

-- a test of some: any p (what is to come) stays

pub any_hit : {A : Type 0} (p : A → Bool) (d : A) (a : List A) (i n : ℕ) → i < n → n ≤ length a → p (get_or a i d) ≡ true → any p (drop i (take n a)) ≡ true
any_hit p d a i n h₁ h₂ t = rw (rest-cons d a i n h₁ h₂, t)

pub any_miss : {A : Type 0} (p : A → Bool) (d : A) (a : List A) (i n : ℕ) → i < n → n ≤ length a → p (get_or a i d) ≡ false → any p (drop (i + 1) (take n a)) ≡ any p (drop i (take n a))
any_miss p d a i n h₁ h₂ t = rw (rest-cons d a i n h₁ h₂, t)

pub any-end : {A : Type 0} (p : A → Bool) (a : List A) (i n : ℕ) → n ≤ i → n ≤ length a → any p (drop i (take n a)) ≡ false
any-end p a i n h₁ h₂ = rw (rest_end a i n h₁ h₂)

-- what an answer of `place` says of a list in rising order of a key

pub record Located {A : Type 0} (key : A → ℕ) (t : ℕ) (l : List A) (i : ℕ) : Type 0 where
  pub below : i < length l
  pub known : has key t l ≡ true
  pub passes : (d : A) → key (get_or l i d) ≡ t
  pub got : (d : A) → get key t l ≡ some (get_or l i d)
  pub gone : Ascending key l → without key t l ≡ remove_at i l
  pub changed : (d : A) (f : A → A) → Ascending key l → change key t f l ≡ set l i (f (get_or l i d))

pub record Missing {A : Type 0} (key : A → ℕ) (t : ℕ) (l : List A) : Type 0 where
  pub known : has key t l ≡ false
  pub got : get key t l ≡ none
  pub gone : without key t l ≡ l
  pub changed : (f : A → A) → change key t f l ≡ l

module _ {A : Type 0} (key : A → ℕ) (t : ℕ) where
  without_lacking : (l : List A) → has key t l ≡ false → without key t l ≡ l
  without_lacking [] h = refl
  without_lacking (x ∷ l) h = go (eqb (key x) t) h (without_lacking l)
    where
      go : (b : Bool) → b || has key t l ≡ false → (has key t l ≡ false → without key t l ≡ l) → cons_if (not b) x (without key t l) ≡ x ∷ l
      go true q ih = absurd (true≢false q)
      go false q ih = ap (λ m. x ∷ m) (ih q)

  located_from : (l : List A) (k i : ℕ) → place (at key t) k l ≡ Some i → (j : ℕ) × (i ≡ k + j) × Located key t l j
  unfolding place
  located_from [] k i e = absurd (let z : ◌≡◌ {A = ℕ} 0 1 = cc in omega arith)
  located_from (x ∷ l) k i e = go (eqb (key x) t) refl e (located_from l (suc k) i)
    where
      after : eqb (key x) t ≡ true → Ascending key (x ∷ l) → has key t l ≡ false
      after u a = above_lacks key t (key x) l (omega (arith, eqb-true (key x) t u)) a.0

      go : (b : Bool) → eqb (key x) t ≡ b → cond b (Some k) (place (at key t) (suc k) l) ≡ Some i →
          (place (at key t) (suc k) l ≡ Some i → (j : ℕ) × (i ≡ suc k + j) × Located key t l j) → (j : ℕ) × (i ≡ k + j) × Located key t (x ∷ l) j
      go true u q f = (
        0,
        (let z : k ≡ i = cc in omega arith),
        record {
          below = omega arith;
          known = rw u;
          passes = λ d. eqb-true (key x) t u;
          got = λ d. rw u;
          gone = λ a. rw u (without_lacking l (after u a));
          changed = λ d f. λ a. rw u (ap (λ m. f x ∷ m) (change_lacking key t f l (after u a)));
        },
      )
      go false u q f =
          let (j, q', r) = f q in (
            suc j,
            omega (arith, q'),
            record {
              below = omega (arith, r.below);
              known = rw u r.known;
              passes = r.passes;
              got = λ d. rw u (r.got d);
              gone = λ a. rw u (ap (λ m. x ∷ m) (r.gone a.1));
              changed = λ d g. λ a. rw u (ap (λ m. x ∷ m) (r.changed d g a.1));
            },
          )

  pub located : (l : List A) (i : ℕ) → place (at key t) 0 l ≡ Some i → Located key t l i
  located l i e = let (j, q, r) = located_from l 0 i e in subst (λ n. Located key t l n) (let z : j ≡ i = omega (arith, q) in z) r

  lacking : (k : ℕ) (l : List A) → place (at key t) k l ≡ None → has key t l ≡ false
  unfolding place
  lacking k [] e = refl
  lacking k (x ∷ l) e = go (eqb (key x) t) e (lacking (suc k) l)
    where
      go : (b : Bool) → cond b (Some k) (place (at key t) (suc k) l) ≡ None → (place (at key t) (suc k) l ≡ None → has key t l ≡ false) → b || has key t l ≡ false
      go true q f = absurd (let z : ◌≡◌ {A = ℕ} 0 1 = cc in omega arith)
      go false q f = f q

  get_lacking : (l : List A) → has key t l ≡ false → get key t l ≡ none
  get_lacking [] h = refl
  get_lacking (x ∷ l) h = go (eqb (key x) t) h (get_lacking l)
    where
      go : (b : Bool) → b || has key t l ≡ false → (has key t l ≡ false → get key t l ≡ none) → cond b (some x) (get key t l) ≡ none
      go true q ih = absurd (true≢false q)
      go false q ih = ih q

  pub missing : (l : List A) → place (at key t) 0 l ≡ None → Missing key t l
  missing l e =
      let h = lacking 0 l e in
      record { known = h; got = get_lacking l h; gone = without_lacking l h; changed = λ f. change_lacking key t f l h }

-- the keys of a list are searched for the list
-- whether one is found
pub found-known : {A : Type 0} (key : A → ℕ) (t : ℕ) (l : List A) (o : Option ℕ) → o ≡ place (at key t) 0 l → is_some o ≡ has key t l
found-known key t l (Some i) e = sym (located key t l i (sym e)).known
found-known key t l None e = sym (missing key t l (sym e)).known

pub map-place : {A B : Type 0} (g : A → B) (q : B → Bool) (k : ℕ) (l : List A) → place q k (map g l) ≡ place (λ x. q (g x)) k l
unfolding place
map-place g q k [] = refl
map-place g q k (x ∷ l) = ap (λ m. cond (q (g x)) (Some k) m) (map-place g q (suc k) l)

pub map-rank : {A B : Type 0} (g : A → B) (q : B → Bool) (l : List A) → rank q (map g l) ≡ rank (λ x. q (g x)) l
unfolding rank
map-rank g q [] = refl
map-rank g q (x ∷ l) = ap (λ m. cond (q (g x)) (suc m) 0) (map-rank g q l)

-- what is said of each item, whatever test of what it stands for that is, tells the place and the rank among what they stand for
module _ {A B : Type 0} (Says : A → Bool → Type 0) (g : A → B) (q : B → Bool) (says : (x : A) (b : Bool) → Says x b → b ≡ q (g x)) where
  pub place_as : {o : Option ℕ} (l m : List A) → Places Says l o → l ≡ m → o ≡ place q 0 (map g m)
  place_as l m h e = h (λ x. q (g x)) says ∙ ap (place (λ x. q (g x)) 0) e ∙ sym (map-place g q 0 m)

  pub rank_as : {n : ℕ} (l m : List A) → Ranks Says l n → l ≡ m → n ≡ rank q (map g m)
  rank_as l m h e = h (λ x. q (g x)) says ∙ ap (rank (λ x. q (g x))) e ∙ sym (map-rank g q m)

-- a new element is put in where its key ranks
pub include-rank : {A : Type 0} (key : A → ℕ) (e : A) (l : List A) → has key (key e) l ≡ false → insert_at (rank (λ x. ltb (key x) (key e)) l) e l ≡ include key e l
unfolding rank
include-rank key e [] h = refl
include-rank {A} key e (x ∷ l) h = go (eqb (key x) (key e)) refl h (ltb (key x) (key e)) refl (include-rank key e l)
  where
    go : (c : Bool) → eqb (key x) (key e) ≡ c → c || has key (key e) l ≡ false → (b : Bool) → ltb (key x) (key e) ≡ b →
        (has key (key e) l ≡ false → insert_at (rank (λ y. ltb (key y) (key e)) l) e l ≡ include key e l) →
        insert_at (cond b (suc (rank (λ y. ltb (key y) (key e)) l)) 0) e (x ∷ l) ≡ cond (ltb (key e) (key x)) (e ∷ x ∷ l) (x ∷ cond (eqb (key e) (key x)) l (include key e l))
    go true u q b w ih = absurd (true≢false q)
    go false u q true w ih =
        rw (le-ltb (key e) (key x) (omega (arith, ltb-true (key x) (key e) w)), ne_eqb (key e) (key x) (omega (arith, ltb-true (key x) (key e) w)))
        (ap (λ m. x ∷ m) (ih q))
    go false u q false w ih = rw (lt-ltb (key e) (key x) (omega (arith, ltb-false (key x) (key e) w, eqb-false (key x) (key e) u)))

-- one that is not found, put in where it ranks
module _ {A : Type 0} (key : A → ℕ) (e : A) (l : List A) (k : ℕ) (new : place (at key (key e)) 0 l ≡ None) (is : k ≡ rank (λ x. ltb (key x) (key e)) l) where
  pub ranked-low : k ≤ length l
  ranked-low = omega (arith, is, rank_le (λ x. ltb (key x) (key e)) l)

  pub ranked_in : insert_at k e l ≡ include key e l
  ranked_in = ap (λ j. insert_at j e l) is ∙ include-rank key e l (missing key (key e) l new).known

  pub ranked_rises : Ascending key l → Ascending key (insert_at k e l)
  ranked_rises a = rw ranked_in (ascending-include key e l a)

-- moving a hole through an array: `remove_at i a` is the array without what stands at the hole

pub fill_hole : {A : Type 0} (a : List A) (i : ℕ) (e : A) → i < length a → set a i e ≡ insert_at i e (remove_at i a)
fill_hole [] i e h = absurd (omega arith)
fill_hole (x ∷ l) zero e h = refl
fill_hole (x ∷ l) (suc i) e h = ap (λ m. x ∷ m) (fill_hole l i e (omega arith))

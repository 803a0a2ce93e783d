-- Lists in rising order of a key: what holds after the element with a key is changed, or one is put in, and what is then found.
-- Assumes nothing.
use Prim.Native.Nat.{ℕ, suc, ◌<◌}
use mathlib.Core.Path.{◌≡◌, refl, sym, ap, ap₂, ◌∙◌}
use mathlib.Core.List.{List, [], ◌∷◌}
use mathlib.Core.Bool.{Bool, true, false, cond, not, ◌||◌, true≢false}
use mathlib.Core.Option.{some}
use native.Mathlib.Omega.{arith}
use borrow.Author.Tests.{eqb-true, eq-eqb, ne_eqb, ltb-true}
use lib.Dec.{eqb, ltb}
use lib.ListN.{length}
use Rattle.lists.specs.Lists.{cons_if, keep, Every, at, has, get, change, include, Above, Ascending, self}
use Rattle.lists.proofs.Order.{above_weak, above_lacks, any-include}

module _ {A : Type 0} (key : A → ℕ) where
  -- nothing has the key: nothing is changed
  pub change_lacking : (t : ℕ) (f : A → A) (l : List A) → has key t l ≡ false → change key t f l ≡ l
  change_lacking t f [] h = refl
  change_lacking t f (x ∷ l) h = go (eqb (key x) t) h (change_lacking t f l)
    where
      go : (b : Bool) → b || has key t l ≡ false → (has key t l ≡ false → change key t f l ≡ l) → cond b (f x) x ∷ change key t f l ≡ x ∷ l
      go true q ih = absurd (true≢false q)
      go false q ih = ap (λ m. x ∷ m) (ih q)

  -- what holds of each holds after the one with the key is changed, if it holds of that one
  -- nothing changes above the key; what is at the front of a rising list changes alone
  pub change_above : (t : ℕ) (f : A → A) (l : List A) → Above key t l → change key t f l ≡ l
  change_above t f l a = change_lacking t f l (above_lacks key t t l (omega arith) a)

  pub change-front : (f : A → A) (x : A) (l : List A) → Above key (key x) l → change key (key x) f (x ∷ l) ≡ f x ∷ l
  change-front f x l a = rw (eq-eqb (key x) (key x) refl) (ap (λ m. f x ∷ m) (change_above (key x) f l a))

  pub every_change : (P : A → Type 0) (t : ℕ) (f : A → A) (l : List A) → Ascending key l → ((x : A) → get key t l ≡ some x → P x → P (f x)) →
      Every P l → Every P (change key t f l)
  every_change P t f [] a c v = tt
  every_change P t f (x ∷ l) a c v = go (eqb (key x) t) refl c (every_change P t f l a.1)
    where
      go : (b : Bool) → eqb (key x) t ≡ b → ((y : A) → cond b (some x) (get key t l) ≡ some y → P y → P (f y)) →
          (((y : A) → get key t l ≡ some y → P y → P (f y)) → Every P l → Every P (change key t f l)) → Every P (cond b (f x) x ∷ change key t f l)
      go true u c' ih =
          (c' x refl v.0, rw (change_lacking t f l (above_lacks key t (key x) l (omega (arith, eqb-true (key x) t u)) a.0)) v.1)
      go false u c' ih = (v.0, ih c' v.1)

  -- a change that leaves the one with the key leaves all
  pub change_same : (t : ℕ) (f : A → A) (x : A) (l : List A) → Ascending key l → get key t l ≡ some x → f x ≡ x → change key t f l ≡ l
  change_same t f x [] a q s = refl
  change_same t f x (y ∷ l) a q s = go (eqb (key y) t) refl q (change_same t f x l a.1)
    where
      go : (b : Bool) → eqb (key y) t ≡ b → cond b (some y) (get key t l) ≡ some x → (get key t l ≡ some x → f x ≡ x → change key t f l ≡ l) → cond b (f y) y ∷ change key t f l ≡ y ∷ l
      go true u q' ih =
          let e : y ≡ x = cc in
          ap₂ ◌∷◌ (ap f e ∙ s ∙ sym e) (change_lacking t f l (above_lacks key t (key y) l (omega (arith, eqb-true (key y) t u)) a.0))
      go false u q' ih = ap (λ m. y ∷ m) (ih q' s)

  -- a change that leaves the keys leaves what is there
  pub has-change : (u t : ℕ) (f : A → A) (l : List A) → ((x : A) → key (f x) ≡ key x) → has key u (change key t f l) ≡ has key u l
  has-change u t f [] c = refl
  has-change u t f (x ∷ l) c = rw (has-change u t f l c) (ap (λ k. eqb k u || has key u l) (kept (eqb (key x) t)))
    where
      kept : (b : Bool) → key (cond b (f x) x) ≡ key x
      kept true = c x
      kept false = refl

  pub has-include : (u : ℕ) (e : A) (l : List A) → has key u (include key e l) ≡ eqb (key e) u || has key u l
  has-include u e l = any-include key (at key u) e l (every l)
    where
      every : (m : List A) → Every (λ x. key x ≡ key e → eqb (key x) u ≡ eqb (key e) u) m
      every [] = tt
      every (x ∷ m) = ((λ q. ap (λ k. eqb k u) q), every m)

-- Of a rising list of numbers, how many are not known, with one number put in: as many as before where it is known, else one
-- more than are then not known.
module _ (known : ℕ → Bool) where
  abbrev new : ℕ → Bool
  new u = not (known u)

  abbrev new_beside : ℕ → ℕ → Bool
  new_beside t u = not (eqb t u || known u)

  pub new_include_known : (t : ℕ) (l : List ℕ) → known t ≡ true → keep new (include self t l) ≡ keep new l
  new_include_known t [] h = rw h
  new_include_known t (x ∷ l) h = go (new_include_known t l h) (ltb t x) (eqb t x)
    where
      go : keep new (include self t l) ≡ keep new l → (b c : Bool) → keep new (cond b (t ∷ x ∷ l) (x ∷ cond c l (include self t l))) ≡ keep new (x ∷ l)
      go ih true c = rw h
      go ih false true = refl
      go ih false false = rw ih

  beside_above : (t : ℕ) (l : List ℕ) → Above self t l → keep (new_beside t) l ≡ keep new l
  beside_above t [] a = refl
  beside_above t (x ∷ l) a = rw (ne_eqb t x (omega (arith, a.0)), beside_above t l a.1)

  pub new_include : (t : ℕ) (l : List ℕ) → Ascending self l → known t ≡ false → length (keep new (include self t l)) ≡ suc (length (keep (new_beside t) l))
  new_include t [] a h = rw h
  new_include t (x ∷ l) a h = go (new_include t l a.1 h) (ltb t x) refl (eqb t x) refl
    where
      later : (k : Bool) → length (keep new (include self t l)) ≡ suc (length (keep (new_beside t) l)) → length (cons_if k x (keep new (include self t l))) ≡ suc (length (cons_if k x (keep (new_beside t) l)))
      later true ih = ap suc ih
      later false ih = ih

      go : length (keep new (include self t l)) ≡ suc (length (keep (new_beside t) l)) → (b : Bool) → ltb t x ≡ b → (c : Bool) → eqb t x ≡ c →
          length (keep new (cond b (t ∷ x ∷ l) (x ∷ cond c l (include self t l)))) ≡ suc (length (cons_if (not (c || known x)) x (keep (new_beside t) l)))
      go ih true w true u = absurd (omega (arith, ltb-true t x w, eqb-true t x u))
      go ih true w false u =
          let lt : t < x = ltb-true t x w in
          rw (h, beside_above t l (above_weak self t x l (omega (arith, lt)) a.0))
      go ih false w true u =
          let e : t ≡ x = eqb-true t x u in
          let k : known x ≡ false = ap known (sym e) ∙ h in
          rw (k, beside_above t l (rw e a.0))
      go ih false w false u = later (not (known x)) ih

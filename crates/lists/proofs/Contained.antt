-- What a list contains: as a derivation, after keeping, and by a key that rises.
-- Assumes nothing.
use Prim.Native.Nat.{ℕ, zero, suc, ◌<◌}
use mathlib.Core.Path.{◌≡◌, refl, sym, ap, subst, ◌∙◌}
use mathlib.Core.Bool.{Bool, true, false}
use mathlib.Core.List.{List, [], ◌∷◌, ◌++◌, Memᴰ}
use mathlib.Core.Logic.{◌↔◌, ◌⊎◌, inl, inr, ⊎_elim}
use native.Mathlib.Omega.{arith}
use lib.ListN.{length, get_or}
use Rattle.std.specs.Prelude.{Contains}
use Rattle.lists.specs.Lists.{cons_if, keep, Every, Ascending}
use Rattle.lists.proofs.Parted.{kept_member}
use Rattle.lists.proofs.Order.{above_member}

module _ {A : Type 0} where
  pub member_of : {x : A} (l : List A) → Contains l x → Memᴰ x l
  member_of {x} l c = go l c.0 c.1 c.2
    where
      go : (l : List A) (k : ℕ) → k < length l → get_or l k x ≡ x → Memᴰ x l
      go [] k h e = absurd (omega arith)
      go (y ∷ l) zero h e = Memᴰ.head (sym e)
      go (y ∷ l) (suc k) h e = Memᴰ.tail (go l k (omega arith) e)

  pub of_member : {x : A} (l : List A) → Memᴰ x l → Contains l x
  of_member (y ∷ l) (Memᴰ.head e) = (0, omega arith, sym e)
  of_member (y ∷ l) (Memᴰ.tail m) = let c = of_member l m in (suc c.0, omega (arith, c.1), c.2)
  of_member [] x2 = elim x2 [ ]

  kept_passes : (p : A → Bool) (l : List A) {x : A} → Memᴰ x (keep p l) → Memᴰ x l × (p x ≡ true)
  kept_passes p [] x2 = elim x2 [ ]
  kept_passes p (y ∷ l) {x} m = go (p y) refl m (λ n. kept_passes p l n)
    where
      go : (b : Bool) → p y ≡ b → Memᴰ x (cons_if b y (keep p l)) → (Memᴰ x (keep p l) → Memᴰ x l × (p x ≡ true)) → Memᴰ x (y ∷ l) × (p x ≡ true)
      go true e (Memᴰ.head q) ih = (Memᴰ.head q, ap p q ∙ e)
      go true e (Memᴰ.tail n) ih = (Memᴰ.tail (ih n).0, (ih n).1)
      go false e n ih = (Memᴰ.tail (ih n).0, (ih n).1)

  -- what is kept is contained and passes, and the reverse
  pub contains-keep : (p : A → Bool) (l : List A) (x : A) → Contains (keep p l) x ↔ (Contains l x × (p x ≡ true))
  contains-keep p l x = (
    λ c. let m = kept_passes p l (member_of (keep p l) c) in (of_member l m.0, m.1),
    λ c. of_member (keep p l) (kept_member p l (member_of l c.0) c.1),
  )

  pub contains_none : (x : A) → Contains [] x → ⊥
  contains_none x c = omega (arith, c.1)

  pub contains_first : (x : A) (l : List A) → Contains (x ∷ l) x
  contains_first x l = (0, omega arith, refl)

  pub contains_more : (y : A) {x : A} (l : List A) → Contains l x → Contains (y ∷ l) x
  contains_more y l c = (suc c.0, omega (arith, c.1), c.2)

  pub contains_tail : (y : A) {x : A} (l : List A) → Contains (y ∷ l) x → (y ≡ x) ⊎ Contains l x
  contains_tail y {x} l c = go (member_of (y ∷ l) c)
    where
      go : Memᴰ x (y ∷ l) → (y ≡ x) ⊎ Contains l x
      go (Memᴰ.head e) = inl (sym e)
      go (Memᴰ.tail m) = inr (of_member l m)

  -- of keys that rise none stands twice
  pub one_by_key : (key : A → ℕ) (l : List A) → Ascending key l → (x y : A) → Contains l x → Contains l y → key x ≡ key y → x ≡ y
  one_by_key key l a x y c d = go l a (member_of l c) (member_of l d)
    where
      go : (l : List A) → Ascending key l → Memᴰ x l → Memᴰ y l → key x ≡ key y → x ≡ y
      go (z ∷ l) a (Memᴰ.head e) (Memᴰ.head q) h = e ∙ sym q
      go (z ∷ l) a (Memᴰ.head e) (Memᴰ.tail n) h = absurd (omega (arith, above_member key (key z) l a.0 n, ap key e, h))
      go (z ∷ l) a (Memᴰ.tail m) (Memᴰ.head q) h = absurd (omega (arith, above_member key (key z) l a.0 m, ap key q, h))
      go (z ∷ l) a (Memᴰ.tail m) (Memᴰ.tail n) h = go l a.1 m n h
      go [] a x2 n h = elim x2 [ ]

  -- two lists joined contain what either does
  pub contains_left : (a b : List A) {x : A} → Contains a x → Contains (a ++ b) x
  contains_left a b {x} c = of_member (a ++ b) (go a (member_of a c))
    where
      go : (a : List A) → Memᴰ x a → Memᴰ x (a ++ b)
      go (y ∷ l) (Memᴰ.head e) = Memᴰ.head e
      go (y ∷ l) (Memᴰ.tail m) = Memᴰ.tail (go l m)
      go [] m = elim m [ ]

  pub contains_right : (a b : List A) {x : A} → Contains b x → Contains (a ++ b) x
  contains_right [] b c = c
  contains_right (y ∷ a) b c = contains_more y (a ++ b) (contains_right a b c)

  pub contains_either : (a b : List A) {x : A} → Contains (a ++ b) x → Contains a x ⊎ Contains b x
  contains_either [] b c = inr c
  contains_either (y ∷ a) b {x} c =
      ⊎_elim (λ e. inl (subst (λ z. Contains (y ∷ a) z) e (contains_first y a)))
      (λ m. ⊎_elim (λ k. inl (contains_more y a k)) (λ k. inr k) (contains_either a b m))
      (contains_tail y (a ++ b) c)

  -- what each that it contains has, each of a list has
  pub each_has : (P : A → Type 0) (l : List A) → ((x : A) → Contains l x → P x) → Every P l
  each_has P [] h = tt
  each_has P (y ∷ l) h = (h y (contains_first y l), each_has P l (λ x c. h x (contains_more y l c)))

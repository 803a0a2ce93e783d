-- Lists parted by a test of their keys: each change by key is made on one part alone, and leaves the other.
-- Assumes nothing.
use Prim.Native.Nat.{ℕ, suc, ◌+◌, ◌<◌, ◌≤◌}
use mathlib.Core.Path.{◌≡◌, refl, sym, ap, ap₂, ◌∙◌}
use mathlib.Core.Bool.{Bool, true, false, cond, not, ◌&&◌, ◌||◌, false≢true}
use mathlib.Core.List.{List, [], ◌∷◌, ◌++◌, map, Memᴰ}
use mathlib.Core.Option.{some}
use native.Mathlib.Omega.{arith}
use lib.Dec.{eqb}
use lib.ListN.{length, length-append}
use borrow.Author.Tests.{eqb-true, eq-eqb, ne_eqb, not-true}
use Rattle.lists.specs.Lists.{cons_if, keep, any, all, at, change_if, has, get, without, change, include, Every, Ascending, concat_map}
use Rattle.lists.proofs.Tests.{and_swap, or_left}
use Rattle.lists.proofs.Keep.{keep_and, keep_same, keep-keep, every_always, every_more, every_all, any-has}
use Rattle.lists.proofs.Order.{above_keep, above_lacks, above_member, keep-include}
use Rattle.lists.proofs.Change.{change_lacking}

module _ {A : Type 0} where
  pub every_from : (P : A → Type 0) (l : List A) → ((x : A) → Memᴰ x l → P x) → Every P l
  every_from P [] h = tt
  every_from P (x ∷ l) h = (h x (Memᴰ.head refl), every_from P l (λ y m. h y (Memᴰ.tail m)))

  -- what is kept is a member that passes
  pub kept_passes : (q : A → Bool) (l : List A) → Every (λ x. q x ≡ true) (keep q l)
  kept_passes q [] = tt
  kept_passes q (x ∷ l) = go (q x) refl (kept_passes q l)
    where
      go : (b : Bool) → q x ≡ b → Every (λ x. q x ≡ true) (keep q l) → Every (λ x. q x ≡ true) (cons_if b x (keep q l))
      go true e ih = (e, ih)
      go false e ih = ih

  pub kept_member : (q : A → Bool) (l : List A) {x : A} → Memᴰ x l → q x ≡ true → Memᴰ x (keep q l)
  kept_member q (y ∷ l) {x} (Memᴰ.head e) h = go (q y) (ap q (sym e) ∙ h)
    where
      go : (b : Bool) → b ≡ true → Memᴰ x (cons_if b y (keep q l))
      go true k = Memᴰ.head e
      go false k = absurd (false≢true k)
  kept_member q (y ∷ l) {x} (Memᴰ.tail m) h = go (q y) (kept_member q l m h)
    where
      go : (b : Bool) → Memᴰ x (keep q l) → Memᴰ x (cons_if b y (keep q l))
      go true k = Memᴰ.tail k
      go false k = k
  kept_member q [] {x = x} x4 h = elim x4 [ ]

  pub keep_swap : (p q : A → Bool) (l : List A) → keep p (keep q l) ≡ keep q (keep p l)
  keep_swap p q l = keep_and q p l ∙ keep_same _ _ l (λ x m. and_swap (q x) (p x)) ∙ sym (keep_and p q l)

  -- a test that passes only where another does, on the members
  pub keep-within : (p q : A → Bool) (l : List A) → ((x : A) → Memᴰ x l → p x ≡ false → q x ≡ false) → keep q (keep p l) ≡ keep q l
  keep-within p q l h = keep_and p q l ∙ keep_same _ _ l (λ x m. go (p x) (h x m))
    where
      go : {b : Bool} (a : Bool) → (a ≡ false → b ≡ false) → a && b ≡ b
      go true k = refl
      go false k = sym (k refl)

  -- a change that a test does not see
  pub keep-change_if : (q p : A → Bool) (f : A → A) → ((x : A) → q (f x) ≡ q x) → (l : List A) → keep q (change_if p f l) ≡ change_if p f (keep q l)
  keep-change_if q p f c [] = refl
  keep-change_if q p f c (x ∷ l) = go (p x) refl (keep-change_if q p f c l)
    where
      put : (a b : Bool) → p x ≡ b → cons_if a (cond b (f x) x) (change_if p f (keep q l)) ≡ change_if p f (cons_if a x (keep q l))
      put true b e = rw e
      put false b e = refl

      same : (b : Bool) → q (cond b (f x) x) ≡ q x
      same true = c x
      same false = refl

      go : (b : Bool) → p x ≡ b → keep q (change_if p f l) ≡ change_if p f (keep q l) →
          cons_if (q (cond b (f x) x)) (cond b (f x) x) (keep q (change_if p f l)) ≡ change_if p f (cons_if (q x) x (keep q l))
      go b e ih = rw (same b, ih) (put (q x) b e)

  pub map-change_if : {B : Type 0} (g : A → B) (p : A → Bool) (f : A → A) → ((x : A) → g (f x) ≡ g x) → (l : List A) → map g (change_if p f l) ≡ map g l
  map-change_if g p f c [] = refl
  map-change_if g p f c (x ∷ l) = ap₂ ◌∷◌ (go (p x)) (map-change_if g p f c l)
    where
      go : (b : Bool) → g (cond b (f x) x) ≡ g x
      go true = c x
      go false = refl

  -- no element passes
  pub none_member : (q : A → Bool) (l : List A) → any q l ≡ false → {x : A} → Memᴰ x l → q x ≡ false
  none_member q l h {x} m = go (q x) refl
    where
      go : (b : Bool) → q x ≡ b → b ≡ false
      go true e = absurd (false≢true (sym h ∙ any-has q m e))
      go false e = refl

  pub all_fail : (q : A → Bool) (l : List A) → all (λ x. not (q x)) l ≡ true → Every (λ x. q x ≡ false) l
  all_fail q l h = every_more (λ x. not (q x) ≡ true) (λ x. q x ≡ false) (λ x. not-true (q x)) l (every_all (λ x. not (q x)) l h)

  pub any_never : (q : A → Bool) (l : List A) → ((x : A) → Memᴰ x l → q x ≡ false) → any q l ≡ false
  any_never q [] h = refl
  any_never q (x ∷ l) h = rw (h x (Memᴰ.head refl)) (any_never q l (λ y m. h y (Memᴰ.tail m)))

  -- what holds of each, from two that do
  pub every_two : (P Q R : A → Type 0) → ((x : A) → P x → Q x → R x) → (l : List A) → Every P l → Every Q l → Every R l
  every_two P Q R f [] v w = tt
  every_two P Q R f (x ∷ l) v w = (f x v.0 w.0, every_two P Q R f l v.1 w.1)

  -- those that fail and those that pass are all
  pub length_parts : (q : A → Bool) (l : List A) → length (keep (λ x. not (q x)) l) + length (keep q l) ≡ length l
  length_parts q [] = refl
  length_parts q (x ∷ l) = go (q x) (length_parts q l)
    where
      go : (b : Bool) → length (keep (λ x. not (q x)) l) + length (keep q l) ≡ length l →
          length (cons_if (not b) x (keep (λ x. not (q x)) l)) + length (cons_if b x (keep q l)) ≡ suc (length l)
      go true ih = omega (arith, ih)
      go false ih = omega (arith, ih)

  pub length-words-keep : {B : Type 0} (f : A → List B) (q : A → Bool) (l : List A) → length (concat_map f (keep q l)) ≤ length (concat_map f l)
  length-words-keep f q [] = omega arith
  length-words-keep f q (x ∷ l) = go (q x) (length-words-keep f q l)
    where
      go : (b : Bool) → length (concat_map f (keep q l)) ≤ length (concat_map f l) → length (concat_map f (cons_if b x (keep q l))) ≤ length (f x ++ concat_map f l)
      go true ih = omega (arith, length-append (f x) (concat_map f (keep q l)), length-append (f x) (concat_map f l))
      go false ih = omega (arith, length-append (f x) (concat_map f l))

  module _ (key : A → ℕ) where
    -- of a rising list, what is kept is told by its keys
    pub has_kept : (q : A → Bool) (l : List A) → Ascending key l → (x : A) → Memᴰ x l → has key (key x) (keep q l) ≡ q x
    has_kept q (y ∷ l) a x (Memᴰ.head e) = rw e (go (q y))
      where
        go : (b : Bool) → has key (key y) (cons_if b y (keep q l)) ≡ b
        go true = or_left _ _ (eq-eqb (key y) (key y) refl)
        go false = above_lacks key (key y) (key y) (keep q l) (omega arith) (above_keep key q (key y) l a.0)
    has_kept q (y ∷ l) a x (Memᴰ.tail m) = go (q y) (has_kept q l a.1 x m)
      where
        lt : key y < key x
        lt = above_member key (key y) l a.0 m

        go : (b : Bool) → has key (key x) (keep q l) ≡ q x → has key (key x) (cons_if b y (keep q l)) ≡ q x
        go true ih = rw (ne_eqb (key y) (key x) (omega (arith, lt))) ih
        go false ih = ih
    has_kept q [] a x x4 = elim x4 [ ]

    -- nothing has the key: anything holds of what has it
    pub lacking_every : (C : A → Type 0) (t : ℕ) (l : List A) → has key t l ≡ false → Every (λ x. key x ≡ t → C x) l
    lacking_every C t l h =
        every_from _ l (λ x m q. absurd (false≢true (sym (none_member (at key t) l h m) ∙ eq-eqb (key x) t q)))

    module _ (k : ℕ → Bool) where
      abbrev K : A → Bool
      K x = k (key x)

      pub get-keep : (t : ℕ) → k t ≡ true → (l : List A) → get key t (keep K l) ≡ get key t l
      get-keep t h [] = refl
      get-keep t h (x ∷ l) = go (k (key x)) refl (eqb (key x) t) refl (get-keep t h l)
        where
          go : (a : Bool) → k (key x) ≡ a → (b : Bool) → eqb (key x) t ≡ b → get key t (keep K l) ≡ get key t l →
              get key t (cons_if a x (keep K l)) ≡ cond b (some x) (get key t l)
          go true e b f ih = rw (f, ih)
          go false e true f ih = absurd (false≢true (sym e ∙ ap k (eqb-true (key x) t f) ∙ h))
          go false e false f ih = ih

      pub has-keep : (t : ℕ) → k t ≡ true → (l : List A) → has key t (keep K l) ≡ has key t l
      has-keep t h [] = refl
      has-keep t h (x ∷ l) = go (k (key x)) refl (eqb (key x) t) refl (has-keep t h l)
        where
          go : (a : Bool) → k (key x) ≡ a → (b : Bool) → eqb (key x) t ≡ b → has key t (keep K l) ≡ has key t l →
              has key t (cons_if a x (keep K l)) ≡ b || has key t l
          go true e b f ih = rw (f, ih)
          go false e true f ih = absurd (false≢true (sym e ∙ ap k (eqb-true (key x) t f) ∙ h))
          go false e false f ih = ih

      pub lacks_keep : (t : ℕ) → k t ≡ false → (l : List A) → has key t (keep K l) ≡ false
      lacks_keep t h [] = refl
      lacks_keep t h (x ∷ l) = go (k (key x)) refl (eqb (key x) t) refl (lacks_keep t h l)
        where
          go : (a : Bool) → k (key x) ≡ a → (b : Bool) → eqb (key x) t ≡ b → has key t (keep K l) ≡ false → has key t (cons_if a x (keep K l)) ≡ false
          go true e true f ih = absurd (false≢true (sym h ∙ ap k (sym (eqb-true (key x) t f)) ∙ e))
          go true e false f ih = rw f ih
          go false e b f ih = ih

      -- a change by key, on a part
      module _ (f : A → A) (c : (x : A) → key (f x) ≡ key x) (t : ℕ) where
        pub keep-change : (l : List A) → keep K (change key t f l) ≡ change key t f (keep K l)
        keep-change l = keep-change_if K (at key t) f (λ x. ap k (c x)) l

        pub change_beside : k t ≡ false → (l : List A) → keep K (change key t f l) ≡ keep K l
        change_beside h l = keep-change l ∙ change_lacking key t f (keep K l) (lacks_keep t h l)

      pub keep-without : (t : ℕ) (l : List A) → keep K (without key t l) ≡ without key t (keep K l)
      keep-without t l = keep_swap K (λ x. not (eqb (key x) t)) l

      pub without_beside : (t : ℕ) → k t ≡ false → (l : List A) → keep K (without key t l) ≡ keep K l
      without_beside t h l = keep-keep _ K (λ x e. ap not (ne_eqb (key x) t (λ q. false≢true (sym h ∙ ap k (sym q) ∙ e)))) l

      agreed : (e : A) (l : List A) → Every (λ x. key x ≡ key e → K x ≡ K e) l
      agreed e l = every_always _ (λ x q. ap k q) l

      pub keep-put : (e : A) → k (key e) ≡ true → (l : List A) → Ascending key l → keep K (include key e l) ≡ include key e (keep K l)
      keep-put e h l a = keep-include key K e l (agreed e l) a ∙ rw h

      pub put_beside : (e : A) → k (key e) ≡ false → (l : List A) → Ascending key l → keep K (include key e l) ≡ keep K l
      put_beside e h l a = keep-include key K e l (agreed e l) a ∙ rw h

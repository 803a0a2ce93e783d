-- Laws of keeping, testing and counting over a list.
-- Assumes nothing.
use Prim.Native.Nat.{ℕ, suc, ◌+◌, ◌≤◌}
use mathlib.Core.Path.{◌≡◌, refl, sym, ap, ◌∙◌}
use mathlib.Core.Bool.{Bool, true, false, cond, not, ◌||◌, ◌&&◌, false≢true}
use mathlib.Core.List.{List, [], ◌∷◌, ◌++◌, map, append_assoc, Memᴰ}
use native.Mathlib.Omega.{arith}
use borrow.Author.Tests.{eqb-true}
use lib.Dec.{eqb}
use lib.ListN.{length}
use Rattle.lists.specs.Lists.{cons_if, keep, any, all, change_if, Every, all_of, concat_map, has, self}
use Rattle.lists.proofs.Tests.{or_left, or_right, or_assoc, or_false, or_same, and_left, and_right, and_both}

module _ {A : Type 0} where
  -- a test that implies another sees nothing of what the other leaves out
  pub keep-keep : (p q : A → Bool) → ((x : A) → q x ≡ true → p x ≡ true) → (l : List A) → keep q (keep p l) ≡ keep q l
  keep-keep p q imp [] = refl
  keep-keep p q imp (x ∷ l) = go (keep-keep p q imp l) (p x) (q x) refl refl
    where
      go : keep q (keep p l) ≡ keep q l → (a b : Bool) → p x ≡ a → q x ≡ b → keep q (keep p (x ∷ l)) ≡ keep q (x ∷ l)
      go ih true b e f = simp (e, ih)
      go ih false true e f = absurd (false≢true (sym e ∙ imp x f))
      go ih false false e f = simp (e, f, ih)

  pub keep_always : (p : A → Bool) (l : List A) → Every (λ x. p x ≡ true) l → keep p l ≡ l
  keep_always p [] v = refl
  keep_always p (x ∷ l) v = rw (v.0, keep_always p l v.1)

  pub keep_never : (p : A → Bool) (l : List A) → Every (λ x. p x ≡ false) l → keep p l ≡ []
  keep_never p [] v = refl
  keep_never p (x ∷ l) v = rw v.0 (keep_never p l v.1)

  -- tests that agree on the members keep the same and find the same
  pub keep_same : (p q : A → Bool) (l : List A) → ((x : A) → Memᴰ x l → p x ≡ q x) → keep p l ≡ keep q l
  keep_same p q [] h = refl
  keep_same p q (x ∷ l) h = rw (h x (Memᴰ.head refl), keep_same p q l (λ y m. h y (Memᴰ.tail m)))

  pub any_same : (p q : A → Bool) (l : List A) → ((x : A) → Memᴰ x l → p x ≡ q x) → any p l ≡ any q l
  any_same p q [] h = refl
  any_same p q (x ∷ l) h = rw (h x (Memᴰ.head refl), any_same p q l (λ y m. h y (Memᴰ.tail m)))

  pub any-has : (p : A → Bool) {x : A} {l : List A} → Memᴰ x l → p x ≡ true → any p l ≡ true
  any-has p (Memᴰ.head {x = y} {xs = l} e) h = or_left (p y) (any p l) (ap p (sym e) ∙ h)
  any-has p (Memᴰ.tail {x = y} {xs = l} m) h = or_right (p y) (any p l) (any-has p m h)

  pub any_more : (p q : A → Bool) → ((x : A) → p x ≡ true → q x ≡ true) → (l : List A) → any p l ≡ true → any q l ≡ true
  any_more p q imp [] h = absurd (false≢true h)
  any_more p q imp (x ∷ l) h = go (any_more p q imp l) (p x) refl
    where
      go : (any p l ≡ true → any q l ≡ true) → (a : Bool) → p x ≡ a → any q (x ∷ l) ≡ true
      go ih true e = or_left (q x) (any q l) (imp x e)
      go ih false e = or_right (q x) (any q l) (ih (rw e at h))

  pub any-keep : (p q : A → Bool) (l : List A) → any p (keep q l) ≡ true → any p l ≡ true
  any-keep p q [] h = h
  any-keep p q (x ∷ l) h = go (any-keep p q l) (p x) (q x) refl refl
    where
      go : (any p (keep q l) ≡ true → any p l ≡ true) → (a b : Bool) → p x ≡ a → q x ≡ b → any p (x ∷ l) ≡ true
      go ih true b e f = rw e
      go ih false true e f = rw e (ih (simp (f, e) at h))
      go ih false false e f = rw e (ih (simp f at h))

  pub any_append : (p : A → Bool) (a b : List A) → any p (a ++ b) ≡ any p a || any p b
  any_append p [] b = refl
  any_append p (x ∷ a) b = rw (any_append p a b) (sym (or_assoc (p x) (any p a) (any p b)))

  -- a test joined with a fixed one
  pub any_and : (p : A → Bool) (b : Bool) (l : List A) → any (λ x. p x && b) l ≡ any p l && b
  any_and p b [] = refl
  any_and p b (x ∷ l) = rw (any_and p b l) (go (p x) (any p l))
    where
      go : (a c : Bool) → a && b || c && b ≡ (a || c) && b
      go true true = or_same b
      go true false = or_false b
      go false c = refl

  -- what falls first, and what falls of the rest, are as many as fall in the end
  pub keep-count : (p q : A → Bool) → ((x : A) → q x ≡ true → p x ≡ true) → (l : List A) →
      length (keep (λ x. not (p x)) l) + length (keep (λ x. not (q x)) (keep p l)) ≡ length (keep (λ x. not (q x)) l)
  keep-count p q imp [] = refl
  keep-count p q imp (x ∷ l) = go (keep-count p q imp l) (p x) (q x) refl refl
    where
      go : length (keep (λ x. not (p x)) l) + length (keep (λ x. not (q x)) (keep p l)) ≡ length (keep (λ x. not (q x)) l) →
          (a b : Bool) → p x ≡ a → q x ≡ b →
          length (keep (λ x. not (p x)) (x ∷ l)) + length (keep (λ x. not (q x)) (keep p (x ∷ l))) ≡ length (keep (λ x. not (q x)) (x ∷ l))
      go ih true true e f = simp (e, f) ih
      go ih true false e f = simp (e, f) (omega arith)
      go ih false true e f = absurd (false≢true (sym e ∙ imp x f))
      go ih false false e f = simp (e, f) (omega arith)

  pub length-keep : (p : A → Bool) (l : List A) → length (keep p l) ≤ length l
  length-keep p [] = omega arith
  length-keep p (x ∷ l) = go (length-keep p l) (p x)
    where
      go : length (keep p l) ≤ length l → (b : Bool) → length (cons_if b x (keep p l)) ≤ suc (length l)
      go ih true = omega arith
      go ih false = omega arith

  pub length-change_if : (p : A → Bool) (f : A → A) (l : List A) → length (change_if p f l) ≡ length l
  length-change_if p f [] = refl
  length-change_if p f (x ∷ l) = ap suc (length-change_if p f l)

  -- what holds of each
  pub every_keep : (P : A → Type 0) (p : A → Bool) (l : List A) → Every P l → Every P (keep p l)
  every_keep P p [] v = tt
  every_keep P p (x ∷ l) v = go (every_keep P p l v.1) (p x)
    where
      go : Every P (keep p l) → (b : Bool) → Every P (cons_if b x (keep p l))
      go ih true = (v.0, ih)
      go ih false = ih

  pub every_always : (P : A → Type 0) → ((x : A) → P x) → (l : List A) → Every P l
  every_always P h [] = tt
  every_always P h (x ∷ l) = (h x, every_always P h l)

  pub every_more : (P Q : A → Type 0) → ((x : A) → P x → Q x) → (l : List A) → Every P l → Every Q l
  every_more P Q imp [] v = tt
  every_more P Q imp (x ∷ l) v = (imp x v.0, every_more P Q imp l v.1)

  pub every_change_if : (P : A → Type 0) (p : A → Bool) (f : A → A) (l : List A) → ((x : A) → P x → P (f x)) → Every P l → Every P (change_if p f l)
  every_change_if P p f [] c v = tt
  every_change_if P p f (x ∷ l) c v = (go (p x), every_change_if P p f l c v.1)
    where
      go : (b : Bool) → P (cond b (f x) x)
      go true = c x v.0
      go false = v.0

  pub every_member : (P : A → Type 0) {x : A} (l : List A) → Every P l → Memᴰ x l → P x
  every_member P (y ∷ l) v (Memᴰ.head e) = rw e v.0
  every_member P (y ∷ l) v (Memᴰ.tail m) = every_member P l v.1 m
  every_member P [] v x3 = elim x3 [ ]

  pub every_all : (p : A → Bool) (l : List A) → all p l ≡ true → Every (λ x. p x ≡ true) l
  every_all p [] h = tt
  every_all p (x ∷ l) h = (and_left (p x) (all p l) h, every_all p l (and_right (p x) (all p l) h))

  pub all_every : (p : A → Bool) (l : List A) → Every (λ x. p x ≡ true) l → all p l ≡ true
  all_every p [] v = refl
  all_every p (x ∷ l) v = and_both (p x) (all p l) v.0 (all_every p l v.1)

  pub every_append : (P : A → Type 0) (a b : List A) → Every P a → Every P b → Every P (a ++ b)
  every_append P [] b v w = w
  every_append P (x ∷ a) b v w = (v.0, every_append P a b v.1 w)

-- the tests that passed together, one by one
abbrev pub Passed : Bool → Type 0
Passed b = b ≡ true

pub each_of : (l : List Bool) → all_of l ≡ true → Every Passed l
each_of [] h = tt
each_of (b ∷ l) h = (and_left b (all_of l) h, each_of l (and_right b (all_of l) h))

pub all_passed : (l : List Bool) → Every Passed l → all_of l ≡ true
all_passed [] v = refl
all_passed (b ∷ l) v = and_both b (all_of l) v.0 (all_passed l v.1)

-- what holds of all that f says of each
pub every_concat_map : {A B : Type 0} (P : B → Type 0) (f : A → List B) (l : List A) → Every (λ x. Every P (f x)) l → Every P (concat_map f l)
every_concat_map P f [] v = tt
every_concat_map P f (x ∷ l) v = every_append P (f x) (concat_map f l) v.0 (every_concat_map P f l v.1)

pub every_joined : {A B : Type 0} (Q : A → Type 0) (P : B → Type 0) (f : A → List B) → ((x : A) → Q x → Every P (f x)) → (l : List A) → Every Q l → Every P (concat_map f l)
every_joined Q P f h l v = every_concat_map P f l (every_more Q (λ x. Every P (f x)) h l v)

-- what holds of each holds of a number among them
pub every-has : (P : ℕ → Type 0) (r : ℕ) (l : List ℕ) → Every P l → has self r l ≡ true → P r
every-has P r [] v h = absurd (false≢true h)
every-has P r (x ∷ l) v h = go (eqb x r) refl h (every-has P r l v.1)
  where
    go : (b : Bool) → eqb x r ≡ b → b || has self r l ≡ true → (has self r l ≡ true → P r) → P r
    go true e k later = rw (eqb-true x r e) at v.0
    go false e k later = later k

-- what two functions say end to end, where they say the same of each
pub concat_map_alike : {A B : Type 0} (P : A → Type 0) (f g : A → List B) → ((x : A) → P x → f x ≡ g x) → (l : List A) → Every P l → concat_map f l ≡ concat_map g l
concat_map_alike P f g h [] v = refl
concat_map_alike P f g h (x ∷ l) v = ap (λ k. k ++ concat_map f l) (h x v.0) ∙ ap (λ k. g x ++ k) (concat_map_alike P f g h l v.1)

pub concat_map-append : {A B : Type 0} (f : A → List B) (a b : List A) → concat_map f (a ++ b) ≡ concat_map f a ++ concat_map f b
concat_map-append f [] b = refl
concat_map-append f (x ∷ a) b = rw (concat_map-append f a b, append_assoc)

-- what f makes of each
module _ {A B : Type 0} (f : A → B) where
  pub any-map : (p : B → Bool) (l : List A) → any p (map f l) ≡ any (λ x. p (f x)) l
  any-map p [] = refl
  any-map p (x ∷ l) = rw (any-map p l)

  pub every_map : (P : B → Type 0) (l : List A) → Every (λ x. P (f x)) l → Every P (map f l)
  every_map P [] v = tt
  every_map P (x ∷ l) v = (v.0, every_map P l v.1)

  pub every_unmap : (P : B → Type 0) (l : List A) → Every P (map f l) → Every (λ x. P (f x)) l
  every_unmap P [] v = tt
  every_unmap P (x ∷ l) v = (v.0, every_unmap P l v.1)

  -- a test that f's of each good one passes
  pub passes_each : (P : A → Type 0) (q : B → Bool) → ((x : A) → P x → q (f x) ≡ true) → (l : List A) → Every P l → all q (map f l) ≡ true
  passes_each P q h [] v = refl
  passes_each P q h (x ∷ l) v = and_both (q (f x)) (all q (map f l)) (h x v.0) (passes_each P q h l v.1)

-- two tests, one after the other, are one
pub keep_and : {A : Type 0} (p q : A → Bool) (l : List A) → keep q (keep p l) ≡ keep (λ x. p x && q x) l
keep_and p q [] = refl
keep_and p q (x ∷ l) = go (p x) (q x) refl (keep_and p q l)
  where
    go : (a b : Bool) → q x ≡ b → keep q (keep p l) ≡ keep (λ x. p x && q x) l → keep q (cons_if a x (keep p l)) ≡ cons_if (a && b) x (keep (λ x. p x && q x) l)
    go true b e ih = rw e (ap (cons_if b x) ih)
    go false b e ih = ih

pub keep_all : {A : Type 0} (l : List A) → keep (λ x. true) l ≡ l
keep_all [] = refl
keep_all (x ∷ l) = ap (λ m. x ∷ m) (keep_all l)

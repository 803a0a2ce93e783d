-- Lists whose keys rise strictly: what each change keeps, and what is found after it.
-- Assumes nothing.
use Prim.Native.Nat.{ℕ, suc, ◌+◌, ◌≤◌, ◌<◌}
use mathlib.Core.Path.{◌≡◌, refl, sym, ap, ◌∙◌}
use mathlib.Core.List.{List, [], ◌∷◌, map, Memᴰ}
use mathlib.Core.Bool.{Bool, true, false, cond, not, ◌||◌, ◌&&◌, false≢true}
use native.Mathlib.Omega.{arith}
use borrow.Author.Tests.{ltb-true, ltb-false, leb-false, eqb-true, eqb-false, eq-eqb, ne_eqb, lt-ltb, le-ltb}
use lib.Dec.{eqb, ltb, leb}
use lib.ListN.{length}
use Rattle.lists.specs.Lists.{cons_if, keep, any, change_if, Every, has, include, include_all, Above, Ascending, above_all, ascending}
use Rattle.lists.proofs.Tests.{or_assoc, and_left, and_right, and_both}
use Rattle.lists.proofs.Keep.{every_more}

-- two numbers: the lower first, equal, or the higher first
pub by_order : {P : Type 0} (m n : ℕ) → (m < n → P) → (m ≡ n → P) → (n < m → P) → P
by_order {P} m n f g h = go (ltb m n) refl (eqb m n) refl
  where
    go : (b : Bool) → ltb m n ≡ b → (c : Bool) → eqb m n ≡ c → P
    go true t c u = f (ltb-true m n t)
    go false t true u = g (eqb-true m n u)
    go false t false u = h (omega (arith, ltb-false m n t, eqb-false m n u))

module _ {A : Type 0} (key : A → ℕ) where
  pub above_weak : (j k : ℕ) (l : List A) → j ≤ k → Above key k l → Above key j l
  above_weak j k [] h a = tt
  above_weak j k (x ∷ l) h a = (omega (arith, a.0), above_weak j k l h a.1)

  pub above_member : (k : ℕ) {x : A} (l : List A) → Above key k l → Memᴰ x l → k < key x
  above_member k (y ∷ l) a (Memᴰ.head e) = rw e a.0
  above_member k (y ∷ l) a (Memᴰ.tail m) = above_member k l a.1 m
  above_member k [] a x3 = elim x3 [ ]

  pub above_keep : (p : A → Bool) (k : ℕ) (l : List A) → Above key k l → Above key k (keep p l)
  above_keep p k [] a = tt
  above_keep p k (x ∷ l) a = go (above_keep p k l a.1) (p x)
    where
      go : Above key k (keep p l) → (b : Bool) → Above key k (cons_if b x (keep p l))
      go ih true = (a.0, ih)
      go ih false = ih

  pub ascending-keep : (p : A → Bool) (l : List A) → Ascending key l → Ascending key (keep p l)
  ascending-keep p [] a = tt
  ascending-keep p (x ∷ l) a = go (ascending-keep p l a.1) (p x)
    where
      go : Ascending key (keep p l) → (b : Bool) → Ascending key (cons_if b x (keep p l))
      go ih true = (above_keep p (key x) l a.0, ih)
      go ih false = ih

  module _ (p : A → Bool) (f : A → A) (c : (x : A) → key (f x) ≡ key x) where
    key-kept : (x : A) (b : Bool) → key (cond b (f x) x) ≡ key x
    key-kept x true = c x
    key-kept x false = refl

    above_change_if : (k : ℕ) (l : List A) → Above key k l → Above key k (change_if p f l)
    above_change_if k [] a = tt
    above_change_if k (x ∷ l) a = (omega (arith, key-kept x (p x), a.0), above_change_if k l a.1)

    pub ascending-change_if : (l : List A) → Ascending key l → Ascending key (change_if p f l)
    ascending-change_if [] a = tt
    ascending-change_if (x ∷ l) a = (rw (key-kept x (p x)) (above_change_if (key x) l a.0), ascending-change_if l a.1)

  above_include : (e : A) (k : ℕ) (l : List A) → k < key e → Above key k l → Above key k (include key e l)
  above_include e k [] h a = (h, tt)
  above_include e k (x ∷ l) h a = go (above_include e k l h a.1) (ltb (key e) (key x)) (eqb (key e) (key x))
    where
      go : Above key k (include key e l) → (b c : Bool) → Above key k (cond b (e ∷ x ∷ l) (x ∷ cond c l (include key e l)))
      go ih true c = (h, a)
      go ih false true = a
      go ih false false = (a.0, ih)

  pub ascending-include : (e : A) (l : List A) → Ascending key l → Ascending key (include key e l)
  ascending-include e [] a = (tt, tt)
  ascending-include e (x ∷ l) a = go (ascending-include e l a.1) (ltb (key e) (key x)) refl (eqb (key e) (key x)) refl
    where
      go : Ascending key (include key e l) → (b : Bool) → ltb (key e) (key x) ≡ b → (c : Bool) → eqb (key e) (key x) ≡ c → Ascending key (cond b (e ∷ x ∷ l) (x ∷ cond c l (include key e l)))
      go ih true t c u = ((ltb-true (key e) (key x) t, above_weak (key e) (key x) l (omega (arith, ltb-true (key e) (key x) t)) a.0), a)
      go ih false t true u = a
      go ih false t false u =
          (above_include e (key x) l (omega (arith, ltb-false (key e) (key x) t, eqb-false (key e) (key x) u)) a.0, ih)

  pub ascending-include_all : (es l : List A) → Ascending key l → Ascending key (include_all key es l)
  ascending-include_all [] l a = a
  ascending-include_all (e ∷ es) l a = ascending-include e (include_all key es l) (ascending-include_all es l a)

  pub every_include : (P : A → Type 0) (e : A) (l : List A) → P e → Every P l → Every P (include key e l)
  every_include P e [] q v = (q, tt)
  every_include P e (x ∷ l) q v = go (every_include P e l q v.1) (ltb (key e) (key x)) (eqb (key e) (key x))
    where
      go : Every P (include key e l) → (b c : Bool) → Every P (cond b (e ∷ x ∷ l) (x ∷ cond c l (include key e l)))
      go ih true c = (q, v)
      go ih false true = v
      go ih false false = (v.0, ih)

  pub every_include_all : (P : A → Type 0) (es l : List A) → Every P es → Every P l → Every P (include_all key es l)
  every_include_all P [] l w v = v
  every_include_all P (e ∷ es) l w v = every_include P e (include_all key es l) w.0 (every_include_all P es l w.1 v)

  pub length-include : (e : A) (l : List A) → length (include key e l) ≤ suc (length l)
  length-include e [] = omega arith
  length-include e (x ∷ l) = go (length-include e l) (ltb (key e) (key x)) (eqb (key e) (key x))
    where
      go : length (include key e l) ≤ suc (length l) → (b c : Bool) → length (cond b (e ∷ x ∷ l) (x ∷ cond c l (include key e l))) ≤ suc (suc (length l))
      go ih true c = omega arith
      go ih false true = omega arith
      go ih false false = omega arith

  pub length-include_all : (es l : List A) → length (include_all key es l) ≤ length es + length l
  length-include_all [] l = omega arith
  length-include_all (e ∷ es) l = omega (arith, length-include e (include_all key es l), length-include_all es l)

  pub above_lacks : (t k : ℕ) (l : List A) → t ≤ k → Above key k l → has key t l ≡ false
  above_lacks t k [] h a = refl
  above_lacks t k (x ∷ l) h a = rw (ne_eqb (key x) t (omega (arith, a.0))) (above_lacks t k l h a.1)

  -- what stands already is not put in again
  pub include-known : (e : A) (l : List A) → Ascending key l → has key (key e) l ≡ true → include key e l ≡ l
  include-known e [] a h = absurd (false≢true h)
  include-known e (x ∷ l) a h = go (include-known e l a.1) (ltb (key e) (key x)) refl (eqb (key e) (key x)) refl
    where
      lower : key e < key x → ⊥
      lower lt = false≢true (sym (above_lacks (key e) (key x) l (omega (arith, lt)) a.0) ∙ (rw (ne_eqb (key x) (key e) (omega (arith, lt))) at h))

      later : eqb (key e) (key x) ≡ false → has key (key e) l ≡ true
      later u = rw (ne_eqb (key x) (key e) (λ q. eqb-false (key e) (key x) u (sym q))) at h

      go : (has key (key e) l ≡ true → include key e l ≡ l) → (b : Bool) → ltb (key e) (key x) ≡ b → (c : Bool) → eqb (key e) (key x) ≡ c → cond b (e ∷ x ∷ l) (x ∷ cond c l (include key e l)) ≡ x ∷ l
      go ih true t c u = absurd (lower (ltb-true (key e) (key x) t))
      go ih false t true u = refl
      go ih false t false u = ap (λ m. x ∷ m) (ih (later u))

  -- a new element makes one more
  -- put in where there is room for what does not stand already, the list keeps its limit
  pub include_within : (limit : ℕ) (e : A) (l : List A) → Ascending key l → length l ≤ limit → not (has key (key e) l) && leb limit (length l) ≡ false →
      length (include key e l) ≤ limit
  include_within limit e l a n room = go (has key (key e) l) refl room
    where
      go : (b : Bool) → has key (key e) l ≡ b → not b && leb limit (length l) ≡ false → length (include key e l) ≤ limit
      go true k q = rw (include-known e l a k) n
      go false k q = omega (arith, length-include e l, leb-false limit (length l) q)

  pub length-include_new : (e : A) (l : List A) → has key (key e) l ≡ false → length (include key e l) ≡ suc (length l)
  length-include_new e [] h = refl
  length-include_new e (x ∷ l) h = go (eqb (key x) (key e)) refl h (length-include_new e l) (ltb (key e) (key x))
    where
      go : (c : Bool) → eqb (key x) (key e) ≡ c → c || has key (key e) l ≡ false → (has key (key e) l ≡ false → length (include key e l) ≡ suc (length l)) → (b : Bool) → length (cond b (e ∷ x ∷ l) (x ∷ cond (eqb (key e) (key x)) l (include key e l))) ≡ suc (suc (length l))
      go true u q ih b = absurd (false≢true (sym q))
      go false u q ih true = refl
      go false u q ih false = rw (ne_eqb (key e) (key x) (λ w. eqb-false (key x) (key e) u (sym w))) (ap suc (ih q))

  -- a test that says the same of elements with one key finds the new element or what was found before
  pub any-include : (p : A → Bool) (e : A) (l : List A) → Every (λ x. key x ≡ key e → p x ≡ p e) l → any p (include key e l) ≡ p e || any p l
  any-include p e [] v = refl
  any-include p e (x ∷ l) v = go (any-include p e l v.1) (ltb (key e) (key x)) (eqb (key e) (key x)) refl
    where
      swap : (a b c : Bool) → a || (b || c) ≡ b || (a || c)
      swap true true c = refl
      swap true false c = refl
      swap false true c = refl
      swap false false c = refl

      twice : (a c : Bool) → a || (a || c) ≡ a || c
      twice true c = refl
      twice false c = refl

      go : any p (include key e l) ≡ p e || any p l → (b c : Bool) → eqb (key e) (key x) ≡ c → any p (cond b (e ∷ x ∷ l) (x ∷ cond c l (include key e l))) ≡ p e || (p x || any p l)
      go ih true c u = refl
      go ih false true u = rw (v.0 (sym (eqb-true (key e) (key x) u))) (sym (twice (p e) (any p l)))
      go ih false false u = rw ih (swap (p x) (p e) (any p l))

  -- the tests of order say what the types say
  pub above_test : (k : ℕ) (l : List A) → above_all key k l ≡ true → Above key k l
  above_test k [] h = tt
  above_test k (x ∷ l) h =
      (ltb-true k (key x) (and_left (ltb k (key x)) (above_all key k l) h), above_test k l (and_right (ltb k (key x)) (above_all key k l) h))

  pub ascending_test : (l : List A) → ascending key l ≡ true → Ascending key l
  ascending_test [] h = tt
  ascending_test (x ∷ l) h =
      (above_test (key x) l (and_left (above_all key (key x) l) (ascending key l) h), ascending_test l (and_right (above_all key (key x) l) (ascending key l) h))

  -- and the other way
  test_above : (k : ℕ) (l : List A) → Above key k l → above_all key k l ≡ true
  test_above k [] a = refl
  test_above k (x ∷ l) a = and_both (ltb k (key x)) (above_all key k l) (lt-ltb k (key x) a.0) (test_above k l a.1)

  pub test_ascending : (l : List A) → Ascending key l → ascending key l ≡ true
  test_ascending [] a = refl
  test_ascending (x ∷ l) a = and_both (above_all key (key x) l) (ascending key l) (test_above (key x) l a.0) (test_ascending l a.1)

-- a function that keeps the keys keeps the order
module _ {A B : Type 0} (key : A → ℕ) (key_b : B → ℕ) (f : A → B) (c : (x : A) → key_b (f x) ≡ key x) where
  pub above_map : (k : ℕ) (l : List A) → Above key k l → Above key_b k (map f l)
  above_map k [] a = tt
  above_map k (x ∷ l) a = (rw (c x) a.0, above_map k l a.1)

  pub ascending-map : (l : List A) → Ascending key l → Ascending key_b (map f l)
  ascending-map [] a = tt
  ascending-map (x ∷ l) a = (rw (c x) (above_map (key x) l a.0), ascending-map l a.1)

-- where an element comes to stand, and that the order of putting in does not matter
module _ {A : Type 0} (key : A → ℕ) where
  pub include-below : (e : A) (l : List A) → Above key (key e) l → include key e l ≡ e ∷ l
  include-below e [] a = refl
  include-below e (x ∷ l) a = rw (lt-ltb (key e) (key x) a.0)

  pub include_past : (e x : A) (l : List A) → key x < key e → include key e (x ∷ l) ≡ x ∷ include key e l
  include_past e x l h = rw (le-ltb (key e) (key x) (omega arith), ne_eqb (key e) (key x) (omega arith))

  include_met : (e x : A) (l : List A) → key e ≡ key x → include key e (x ∷ l) ≡ x ∷ l
  include_met e x l h = rw (le-ltb (key e) (key x) (omega arith), eq-eqb (key e) (key x) h)

  -- the lower of two put in first or last
  swap_front : (a b : A) (l : List A) → key a < key b → Above key (key a) l →
      include key a (include key b l) ≡ include key b (include key a l)
  swap_front a b l h u =
      rw (include-below a (include key b l) (above_include key b (key a) l h u), include-below a l u) (sym (include_past b a l h))

  swap_below : (a b : A) (l : List A) → key a < key b → Ascending key l →
      include key a (include key b l) ≡ include key b (include key a l)
  swap_below a b [] h s = swap_front a b [] h tt
  swap_below a b (x ∷ l) h s =
      by_order (key a) (key x)
      (λ lt. swap_front a b (x ∷ l) h (lt, above_weak key (key a) (key x) l (omega arith) s.0))
      (λ eq. rw (include_met a x l eq, include_past b x l (omega arith)) (include_met a x (include key b l) eq))
      (λ gt. rw (include_past b x l (omega arith), include_past a x l gt)
      (rw (include_past a x (include key b l) gt, include_past b x (include key a l) (omega arith))
      (ap (λ m. x ∷ m) (swap_below a b l h s.1))))

  pub include_swap : (a b : A) (l : List A) → (key a ≡ key b → a ≡ b) → Ascending key l →
      include key a (include key b l) ≡ include key b (include key a l)
  include_swap a b l c s =
      by_order (key a) (key b)
      (λ lt. swap_below a b l lt s)
      (λ eq. rw (c eq))
      (λ gt. sym (swap_below b a l gt s))

  pub include-include_all : (a : A) (bs l : List A) → Every (λ b. key a ≡ key b → a ≡ b) bs → Ascending key l →
      include key a (include_all key bs l) ≡ include_all key bs (include key a l)
  include-include_all a [] l v s = refl
  include-include_all a (b ∷ bs) l v s =
      include_swap a b (include_all key bs l) v.0 (ascending-include_all key bs l s)
      ∙ ap (include key b) (include-include_all a bs l v.1 s)

  -- a test that says the same of elements with one key keeps the new element or not, beside what it kept before
  keep-front : (p : A → Bool) (e : A) (l : List A) → Above key (key e) l →
      keep p (include key e l) ≡ cond (p e) (include key e (keep p l)) (keep p l)
  keep-front p e l u = rw (include-below e l u, include-below e (keep p l) (above_keep key p (key e) l u)) (go (p e))
    where
      go : (b : Bool) → cons_if b e (keep p l) ≡ cond b (e ∷ keep p l) (keep p l)
      go true = refl
      go false = refl

  pub keep-include : (p : A → Bool) (e : A) (l : List A) → Every (λ x. key x ≡ key e → p x ≡ p e) l → Ascending key l →
      keep p (include key e l) ≡ cond (p e) (include key e (keep p l)) (keep p l)
  keep-include p e [] v s = keep-front p e [] tt
  keep-include p e (x ∷ l) v s =
      by_order (key e) (key x)
      (λ lt. keep-front p e (x ∷ l) (lt, above_weak key (key e) (key x) l (omega arith) s.0))
      (λ eq. rw (include_met e x l eq, v.0 (sym eq)) (met eq (p e)))
      (λ gt. rw (include_past e x l gt) (ap (cons_if (p x) x) (keep-include p e l v.1 s.1) ∙ past gt (p e) (p x)))
    where
      met : key e ≡ key x → (b : Bool) → cons_if b x (keep p l) ≡ cond b (include key e (cons_if b x (keep p l))) (cons_if b x (keep p l))
      met eq true = sym (include_met e x (keep p l) eq)
      met eq false = refl

      past : key x < key e → (b c : Bool) →
          cons_if c x (cond b (include key e (keep p l)) (keep p l)) ≡ cond b (include key e (cons_if c x (keep p l))) (cons_if c x (keep p l))
      past gt true true = sym (include_past e x (keep p l) gt)
      past gt true false = refl
      past gt false c = refl

  -- Where a key tells the elements apart.
  module _ (P : A → Type 0) (apart : (x y : A) → P x → P y → key x ≡ key y → x ≡ y) where
    agree : (p : A → Bool) (e : A) (l : List A) → P e → Every P l → Every (λ x. key x ≡ key e → p x ≡ p e) l
    agree p e l q v = every_more P (λ x. key x ≡ key e → p x ≡ p e) (λ x u eq. ap p (apart x e u q eq)) l v

    pub any-include_all : (p : A → Bool) (es l : List A) → Every P es → Every P l → any p (include_all key es l) ≡ any p es || any p l
    any-include_all p [] l w v = refl
    any-include_all p (e ∷ es) l w v =
        any-include key p e (include_all key es l) (agree p e (include_all key es l) w.0 (every_include_all key P es l w.1 v))
        ∙ ap (λ b. p e || b) (any-include_all p es l w.1 v)
        ∙ sym (or_assoc (p e) (any p es) (any p l))

    pub keep-include_all : (p : A → Bool) (es l : List A) → Every P es → Every P l → Ascending key l →
        keep p (include_all key es l) ≡ include_all key (keep p es) (keep p l)
    keep-include_all p [] l w v s = refl
    keep-include_all p (e ∷ es) l w v s =
        keep-include p e (include_all key es l)
        (agree p e (include_all key es l) w.0 (every_include_all key P es l w.1 v)) (ascending-include_all key es l s)
        ∙ rw (keep-include_all p es l w.1 v s) (go (p e))
      where
        go : (b : Bool) →
            cond b (include key e (include_all key (keep p es) (keep p l))) (include_all key (keep p es) (keep p l)) ≡ include_all key (cons_if b e (keep p es)) (keep p l)
        go true = refl
        go false = refl

    pub include_all_swap : (es fs l : List A) → Every P es → Every P fs → Ascending key l →
        include_all key es (include_all key fs l) ≡ include_all key fs (include_all key es l)
    include_all_swap [] fs l v w s = refl
    include_all_swap (e ∷ es) fs l v w s =
        ap (include key e) (include_all_swap es fs l v.1 w s)
        ∙ include-include_all e fs (include_all key es l)
        (every_more P (λ x. key e ≡ key x → e ≡ x) (λ x u. apart e x v.0 u) fs w) (ascending-include_all key es l s)

-- A list read from parts one after the other, each asked whether it is sound and whether it comes behind those before it: what the parts still
-- to come tell of all of them.
-- Assumes nothing.
use Prim.Native.Nat.{ℕ, suc, ◌+◌, ◌<◌}
use mathlib.Core.Path.{◌≡◌, refl, sym, ap, ◌∙◌}
use mathlib.Core.Bool.{Bool, true, false, cond, ◌&&◌, true≢false}
use mathlib.Core.List.{List, [], ◌∷◌, ◌++◌, map}
use native.Mathlib.Omega.{arith}
use lib.Dec.{eqb, ltb}
use lib.ListN.{length, drop, length-append, length-map}
use borrow.Author.Tests.{ltb-true, eqb-true, eqb-false, ne_eqb}
use Rattle.lists.specs.Lists.{all, Above, Ascending, has, include, above_all, ascending}
use Rattle.lists.specs.Arrays.{rank}
use Rattle.lists.proofs.Tests.{and_left, and_right, and_both, and_false}
use Rattle.lists.proofs.Order.{include_past, test_ascending}
use Rattle.lists.proofs.Held.{put_behind, all_put}

-- as many are counted from the front as there are, just where each passes
all_ranked : {A : Type 0} (p : A → Bool) (l : List A) → rank p l ≡ length l → all p l ≡ true
unfolding rank
all_ranked p [] e = refl
all_ranked p (x ∷ l) e = go (p x) e (all_ranked p l)
  where
    go : (b : Bool) → cond b (suc (rank p l)) 0 ≡ suc (length l) → (rank p l ≡ length l → all p l ≡ true) → b && all p l ≡ true
    go true q f = f (omega (arith, q))
    go false q f = absurd (omega (arith, q))

not_ranked : {A : Type 0} (p : A → Bool) (l : List A) → (rank p l ≡ length l → ⊥) → all p l ≡ false
unfolding rank
not_ranked p [] e = absurd (e refl)
not_ranked p (x ∷ l) e = go (p x) e (not_ranked p l)
  where
    go : (b : Bool) → (cond b (suc (rank p l)) 0 ≡ suc (length l) → ⊥) → ((rank p l ≡ length l → ⊥) → all p l ≡ false) → b && all p l ≡ false
    go true q f = f (λ r. q (ap suc r))
    go false q f = refl

-- so a rank that is the length tells whether each passes
pub ranked_last : {A : Type 0} (p : A → Bool) (l : List A) (m n : ℕ) → m ≡ rank p l → n ≡ length l → eqb m n ≡ all p l
ranked_last p l m n e h = go (eqb m n) refl
  where
    go : (b : Bool) → eqb m n ≡ b → eqb m n ≡ all p l
    go true q = q ∙ sym (all_ranked p l (sym e ∙ eqb-true m n q ∙ h))
    go false q = q ∙ sym (not_ranked p l (λ r. eqb-false m n q (e ∙ r ∙ sym h)))

module _ {A : Type 0} (key : A → ℕ) where
  -- each comes before x
  abbrev pub before : A → List A → Bool
  before x l = all (λ y. ltb (key y) (key x)) l

  above_behind : (k : ℕ) (x : A) (l : List A) → Above key k l → k < key x → Above key k (l ++ x ∷ [])
  above_behind k x [] a h = (h, tt)
  above_behind k x (y ∷ l) a h = (a.0, above_behind k x l a.1 h)

  pub rises_with : (x : A) (l : List A) → Ascending key l → before x l ≡ true → Ascending key (l ++ x ∷ [])
  rises_with x [] a h = (tt, tt)
  rises_with x (y ∷ l) a h = (
    above_behind (key y) x l a.0 (ltb-true (key y) (key x) (and_left (ltb (key y) (key x)) (before x l) h)),
    rises_with x l a.1 (and_right (ltb (key y) (key x)) (before x l) h),
  )

  -- what rises with more behind x has all before x
  above_all-past : (k : ℕ) (x : A) (l m : List A) → above_all key k (l ++ x ∷ m) ≡ true → ltb k (key x) ≡ true
  above_all-past k x [] m h = and_left (ltb k (key x)) (above_all key k m) h
  above_all-past k x (y ∷ l) m h = above_all-past k x l m (and_right (ltb k (key y)) (above_all key k (l ++ x ∷ m)) h)

  rises_before : (x : A) (l m : List A) → ascending key (l ++ x ∷ m) ≡ true → before x l ≡ true
  rises_before x [] m h = refl
  rises_before x (y ∷ l) m h =
      and_both (ltb (key y) (key x)) (before x l)
      (above_all-past (key y) x l m (and_left (above_all key (key y) (l ++ x ∷ m)) (ascending key (l ++ x ∷ m)) h))
      (rises_before x l m (and_right (above_all key (key y) (l ++ x ∷ m)) (ascending key (l ++ x ∷ m)) h))

  -- put in behind all of them
  pub include-behind : (x : A) (l : List A) → before x l ≡ true → include key x l ≡ l ++ x ∷ []
  include-behind x [] h = refl
  include-behind x (y ∷ l) h =
      include_past key x y l (ltb-true (key y) (key x) (and_left (ltb (key y) (key x)) (before x l) h))
      ∙ ap (λ m. y ∷ m) (include-behind x l (and_right (ltb (key y) (key x)) (before x l) h))

  pub lacks_behind : (x : A) (l : List A) → before x l ≡ true → has key (key x) l ≡ false
  lacks_behind x [] h = refl
  lacks_behind x (y ∷ l) h =
      let lower : key y < key x = ltb-true (key y) (key x) (and_left (ltb (key y) (key x)) (before x l) h) in
      rw (ne_eqb (key y) (key x) (λ q. omega (arith, lower, q))) (lacks_behind x l (and_right (ltb (key y) (key x)) (before x l) h))

  module _ (sound : List ℕ → Bool) (read : List ℕ → A) (parts : List (List ℕ)) where
    abbrev pub answer : Bool
    answer = all sound parts && ascending key (map read parts)

    -- xs were read, and the i-th is the next
    pub record Coming (xs : List A) (i : ℕ) : Type 0 where
      pub rows : xs ++ map read (drop i parts) ≡ map read parts
      pub tests : all sound (drop i parts) ≡ all sound parts

    pub all_to_come : Coming [] 0
    all_to_come = record { rows = refl; tests = refl }

    module _ {xs : List A} {i : ℕ} (c : Coming xs i) where
      pub all_come : drop i parts ≡ [] → Ascending key xs → (true ≡ answer) × (xs ≡ map read parts)
      all_come e a =
          let whole : xs ≡ map read parts = all_put (map read parts) xs (map read (drop i parts)) (ap (map read) e) c.rows in
          let tested : all sound parts ≡ true = sym c.tests ∙ ap (all sound) e in
          (sym (and_both (all sound parts) (ascending key (map read parts)) tested (rw whole at (test_ascending key xs a))), whole)

      module _ (x : List ℕ) (e : drop i parts ≡ x ∷ drop (i + 1) parts) where
        -- there are fewer than there will be
        pub room_left : length xs < length parts
        room_left =
            omega (arith, ap length c.rows, length-append xs (map read (drop i parts)), length-map (drop i parts) read, length-map parts read, ap length e)

        pub unsound : sound x ≡ false → false ≡ answer
        unsound h =
            let none : all sound parts ≡ false = sym c.tests ∙ ap (all sound) e ∙ ap (λ b. b && all sound (drop (i + 1) parts)) h in
            rw none

        pub unordered : before (read x) xs ≡ false → false ≡ answer
        unordered h =
            let all_rows : xs ++ (read x ∷ map read (drop (i + 1) parts)) ≡ map read parts = ap (λ l. xs ++ map read l) (sym e) ∙ c.rows in
            let none : ascending key (map read parts) ≡ false = go (ascending key (map read parts)) refl all_rows in
            sym (ap (λ b. all sound parts && b) none ∙ and_false (all sound parts))
          where
            go : (b : Bool) → ascending key (map read parts) ≡ b → xs ++ (read x ∷ map read (drop (i + 1) parts)) ≡ map read parts → ascending key (map read parts) ≡ false
            go true q r = absurd (true≢false (sym (rises_before (read x) xs (map read (drop (i + 1) parts)) (ap (ascending key) r ∙ q)) ∙ h))
            go false q r = q

        pub one_came : sound x ≡ true → (ys : List A) → ys ≡ xs ++ read x ∷ [] → Coming ys (i + 1)
        one_came h ys q =
            record {
              rows = put_behind (map read parts) xs (read x) ys (map read (drop i parts)) (map read (drop (i + 1) parts)) (ap (map read) e) q c.rows;
              tests = sym (ap (λ b. b && all sound (drop (i + 1) parts)) h) ∙ sym (ap (all sound) e) ∙ c.tests;
            }

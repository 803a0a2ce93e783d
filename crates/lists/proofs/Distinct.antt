-- Lists in which no number stands twice: what putting in, taking out and swapping keep; and what mapping does to lists changed at a place.
-- Assumes nothing.
use Prim.Native.Nat.{ℕ, zero, suc, ◌+◌, ◌≤◌, ◌<◌}
use mathlib.Core.Path.{◌≡◌, refl, sym, ap, ◌∙◌}
use mathlib.Core.Bool.{Bool, true, false, ◌||◌, true≢false}
use mathlib.Core.List.{List, [], ◌∷◌, ◌++◌, map, append-nil}
use native.Mathlib.Numerals.{add-one}
use native.Mathlib.Omega.{arith}
use borrow.Author.Tests.{eqb-false, ne_eqb}
use lib.Dec.{eqb}
use lib.ListN.{length, take, drop, get_or, set, take-append-drop, length-set}
use lib.Seq.{split_at, get_or-set_same, get_or-set_other, take-suc-set, take-set-le, take-set-lt, drop-set-lt, append_snoc}
use Rattle.std.specs.List.{swap}
use Rattle.std.proofs.lemmas.List.{get_or_default}
use Rattle.lists.specs.Lists.{cons_if, keep, keep_by, any, Every, has, self}
use Rattle.lists.specs.Arrays.{insert_at, remove_at, Distinct}
use Rattle.lists.proofs.Keep.{any_append, every_append}
use Rattle.lists.proofs.Parts.{every_take, every_drop}
use Rattle.lists.proofs.Loops.{fill_hole, rest-cons, rest_end}

-- neither of two tests passed

pub or_neither : (a b : Bool) → a ≡ false → b ≡ false → a || b ≡ false
or_neither a b h k = rw (h, k)

pub or_not_left : (a b : Bool) → a || b ≡ false → a ≡ false
or_not_left true b h = h
or_not_left false b h = refl

pub or_not_right : (a b : Bool) → a || b ≡ false → b ≡ false
or_not_right true b h = absurd (true≢false h)
or_not_right false b h = h

-- what no element passes, and what holds of each, after a change at a place
module _ {A : Type 0} where
  pub none-append : (p : A → Bool) (a b : List A) → any p a ≡ false → any p b ≡ false → any p (a ++ b) ≡ false
  none-append p a b h k = rw (any_append p a b, h, k)

  pub none-front : (p : A → Bool) (a b : List A) → any p (a ++ b) ≡ false → any p a ≡ false
  none-front p a b h = or_not_left (any p a) (any p b) (rw (any_append p a b) at h)

  pub none-behind : (p : A → Bool) (a b : List A) → any p (a ++ b) ≡ false → any p b ≡ false
  none-behind p a b h = or_not_right (any p a) (any p b) (rw (any_append p a b) at h)

  pub none-set : (p : A → Bool) (l : List A) (i : ℕ) (x : A) → any p l ≡ false → p x ≡ false → any p (set l i x) ≡ false
  none-set p [] i x h k = refl
  none-set p (y ∷ l) zero x h k = or_neither (p x) (any p l) k (or_not_right (p y) (any p l) h)
  none-set p (y ∷ l) (suc i) x h k =
      or_neither (p y) (any p (set l i x)) (or_not_left (p y) (any p l) h) (none-set p l i x (or_not_right (p y) (any p l) h) k)

  pub none_get_d : (p : A → Bool) (d : A) (i : ℕ) (l : List A) → any p l ≡ false → i < length l → p (get_or l i d) ≡ false
  none_get_d p d i [] h lt = absurd (omega arith)
  none_get_d p d zero (y ∷ l) h lt = or_not_left (p y) (any p l) h
  none_get_d p d (suc i) (y ∷ l) h lt = none_get_d p d i l (or_not_right (p y) (any p l) h) (omega arith)

  pub every_set : (P : A → Type 0) (l : List A) (i : ℕ) (x : A) → P x → Every P l → Every P (set l i x)
  every_set P [] i x q v = tt
  every_set P (y ∷ l) zero x q v = (q, v.1)
  every_set P (y ∷ l) (suc i) x q v = (v.0, every_set P l i x q v.1)

  pub every_at : (P : A → Type 0) (d : A) (i : ℕ) (l : List A) → i < length l → Every P l → P (get_or l i d)
  every_at P d i [] h v = absurd (omega arith)
  every_at P d zero (y ∷ l) h v = v.0
  every_at P d (suc i) (y ∷ l) h v = every_at P d i l (omega arith) v.1

-- one number between two lists of which neither has it

pub distinct-between : (e : ℕ) (a b : List ℕ) → has self e (a ++ b) ≡ false → Distinct (a ++ b) → Distinct (a ++ e ∷ b)
distinct-between e [] b h u = (h, u)
distinct-between e (x ∷ a) b h u = (
  none-append (λ y. eqb y x) a (e ∷ b) (none-front (λ y. eqb y x) a b u.0)
      (or_neither (eqb e x) (has self x b)
      (ne_eqb e x (λ q. eqb-false x e (or_not_left (eqb x e) (has self e (a ++ b)) h) (sym q)))
      (none-behind (λ y. eqb y x) a b u.0)),
  distinct-between e a b (or_not_right (eqb x e) (has self e (a ++ b)) h) u.1,
)

pub between_lacks : (e : ℕ) (a b : List ℕ) → Distinct (a ++ e ∷ b) → has self e (a ++ b) ≡ false
between_lacks e [] b u = u.0
between_lacks e (x ∷ a) b u =
    or_neither (eqb x e) (has self e (a ++ b))
    (ne_eqb x e (λ q. eqb-false e x (or_not_left (eqb e x) (has self x b) (none-behind (λ y. eqb y x) a (e ∷ b) u.0)) (sym q)))
    (between_lacks e a b u.1)

pub distinct_without : (e : ℕ) (a b : List ℕ) → Distinct (a ++ e ∷ b) → Distinct (a ++ b)
distinct_without e [] b u = u.1
distinct_without e (x ∷ a) b u = (
  none-append (λ y. eqb y x) a b (none-front (λ y. eqb y x) a (e ∷ b) u.0)
      (or_not_right (eqb e x) (has self x b) (none-behind (λ y. eqb y x) a (e ∷ b) u.0)),
  distinct_without e a b u.1,
)

pub distinct-front : (a b : List ℕ) → Distinct (a ++ b) → Distinct a
distinct-front [] b u = tt
distinct-front (x ∷ a) b u = (none-front (λ y. eqb y x) a b u.0, distinct-front a b u.1)

pub distinct-take : (n : ℕ) (l : List ℕ) → Distinct l → Distinct (take n l)
distinct-take n l u = distinct-front (take n l) (drop n l) (rw (take-append-drop n l) u)

-- at a place

pub distinct-insert_at : (k e : ℕ) (l : List ℕ) → has self e l ≡ false → Distinct l → Distinct (insert_at k e l)
distinct-insert_at k e l h u =
    distinct-between e (take k l) (drop k l) (rw (take-append-drop k l) h) (rw (take-append-drop k l) u)

pub distinct-remove_at : (k : ℕ) (l : List ℕ) → k < length l → Distinct l → Distinct (remove_at k l)
distinct-remove_at k l h u = distinct_without (get_or l k 0) (take k l) (drop (suc k) l) (rw (split_at l k 0 h) at u)

pub remove_at_lacks : (k : ℕ) (l : List ℕ) → k < length l → Distinct l → has self (get_or l k 0) (remove_at k l) ≡ false
remove_at_lacks k l h u = between_lacks (get_or l k 0) (take k l) (drop (suc k) l) (rw (split_at l k 0 h) at u)

-- what stands from a place on is not in front of it
pub take_lacks : (n : ℕ) (l : List ℕ) → n < length l → Distinct l → has self (get_or l n 0) (take n l) ≡ false
take_lacks n l h u = none-front (λ y. eqb y (get_or l n 0)) (take n l) (drop (suc n) l) (remove_at_lacks n l h u)

-- what is taken out at one place of a₀ fills the hole at another: nothing is lost and nothing stands twice
pub distinct_moved : (a₀ a : List ℕ) (i j : ℕ) → i < length a → j < length a₀ → remove_at i a ≡ remove_at j a₀ → Distinct a₀ → Distinct (set a i (get_or a₀ j 0))
distinct_moved a₀ a i j h k q u =
    rw (fill_hole a i (get_or a₀ j 0) h, q)
    (distinct-insert_at i (get_or a₀ j 0) (remove_at j a₀) (remove_at_lacks j a₀ k u) (distinct-remove_at j a₀ k u))

pub every_insert_at : {A : Type 0} (P : A → Type 0) (k : ℕ) (e : A) (l : List A) → P e → Every P l → Every P (insert_at k e l)
every_insert_at P k e l q v = every_append P (take k l) (e ∷ drop k l) (every_take P k l v) (q, every_drop P k l v)

pub every_remove_at : {A : Type 0} (P : A → Type 0) (k : ℕ) (l : List A) → Every P l → Every P (remove_at k l)
every_remove_at P k l v = every_append P (take k l) (drop (suc k) l) (every_take P k l v) (every_drop P (suc k) l v)

pub every_moved : {A : Type 0} (P : A → Type 0) (d : A) (a₀ a : List A) (i j : ℕ) → i < length a → j < length a₀ → remove_at i a ≡ remove_at j a₀ → Every P a₀ → Every P (set a i (get_or a₀ j d))
every_moved P d a₀ a i j h k q v =
    rw (fill_hole a i (get_or a₀ j d) h, q)
    (every_insert_at P i (get_or a₀ j d) (remove_at j a₀) (every_at P d j a₀ k v) (every_remove_at P j a₀ v))

-- two places swapped

abbrev pub swapped : {A : Type 0} → A → ℕ → ℕ → List A → List A
swapped d w i a = set (set a i (get_or a w d)) w (get_or a i d)

-- the library's swap
pub swap_is : {A : Type 0} (d : A) (w i : ℕ) (a : List A) → w < length a → i < length a → swap a i w ≡ swapped d w i a
swap_is d w i [] h k = refl
swap_is d w i (x ∷ a) h k =
    ap (λ y. set (set (x ∷ a) i y) w (get_or (x ∷ a) i x)) (get_or_default (x ∷ a) w x d h) ∙ ap (λ y. set (set (x ∷ a) i (get_or (x ∷ a) w d)) w y) (get_or_default (x ∷ a) i x d k)

pub none_swapped : {A : Type 0} (p : A → Bool) (d : A) (w i : ℕ) (a : List A) → w < length a → i < length a → any p a ≡ false → any p (swapped d w i a) ≡ false
none_swapped p d w i a h k q =
    none-set p (set a i (get_or a w d)) w (get_or a i d) (none-set p a i (get_or a w d) q (none_get_d p d w a q h)) (none_get_d p d i a q k)

pub every_swapped : {A : Type 0} (P : A → Type 0) (d : A) (w i : ℕ) (a : List A) → w < length a → i < length a → Every P a → Every P (swapped d w i a)
every_swapped P d w i a h k v =
    every_set P (set a i (get_or a w d)) w (get_or a i d) (every_at P d i a k v) (every_set P a i (get_or a w d) (every_at P d w a h v) v)

pub distinct-set : (i x : ℕ) (l : List ℕ) → has self x l ≡ false → Distinct l → Distinct (set l i x)
distinct-set i x [] h u = tt
distinct-set zero x (y ∷ l) h u = (or_not_right (eqb y x) (has self x l) h, u.1)
distinct-set (suc i) x (y ∷ l) h u = (
  none-set (λ z. eqb z y) l i x u.0 (ne_eqb x y (λ q. eqb-false y x (or_not_left (eqb y x) (has self x l) h) (sym q))),
  distinct-set i x l (or_not_right (eqb y x) (has self x l) h) u.1,
)

-- what is overwritten is gone
pub set_lacks : (i x : ℕ) (l : List ℕ) → i < length l → has self x l ≡ false → Distinct l → has self (get_or l i 0) (set l i x) ≡ false
set_lacks i x [] k h u = absurd (omega arith)
set_lacks zero x (y ∷ l) k h u =
    or_neither (eqb x y) (has self y l) (ne_eqb x y (λ q. eqb-false y x (or_not_left (eqb y x) (has self x l) h) (sym q))) u.0
set_lacks (suc i) x (y ∷ l) k h u =
    or_neither (eqb y (get_or l i 0)) (has self (get_or l i 0) (set l i x))
    (ne_eqb y (get_or l i 0) (λ q. eqb-false (get_or l i 0) y (none_get_d (λ z. eqb z y) 0 i l u.0 (omega arith)) (sym q)))
    (set_lacks i x l (omega arith) (or_not_right (eqb y x) (has self x l) h) u.1)

pub distinct_swapped : (w i : ℕ) (a : List ℕ) → w ≤ i → i < length a → Distinct a → Distinct (swapped 0 w i a)
distinct_swapped w i [] h k u = absurd (omega arith)
distinct_swapped zero zero (x ∷ a) h k u = u
distinct_swapped zero (suc i) (x ∷ a) h k u = (set_lacks i x a (omega arith) u.0 u.1, distinct-set i x a u.0 u.1)
distinct_swapped (suc w) zero (x ∷ a) h k u = absurd (omega arith)
distinct_swapped (suc w) (suc i) (x ∷ a) h k u =
    (none_swapped (λ y. eqb y x) 0 w i a (omega arith) (omega arith) u.0, distinct_swapped w i a (omega arith) (omega arith) u.1)

-- what f makes of a list changed at a place, or kept by flags
module _ {A B : Type 0} (f : A → B) where
  pub map-insert_at : (k : ℕ) (e : A) (l : List A) → map f (insert_at k e l) ≡ insert_at k (f e) (map f l)
  map-insert_at zero e l = refl
  map-insert_at (suc k) e [] = refl
  map-insert_at (suc k) e (x ∷ l) = ap (λ m. f x ∷ m) (map-insert_at k e l)

  pub map-remove_at : (k : ℕ) (l : List A) → map f (remove_at k l) ≡ remove_at k (map f l)
  map-remove_at zero [] = refl
  map-remove_at zero (x ∷ l) = refl
  map-remove_at (suc k) [] = refl
  map-remove_at (suc k) (x ∷ l) = ap (λ m. f x ∷ m) (map-remove_at k l)

  pub map-keep_by : (fs : List Bool) (l : List A) → map f (keep_by fs l) ≡ keep_by fs (map f l)
  map-keep_by [] l = refl
  map-keep_by (b ∷ fs) [] = refl
  map-keep_by (true ∷ fs) (x ∷ l) = ap (λ m. f x ∷ m) (map-keep_by fs l)
  map-keep_by (false ∷ fs) (x ∷ l) = map-keep_by fs l

-- an array read at distinct slots: a store at one of them changes one, a store elsewhere none
module _ {B : Type 0} (d x : B) (a : List B) where
  pub read_elsewhere : (s₀ : ℕ) (ss : List ℕ) → has self s₀ ss ≡ false → map (λ s. get_or (set a s₀ x) s d) ss ≡ map (λ s. get_or a s d) ss
  read_elsewhere s₀ [] h = refl
  read_elsewhere s₀ (s ∷ ss) h =
      rw (get_or-set_other a s₀ s x d (eqb-false s s₀ (or_not_left (eqb s s₀) (has self s₀ ss) h)))
      (ap (λ m. get_or a s d ∷ m) (read_elsewhere s₀ ss (or_not_right (eqb s s₀) (has self s₀ ss) h)))

  pub read_stored : (k : ℕ) (ss : List ℕ) → Distinct ss → k < length ss → get_or ss k 0 < length a →
      map (λ s. get_or (set a (get_or ss k 0) x) s d) ss ≡ set (map (λ s. get_or a s d) ss) k x
  read_stored k [] u h r = absurd (omega arith)
  read_stored zero (s ∷ ss) u h r = rw (get_or-set_same a s x d r) (ap (λ m. x ∷ m) (read_elsewhere s ss u.0))
  read_stored (suc k) (s ∷ ss) u h r =
      let q : has self s ss ≡ false = u.0 in
      let z : eqb (get_or ss k 0) s ≡ false = none_get_d (λ y. eqb y s) 0 k ss q (omega arith) in
      rw (get_or-set_other a (get_or ss k 0) s x d (λ e. eqb-false (get_or ss k 0) s z (sym e)))
      (ap (λ m. get_or a s d ∷ m) (read_stored k ss u.1 (omega arith) r))

-- keeping by flags
module _ {A : Type 0} where
  -- one more flag keeps the item that it stands for, or does not
  pub keep_by-more : (fs : List Bool) (b : Bool) (l : List A) (d : A) → length fs < length l → keep_by (fs ++ b ∷ []) l ≡ keep_by fs l ++ cons_if b (get_or l (length fs) d) []
  keep_by-more [] b [] d h = absurd (omega arith)
  keep_by-more [] b (x ∷ l) d h = refl
  keep_by-more (c ∷ fs) b [] d h = absurd (omega arith)
  keep_by-more (true ∷ fs) b (x ∷ l) d h = ap (λ m. x ∷ m) (keep_by-more fs b l d (omega arith))
  keep_by-more (false ∷ fs) b (x ∷ l) d h = keep_by-more fs b l d (omega arith)

  pub keep_by_test : (p : A → Bool) (l : List A) → keep_by (map p l) l ≡ keep p l
  keep_by_test p [] = refl
  keep_by_test p (x ∷ l) = ap (cons_if (p x) x) (keep_by_test p l)

  -- w elements are kept in the front, and those from i up to n are still to be looked at
  abbrev pub keeping_by : List Bool → ℕ → ℕ → ℕ → List A → List A
  keeping_by fs w i n a = take w a ++ keep_by (drop i (take n fs)) (drop i (take n a))

  -- one turn: b is a with what stood at i put behind those kept, and as before from i + 1 on
  pub flag_up : (fs : List Bool) (d : A) (a b : List A) (w i n : ℕ) → i < n → n ≤ length a → n ≤ length fs → get_or fs i false ≡ true →
      take (w + 1) b ≡ take w a ++ get_or a i d ∷ [] → drop (i + 1) (take n b) ≡ drop (i + 1) (take n a) →
      keeping_by fs (w + 1) (i + 1) n b ≡ keeping_by fs w i n a
  flag_up fs d a b w i n h₁ h₂ h₃ t q r =
      rw (q, r, rest-cons false fs i n h₁ h₃, rest-cons d a i n h₁ h₂, t, append_snoc (take w a) (get_or a i d))

  pub flag_down : (fs : List Bool) (d : A) (a : List A) (w i n : ℕ) → i < n → n ≤ length a → n ≤ length fs → get_or fs i false ≡ false →
      keeping_by fs w (i + 1) n a ≡ keeping_by fs w i n a
  flag_down fs d a w i n h₁ h₂ h₃ t = rw (rest-cons false fs i n h₁ h₃, rest-cons d a i n h₁ h₂, t)

  -- the same where no element is at hand
  pub flag_low : (fs : List Bool) (a : List A) (w i n : ℕ) → i < n → n ≤ length a → n ≤ length fs → get_or fs i false ≡ false →
      keeping_by fs w (i + 1) n a ≡ keeping_by fs w i n a
  flag_low fs [] w i n h₁ h₂ h₃ t = absurd (omega arith)
  flag_low fs (x ∷ a) w i n h₁ h₂ h₃ t = flag_down fs x (x ∷ a) w i n h₁ h₂ h₃ t

  pub flags_end : (fs : List Bool) (a : List A) (w i n : ℕ) → n ≤ i → n ≤ length fs → keeping_by fs w i n a ≡ take w a
  flags_end fs a w i n h₁ h₃ = rw (rest_end fs i n h₁ h₃) (simp append-nil)

  -- the turn's two ways to put it there: by a store, and by a swap
  pub stored_up : (fs : List Bool) (d : A) (a : List A) (w i n : ℕ) → w ≤ i → i < n → n ≤ length a → n ≤ length fs → get_or fs i false ≡ true →
      keeping_by fs (w + 1) (i + 1) n (set a w (get_or a i d)) ≡ keeping_by fs w i n a
  stored_up fs d a w i n h h₁ h₂ h₃ t =
      flag_up fs d a (set a w (get_or a i d)) w i n h₁ h₂ h₃ t
      (rw (add-one w) (take-suc-set a w (get_or a i d) (omega arith)))
      (rw (take-set-lt n a w (get_or a i d) (omega arith)) (drop-set-lt (i + 1) (take n a) w (get_or a i d) (omega arith)))

  pub swapped_up : (fs : List Bool) (d : A) (a : List A) (w i n : ℕ) → w ≤ i → i < n → n ≤ length a → n ≤ length fs → get_or fs i false ≡ true →
      keeping_by fs (w + 1) (i + 1) n (swapped d w i a) ≡ keeping_by fs w i n a
  swapped_up fs d a w i n h h₁ h₂ h₃ t =
      let m = set a i (get_or a w d) in
      flag_up fs d a (swapped d w i a) w i n h₁ h₂ h₃ t
      (rw (add-one w, take-suc-set m w (get_or a i d) (omega (arith, length-set a i (get_or a w d))), take-set-le w a i (get_or a w d) h))
      (rw (take-set-lt n m w (get_or a i d) (omega arith), drop-set-lt (i + 1) (take n m) w (get_or a i d) (omega arith), take-set-lt n a i (get_or a w d) h₁)
      (drop-set-lt (i + 1) (take n a) i (get_or a w d) (omega arith)))

-- Numbers put into a set from the front: a set does not depend on the order in which they are put in, so that what is gathered for each of
-- some numbers can be gathered in one pass. And lists kept twice, said one by one, added up from the front.
-- Assumes nothing.
use Prim.Native.Nat.{ℕ, zero, suc, ◌+◌, ◌<◌}
use mathlib.Core.Path.{◌≡◌, refl, sym, ap, ◌∙◌}
use mathlib.Core.Bool.{Bool, true, false, ◌&&◌, ◌||◌}
use mathlib.Core.List.{List, [], ◌∷◌, ◌++◌, map}
use native.Mathlib.Numerals.{add-one}
use native.Mathlib.Omega.{arith}
use borrow.Author.Tests.{eq-eqb, le-ltb}
use lib.ListN.{length, take, get_or}
use Rattle.lists.specs.Lists.{cons_if, keep, any, include, include_all, Above, Ascending, self, set_of, concat_map, total}
use Rattle.lists.proofs.Keep.{keep_never, every_always}
use Rattle.lists.proofs.Order.{include-below, include_past, include_all_swap, above_keep, above_map, ascending-keep, ascending-map}

include_all-append : {A : Type 0} (key : A → ℕ) (a b l : List A) → include_all key (a ++ b) l ≡ include_all key a (include_all key b l)
include_all-append key [] b l = refl
include_all-append key (x ∷ a) b l = ap (include key x) (include_all-append key a b l)

abbrev Any : ℕ → Type 0
Any n = Unit {0}

-- the first of the numbers may be put in first
pub first_put : (a b l : List ℕ) → Ascending self l → include_all self (a ++ b) l ≡ include_all self b (include_all self a l)
first_put a b l s =
    include_all-append self a b l
    ∙ include_all_swap self Any (λ x y u v e. e) a b l (every_always Any (λ x. tt) a) (every_always Any (λ x. tt) b) s

-- numbers above the first stay behind it
past_first : (k : ℕ) (es l : List ℕ) → Above self k es → include_all self es (k ∷ l) ≡ k ∷ include_all self es l
past_first k [] l a = refl
past_first k (e ∷ es) l a = ap (include self e) (past_first k es l a.1) ∙ include_past self e k (include_all self es l) a.0

first_known : (k : ℕ) (l : List ℕ) → include self k (k ∷ l) ≡ k ∷ l
first_known k l = rw (le-ltb k k (omega arith), eq-eqb k k refl)

module _ {A : Type 0} (key : A → ℕ) where
  -- the keys that one test picks from a rising list, and those that another picks: what either picks
  either_kept : (p q : A → Bool) (l : List A) → Ascending key l →
      include_all self (map key (keep p l)) (map key (keep q l)) ≡ map key (keep (λ x. p x || q x) l)
  either_kept p q [] a = refl
  either_kept p q (x ∷ l) a = go (p x) (q x) (either_kept p q l a.1)
    where
      above : (t : A → Bool) → Above self (key x) (map key (keep t l))
      above t = above_map key self key (λ y. refl) (key x) (keep t l) (above_keep key t (key x) l a.0)

      go : (b c : Bool) → include_all self (map key (keep p l)) (map key (keep q l)) ≡ map key (keep (λ y. p y || q y) l) →
          include_all self (map key (cons_if b x (keep p l))) (map key (cons_if c x (keep q l))) ≡ map key (cons_if (b || c) x (keep (λ y. p y || q y) l))
      go true true ih =
          ap (include self (key x)) (past_first (key x) (map key (keep p l)) (map key (keep q l)) (above p) ∙ ap (λ m. key x ∷ m) ih)
          ∙ first_known (key x) (map key (keep (λ y. p y || q y) l))
      go true false ih =
          ap (include self (key x)) ih ∙ include-below self (key x) (map key (keep (λ y. p y || q y) l)) (above (λ y. p y || q y))
      go false true ih = past_first (key x) (map key (keep p l)) (map key (keep q l)) (above p) ∙ ap (λ m. key x ∷ m) ih
      go false false ih = ih

  -- for each of some numbers, one of its own and the keys that its test picks from a rising list: the same in one pass over that list,
  -- which picks what any of the tests picks
  pub gathered_once : (f : ℕ → ℕ) (p : ℕ → A → Bool) (l : List A) → Ascending key l → (rs : List ℕ) →
      set_of (concat_map (λ r. f r ∷ map key (keep (p r) l)) rs) ≡ include_all self (map f rs) (map key (keep (λ x. any (λ r. p r x) rs) l))
  gathered_once f p l a [] = sym (ap (map key) (keep_never (λ x. false) l (every_always (λ x. false ≡ false) (λ x. refl) l)))
  gathered_once f p l a (r ∷ rs) =
      let one = map key (keep (p r) l) in
      let more = map key (keep (λ x. any (λ s. p s x) rs) l) in
      let rises = ascending-map key self key (λ y. refl) (keep (λ x. any (λ s. p s x) rs) l) (ascending-keep key (λ x. any (λ s. p s x) rs) l a) in
      ap (include self (f r))
      (include_all-append self one (concat_map (λ s. f s ∷ map key (keep (p s) l)) rs) []
      ∙ ap (include_all self one) (gathered_once f p l a rs)
      ∙ include_all_swap self Any (λ x y u v e. e) one (map f rs) more (every_always Any (λ x. tt) one) (every_always Any (λ x. tt) (map f rs)) rises
      ∙ ap (include_all self (map f rs)) (either_kept (p r) (λ x. any (λ s. p s x) rs) l a))

-- what two tests keep, one after the other
pub keep_both : {A : Type 0} (p q : A → Bool) (l : List A) → keep q (keep p l) ≡ keep (λ x. p x && q x) l
keep_both p q [] = refl
keep_both {A} p q (x ∷ l) = go (p x) (keep_both p q l)
  where
    go : (b : Bool) → keep q (keep p l) ≡ keep (λ y. p y && q y) l → keep q (cons_if b x (keep p l)) ≡ cons_if (b && q x) x (keep (λ y. p y && q y) l)
    go true ih = ap (cons_if (q x) x) ih
    go false ih = ih

pub concat_map-single : (l : List ℕ) → concat_map (λ (n : ℕ). n ∷ []) l ≡ l
concat_map-single [] = refl
concat_map-single (x ∷ l) = ap (λ m. x ∷ m) (concat_map-single l)

total_suc : (l : List ℕ) (i : ℕ) → i < length l → total self (take (suc i) l) ≡ total self (take i l) + get_or l i 0
total_suc [] i h = absurd (omega arith)
total_suc (x ∷ l) zero h = omega arith
total_suc (x ∷ l) (suc i) h = omega (arith, total_suc l i (omega arith))

-- the sum of one more
pub total-next : (l : List ℕ) (i : ℕ) → i < length l → total self (take (i + 1) l) ≡ total self (take i l) + get_or l i 0
total-next l i h = rw (add-one i) (total_suc l i h)

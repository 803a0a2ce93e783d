-- A search in a list in rising order of a key: what a probe tells of the rank, and what stands at the rank.
-- Assumes nothing.
use Prim.Native.Nat.{ℕ, zero, suc, ◌<◌, ◌≤◌}
use mathlib.Core.Path.{◌≡◌, refl}
use mathlib.Core.List.{List, [], ◌∷◌}
use mathlib.Core.Bool.{Bool, true, false, cond}
use native.Mathlib.Omega.{arith}
use borrow.Author.Tests.{ltb-true, lt-ltb, le-ltb, eq-eqb, ne_eqb}
use lib.Dec.{ltb}
use lib.ListN.{length, drop, get_or}
use Rattle.lists.specs.Lists.{has, Above, Ascending}
use Rattle.lists.specs.Arrays.{rank, leads}
use Rattle.lists.proofs.Order.{above_lacks, by_order}

module _ {A : Type 0} (key : A → ℕ) where
  above_at : (k : ℕ) (d : A) (l : List A) (i : ℕ) → Above key k l → i < length l → k < key (get_or l i d)
  above_at k d [] i a h = absurd (omega arith)
  above_at k d (x ∷ l) zero a h = a.0
  above_at k d (x ∷ l) (suc i) a h = above_at k d l i a.1 (omega arith)

  -- what stands in a rising list stands at its rank
  pub at-rank : (t : ℕ) (l : List A) → Ascending key l → has key t l ≡ leads key t (drop (rank (λ x. ltb (key x) t) l) l)
  unfolding rank
  at-rank t [] a = refl
  at-rank t (x ∷ l) a =
      by_order (key x) t
      (λ lt. rw (lt-ltb (key x) t lt, ne_eqb (key x) t (omega arith)) (at-rank t l a.1))
      (λ eq. rw (le-ltb (key x) t (omega arith), eq-eqb (key x) t eq))
      (λ gt. rw (le-ltb (key x) t (omega arith), ne_eqb (key x) t (omega arith)) (above_lacks key t (key x) l (omega arith) a.0))

  module _ (t : ℕ) (d : A) where
    abbrev pub under : A → Bool
    under x = ltb (key x) t

    -- one that is not under t is at the rank or past it
    pub rank_most : (l : List A) (i : ℕ) → i < length l → under (get_or l i d) ≡ false → rank under l ≤ i
    unfolding rank
    rank_most [] i h u = absurd (omega arith)
    rank_most (x ∷ l) zero h u = rw u (omega arith)
    rank_most (x ∷ l) (suc i) h u = elim (under x) as (λ b. cond b (suc (rank under l)) 0 ≤ suc i) [ true ↦ omega (arith, rank_most l i (omega arith) u) | false ↦ omega arith ]

    -- one that is under t stands before the rank, as all before it do
    pub rank_least : (l : List A) (i : ℕ) → Ascending key l → i < length l → under (get_or l i d) ≡ true → i < rank under l
    unfolding rank
    rank_least [] i a h u = absurd (omega arith)
    rank_least (x ∷ l) zero a h u = rw u (omega arith)
    rank_least (x ∷ l) (suc i) a h u =
        let first = lt-ltb (key x) t (omega (arith, above_at (key x) d l i a.0 (omega arith), ltb-true (key (get_or l i d)) t u)) in
        rw first (omega (arith, rank_least l i a.1 (omega arith) u))

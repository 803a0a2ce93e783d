-- Where transactions are words, the key of a pair says what its record and its transaction say.
-- Assumes nothing.
use Prim.Native.Nat.{ℕ, ◌≤◌, ◌<◌, ◌^◌}
use mathlib.Core.Path.{◌≡◌, sym, ◌∙◌}
use mathlib.Core.Bool.{true, false}
use mathlib.Core.List.{List}
use native.Mathlib.Omega.{arith}
use borrow.Author.Tests.{eqb-true, lt-ltb, le-ltb, eq-eqb, ne_eqb}
use lib.Dec.{eqb, ltb}
use lib.ListN.{length, take, drop, get_or, drop_of_length-le}
use lib.Seq.{drop-cons}
use Rattle.lists.specs.Lists.{at, has, Every, Ascending}
use Rattle.lists.specs.Arrays.{rank, leads}
use Rattle.lists.proofs.Tests.{same_test, and_both, and_left, and_right}
use Rattle.lists.proofs.Keep.{any_same, every_member, every_always, every_more}
use Rattle.lists.proofs.Order.{by_order}
use Rattle.lists.proofs.Ranked.{at-rank, rank_most, rank_least}
use Rattle.lists.proofs.Distinct.{every_at}
use Rattle.lists.proofs.Parts.{every_zip_by}
use Rattle.lists.proofs.Pairs.{rank_same}
use Rattle.rules.specs.Index.{Pair, pair_key, names}
use Rattle.store.specs.Issuers.{pair, pairs_in, is_pair, is_before}
use Rattle.store.specs.declared.issuers.Issuers.{Issuers}

abbrev pub Word : ℕ → Type 0
Word n = n < 2 ^ 64

abbrev pub OfWord : Pair → Type 0
OfWord q = Word q.transaction

module _ (r t : ℕ) (w : Word t) where
  key-is : (q : Pair) → OfWord q → at pair_key (pair_key (pair r t)) q ≡ is_pair r t q
  key-is q v = same_test (at pair_key (pair_key (pair r t)) q) (is_pair r t q) there back
    where
      there : at pair_key (pair_key (pair r t)) q ≡ true → is_pair r t q ≡ true
      there h =
          let k : q.key ≡ r = omega (arith, eqb-true (pair_key q) (pair_key (pair r t)) h) in
          let same : q.transaction ≡ t = omega (arith, eqb-true (pair_key q) (pair_key (pair r t)) h) in
          and_both (eqb q.key r) (eqb q.transaction t) (eq-eqb q.key r k) (eq-eqb q.transaction t same)

      back : is_pair r t q ≡ true → at pair_key (pair_key (pair r t)) q ≡ true
      back h =
          let k : q.key ≡ r = eqb-true q.key r (and_left (eqb q.key r) (eqb q.transaction t) h) in
          let same : q.transaction ≡ t = eqb-true q.transaction t (and_right (eqb q.key r) (eqb q.transaction t) h) in
          eq-eqb (pair_key q) (pair_key (pair r t)) (omega arith)

  key-leads : (q : Pair) → OfWord q → is_before r t q ≡ ltb (pair_key q) (pair_key (pair r t))
  key-leads q v =
      by_order q.key r
      (λ lt. rw (lt-ltb q.key r lt, lt-ltb (pair_key q) (pair_key (pair r t)) (omega arith)))
      (λ eq. rw (le-ltb q.key r (omega arith), eq-eqb q.key r eq) (last eq))
      (λ gt. rw (le-ltb q.key r (omega arith), ne_eqb q.key r (omega arith), le-ltb (pair_key q) (pair_key (pair r t)) (omega arith)))
    where
      last : q.key ≡ r → ltb q.transaction t ≡ ltb (pair_key q) (pair_key (pair r t))
      last eq =
          by_order q.transaction t
          (λ lt. rw (lt-ltb q.transaction t lt, lt-ltb (pair_key q) (pair_key (pair r t)) (omega arith)))
          (λ same. rw (le-ltb q.transaction t (omega arith), le-ltb (pair_key q) (pair_key (pair r t)) (omega arith)))
          (λ gt. rw (le-ltb q.transaction t (omega arith), le-ltb (pair_key q) (pair_key (pair r t)) (omega arith)))

  -- the key stands where the pair stands
  pub has-names : (l : List Pair) → Every OfWord l → has pair_key (pair_key (pair r t)) l ≡ names l r t
  has-names l v = any_same (at pair_key (pair_key (pair r t))) (is_pair r t) l (λ q m. key-is q (every_member OfWord l v m))

  -- and it ranks where the pair ranks
  pub rank-key : (l : List Pair) → Every OfWord l → rank (is_before r t) l ≡ rank (λ q. ltb (pair_key q) (pair_key (pair r t))) l
  rank-key l v = rank_same (is_before r t) (λ q. ltb (pair_key q) (pair_key (pair r t))) l (every_more OfWord _ key-leads l v)

  -- what a probe at a place tells of the rank, and what stands at it
  module _ (l : List Pair) (v : Every OfWord l) where
    abbrev nobody : Pair
    nobody = pair 0 0

    probe : (i : ℕ) → i < length l → is_before r t (get_or l i nobody) ≡ ltb (pair_key (get_or l i nobody)) (pair_key (pair r t))
    probe i h = key-leads (get_or l i nobody) (every_at OfWord nobody i l h v)

    pub rank_high : (i : ℕ) → i < length l → is_before r t (get_or l i nobody) ≡ false → rank (is_before r t) l ≤ i
    rank_high i h u = rw (rank-key l v) (rank_most pair_key (pair_key (pair r t)) nobody l i h (sym (probe i h) ∙ u))

    pub rank_low : (i : ℕ) → Ascending pair_key l → i < length l → is_before r t (get_or l i nobody) ≡ true → i < rank (is_before r t) l
    rank_low i a h u = rw (rank-key l v) (rank_least pair_key (pair_key (pair r t)) nobody l i a h (sym (probe i h) ∙ u))

    -- the pair stands in a rising index only at its rank
    pub names-rank : Ascending pair_key l → names l r t ≡ leads pair_key (pair_key (pair r t)) (drop (rank (is_before r t) l) l)
    names-rank a = sym (has-names l v) ∙ rw (rank-key l v) (at-rank pair_key (pair_key (pair r t)) l a)

    pub leads-pair : (i : ℕ) → i < length l → leads pair_key (pair_key (pair r t)) (drop i l) ≡ is_pair r t (get_or l i nobody)
    leads-pair i h = rw (drop-cons l i nobody h) (key-is (get_or l i nobody) (every_at OfWord nobody i l h v))

    pub leads-none : (i : ℕ) → length l ≤ i → leads pair_key (pair_key (pair r t)) (drop i l) ≡ false
    leads-none i h = rw (drop_of_length-le l h)

pub pairs-words : (x : Issuers) → Every OfWord (pairs_in x)
pairs-words x =
    every_zip_by (λ r. Unit {0}) Word OfWord pair (λ r t u w. w) (take x.len x.records) (take x.len x.transactions)
    (every_always (λ r. Unit {0}) (λ r. tt) (take x.len x.records))
    x.words

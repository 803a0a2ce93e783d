-- What a change of the entries does to the index: the index after a release, after a taking in, after a change of entries.
-- Assumes nothing.
use Prim.Native.Nat.{ℕ}
use mathlib.Core.Path.{◌≡◌, refl, sym, ap, ◌∙◌}
use mathlib.Core.Bool.{Bool, true, false, cond, not, false≢true}
use mathlib.Core.List.{List, [], ◌∷◌}
use lib.Dec.{eqb}
use native.Mathlib.Omega.{arith}
use borrow.Author.Tests.{lt-ltb, eq-eqb, ne_eqb}
use Rattle.lists.proofs.Tests.{or_left}
use Rattle.lists.specs.Lists.{cons_if, keep, has, without, change_if, include, include_all, Every}
use Rattle.lists.proofs.Keep.{keep_always, keep_never}
use Rattle.lists.proofs.Order.{by_order, include_past, keep-include_all, include_all_swap}
use Rattle.rules.specs.Plain.{Entry, transaction_of}
use Rattle.rules.specs.Index.{pair_key, pairs_of, index_of}
use Rattle.rules.proofs.Named.{IsOfWord, IsPairOfWord, same_pair, pairs_of_every, pairs_of-words, index_of-words, index_of_rises}

-- Releasing, by a test of transactions: the pairs of what passes are the index of what passes.
pub index_of-keep : (local : ℕ) (p : ℕ → Bool) (es : List Entry) → Every IsOfWord es →
    keep (λ q. p q.transaction) (index_of local es) ≡ index_of local (keep (λ e. p (transaction_of e)) es)
index_of-keep local p [] v = refl
index_of-keep local p (e ∷ es) v =
    keep-include_all pair_key IsPairOfWord same_pair (λ q. p q.transaction) (pairs_of local e) (index_of local es)
    (pairs_of-words local e v.0) (index_of-words local es v.1) (index_of_rises local es)
    ∙ rw (index_of-keep local p es v.1) (go (p (transaction_of e)) refl)
  where
    l : List Entry
    l = keep (λ e. p (transaction_of e)) es

    go : (b : Bool) → p (transaction_of e) ≡ b →
        include_all pair_key (keep (λ q. p q.transaction) (pairs_of local e)) (index_of local l) ≡ index_of local (cons_if b e l)
    go true h = rw (keep_always (λ q. p q.transaction) (pairs_of local e) (pairs_of_every (λ t. p t ≡ true) local e h))
    go false h = rw (keep_never (λ q. p q.transaction) (pairs_of local e) (pairs_of_every (λ t. p t ≡ false) local e h))

pub index_of-without : (local t : ℕ) (es : List Entry) → Every IsOfWord es →
    keep (λ q. not (eqb q.transaction t)) (index_of local es) ≡ index_of local (without transaction_of t es)
index_of-without local t es v = index_of-keep local (λ u. not (eqb u t)) es v

-- Taking in: a transaction that is not owed adds its own pairs.
pub index_of-include : (local : ℕ) (e : Entry) (es : List Entry) → IsOfWord e → Every IsOfWord es →
    has transaction_of (transaction_of e) es ≡ false →
    index_of local (include transaction_of e es) ≡ include_all pair_key (pairs_of local e) (index_of local es)
index_of-include local e [] w v h = refl
index_of-include local e (x ∷ es) w v h =
    by_order (transaction_of e) (transaction_of x)
    (λ lt. rw (lt-ltb (transaction_of e) (transaction_of x) lt))
    (λ eq. absurd (false≢true (sym h ∙ or_left _ _ (eq-eqb (transaction_of x) (transaction_of e) (sym eq)))))
    (λ gt. ap (index_of local) (include_past transaction_of e x es gt)
    ∙ ap (include_all pair_key (pairs_of local x))
    (index_of-include local e es w v.1 (rw (ne_eqb (transaction_of x) (transaction_of e) (omega arith)) at h))
    ∙ include_all_swap pair_key IsPairOfWord same_pair (pairs_of local x) (pairs_of local e) (index_of local es)
    (pairs_of-words local x v.0) (pairs_of-words local e w) (index_of_rises local es))

-- Changing: entries changed in anything but their terms have the same index.
pub index_of-change : (local : ℕ) (p : Entry → Bool) (f : Entry → Entry) → ((e : Entry) → (f e).terms ≡ e.terms) → (es : List Entry) →
    index_of local (change_if p f es) ≡ index_of local es
index_of-change local p f c [] = refl
index_of-change local p f c (e ∷ es) = rw (index_of-change local p f c es) (go (p e))
  where
    go : (b : Bool) →
        include_all pair_key (pairs_of local (cond b (f e) e)) (index_of local es) ≡ include_all pair_key (pairs_of local e) (index_of local es)
    go true = rw (c e)
    go false = refl

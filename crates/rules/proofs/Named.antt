-- The issuer index: it names a transaction under a record exactly when the transaction is owed and lists the record as issued;
-- each pair stands once, and they are never more than there is room for.
-- Assumes nothing.
use Prim.Native.Nat.{ℕ, ◌*◌, ◌^◌, ◌≤◌}
use mathlib.Core.Path.{◌≡◌, refl, ◌∙◌}
use mathlib.Core.Bool.{Bool, true, ◌&&◌}
use mathlib.Core.List.{List, [], ◌∷◌}
use native.Mathlib.Omega.{arith}
use lib.Dec.{eqb}
use lib.ListN.{length, length-map}
use borrow.Author.Tests.{ltb-true}
use Rattle.lists.specs.Lists.{any, Every, Ascending}
use Rattle.lists.proofs.Tests.{and_swap}
use Rattle.lists.proofs.Keep.{any-map, any_and, every_always, every_map, every_more, length-keep}
use Rattle.lists.proofs.Order.{ascending-include_all, every_include_all, length-include_all, any-include_all}
use Rattle.rules.specs.Numbers.{is_word, max_edges, max_pairs}
use Rattle.rules.specs.Plain.{Entry, Plain, transaction_of, issued, issues}
use Rattle.rules.specs.Index.{Pair, pair_key, pairs_of, index_of, index, names, lists_record}
use Rattle.rules.specs.Good.{Good, GoodEntry}

-- Each pair stands once.
pub index_of_rises : (local : ℕ) (es : List Entry) → Ascending pair_key (index_of local es)
index_of_rises local [] = tt
index_of_rises local (e ∷ es) = ascending-include_all pair_key (pairs_of local e) (index_of local es) (index_of_rises local es)

pub index_rises : (p : Plain) → Ascending pair_key (index p)
unfolding index
index_rises p = index_of_rises p.local p.entries

-- Where transactions are words, the key of a pair tells the record and the transaction.
abbrev pub IsOfWord : Entry → Type 0
IsOfWord e = is_word (transaction_of e) ≡ true

abbrev pub IsPairOfWord : Pair → Type 0
IsPairOfWord q = is_word q.transaction ≡ true

pub same_pair : (x y : Pair) → IsPairOfWord x → IsPairOfWord y → pair_key x ≡ pair_key y → x ≡ y
same_pair x y v w h = λ i. record { key = k i; transaction = t i }
  where
    k : x.key ≡ y.key
    k = omega (arith, ltb-true x.transaction (2 ^ 64) v, ltb-true y.transaction (2 ^ 64) w)

    t : x.transaction ≡ y.transaction
    t = omega (arith, k)

-- what holds of an entry's transaction holds of its pairs
pub pairs_of_every : (P : ℕ → Type 0) (local : ℕ) (e : Entry) → P (transaction_of e) → Every (λ q. P q.transaction) (pairs_of local e)
pairs_of_every P local e v = every_map _ (λ q. P q.transaction) (issued local e.terms) (every_always _ (λ r. v) (issued local e.terms))

pub pairs_of-words : (local : ℕ) (e : Entry) → IsOfWord e → Every IsPairOfWord (pairs_of local e)
pairs_of-words = pairs_of_every (λ t. is_word t ≡ true)

pub index_of-words : (local : ℕ) (es : List Entry) → Every IsOfWord es → Every IsPairOfWord (index_of local es)
index_of-words local [] v = tt
index_of-words local (e ∷ es) v =
    every_include_all pair_key IsPairOfWord (pairs_of local e) (index_of local es)
    (pairs_of-words local e v.0) (index_of-words local es v.1)

pub good-words : {p : Plain} → Good p → Every IsOfWord p.entries
good-words {p} g = every_more (GoodEntry p.local) IsOfWord (λ e v. v.terms.transaction) p.entries g.entries.rows.each

-- The index names what is listed.
abbrev is_named_by : ℕ → ℕ → Pair → Bool
is_named_by r t q = eqb q.key r && eqb q.transaction t

pairs_of-names : (local r t : ℕ) (e : Entry) → names (pairs_of local e) r t ≡ eqb (transaction_of e) t && issues local r e.terms
pairs_of-names local r t e =
    any-map _ (is_named_by r t) (issued local e.terms)
    ∙ any_and (λ x. eqb x r) (eqb (transaction_of e) t) (issued local e.terms)
    ∙ and_swap (issues local r e.terms) (eqb (transaction_of e) t)

pub index_of-names : (local : ℕ) (es : List Entry) → Every IsOfWord es → (r t : ℕ) →
    names (index_of local es) r t ≡ any (λ e. eqb (transaction_of e) t && issues local r e.terms) es
index_of-names local [] v r t = refl
index_of-names local (e ∷ es) v r t =
    any-include_all pair_key IsPairOfWord same_pair (is_named_by r t) (pairs_of local e) (index_of local es)
    (pairs_of-words local e v.0) (index_of-words local es v.1)
    ∙ rw (pairs_of-names local r t e, index_of-names local es v.1 r t)

pub index-names : (p : Plain) → Good p → (r t : ℕ) → names (index p) r t ≡ lists_record p r t
unfolding index
index-names p g r t = index_of-names p.local p.entries (good-words g) r t

-- as many pairs at most as there are edges
index_of-size : (local : ℕ) (es : List Entry) → Every (λ e. length e.terms.edges ≤ max_edges) es →
    length (index_of local es) ≤ max_edges * length es
index_of-size local [] v = omega arith
index_of-size local (e ∷ es) v =
    omega (
      arith,
      index_of-size local es v.1,
      length-include_all pair_key (pairs_of local e) (index_of local es),
      length-pairs_of,
    )
  where
    length-pairs_of : length (pairs_of local e) ≤ length e.terms.edges
    length-pairs_of = rw (length-map, length-map) (length-keep (λ g. eqb g.from local) e.terms.edges)

pub index-size : (p : Plain) → Good p → length (index p) ≤ max_pairs
unfolding index
index-size p g =
    omega (
      arith,
      index_of-size p.local p.entries
          (every_more (GoodEntry p.local) _ (λ e v. v.terms.edge_count) p.entries g.entries.rows.each),
    )

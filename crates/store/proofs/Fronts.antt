-- Pairs at the front of two arrays, whatever their order: what their transactions say of them.
-- Assumes nothing.
use Prim.Native.Nat.{ℕ, ◌≤◌}
use mathlib.Core.Path.{◌≡◌, refl, sym, ap, subst, ◌∙◌}
use mathlib.Core.Bool.{Bool}
use mathlib.Core.List.{List, [], ◌∷◌, map, map-map}
use native.Mathlib.Omega.{arith}
use lib.ListN.{length, take}
use lib.Seq.{length-take-le}
use Rattle.lists.specs.Lists.{Every, keep, keep_by, zip_by}
use Rattle.lists.proofs.Keep.{every_map}
use Rattle.lists.proofs.Distinct.{keep_by_test}
use Rattle.rules.specs.Index.{Pair}
use Rattle.store.specs.Issuers.{pair, of_transaction}
use Rattle.store.specs.Fronts.{front_pairs}
use Rattle.store.proofs.Keyed.{Word, OfWord}

abbrev second : Pair → ℕ
second q = q.transaction

seconds : (us vs : List ℕ) → length us ≡ length vs → map second (zip_by pair us vs) ≡ vs
seconds [] [] h = refl
seconds [] (v ∷ vs) h = absurd (omega arith)
seconds (u ∷ us) [] h = absurd (omega arith)
seconds (u ∷ us) (v ∷ vs) h = ap (λ m. v ∷ m) (seconds us vs (omega arith))

module _ (rs ts : List ℕ) (n : ℕ) (h : n ≤ length rs) (k : n ≤ length ts) where
  abbrev ps : List Pair
  ps = front_pairs rs ts n

  pub same_many : length (take n rs) ≡ length (take n ts)
  same_many = length-take-le n rs h ∙ sym (length-take-le n ts k)

  transactions_of : map second ps ≡ take n ts
  transactions_of = seconds (take n rs) (take n ts) same_many

  -- the flags that a test says of the transactions keep the pairs that it passes
  pub kept_by_test : (p : ℕ → Bool) (fs : List Bool) → fs ≡ map p (take n ts) → keep_by fs ps ≡ keep (of_transaction p) ps
  kept_by_test p fs e = ap (λ m. keep_by m ps) (e ∙ ap (map p) (sym transactions_of) ∙ map-map p second ps) ∙ keep_by_test (of_transaction p) ps

  -- where the pairs are of words, so are the transactions
  pub words_of : Every OfWord ps → Every Word (take n ts)
  words_of v = subst (Every Word) transactions_of (every_map second Word ps v)

-- The whole arrays of the issuer index side by side: the pairs in use are their front.
-- Assumes nothing.
use Prim.Native.Nat.{ℕ, ◌<◌}
use mathlib.Core.Path.{◌≡◌, ◌∙◌, sym, ap}
use mathlib.Core.Bool.{Bool}
use mathlib.Core.List.{List}
use native.Mathlib.Omega.{arith}
use lib.ListN.{length, take, get_or}
use lib.Seq.{length-take-le, get_or-take}
use Rattle.lists.specs.Lists.{zip_by}
use Rattle.lists.proofs.Pairs.{zip-take, zip_get_d}
use Rattle.lists.proofs.Zip.{length-zip}
use Rattle.rules.specs.Index.{Pair}
use Rattle.store.specs.Issuers.{pair, pairs_in}
use Rattle.store.specs.declared.issuers.Issuers.{Issuers}

abbrev pub sides : Issuers → List Pair
sides x = zip_by pair x.records x.transactions

pub sides_front : (x : Issuers) → take x.len (sides x) ≡ pairs_in x
sides_front x = zip-take pair x.len x.records x.transactions

module _ (x : Issuers) where
  same : length x.records ≡ length x.transactions
  same = x.lengths.0 ∙ sym x.lengths.1

  sides_length : length (sides x) ≡ 384
  sides_length = length-zip pair x.records x.transactions same ∙ x.lengths.0

  sides_at : (i d e : ℕ) → get_or (sides x) i (pair d e) ≡ pair (get_or x.records i d) (get_or x.transactions i e)
  sides_at i d e = zip_get_d pair x.records x.transactions i d e same

  -- what a call says of the elements at i, it says of the pair
  pub pairs-told : (p : Pair → Bool) (i : ℕ) (r b : Bool) → i < x.len → r ≡ p (pair (get_or x.records i 0) (get_or x.transactions i 0)) → r ≡ b →
      p (get_or (pairs_in x) i (pair 0 0)) ≡ b
  pairs-told p i r b u e q = ap p (ap (λ l. get_or l i (pair 0 0)) (sym (sides_front x)) ∙ get_or-take x.len (sides x) i (pair 0 0) u ∙ sides_at i 0 0) ∙ sym e ∙ q

  pub pairs-length : length (pairs_in x) ≡ x.len
  pairs-length = ap length (sym (sides_front x)) ∙ length-take-le x.len (sides x) (omega (arith, sides_length, x.room))

-- A list of a reading: what writes it out, whether its words fit or not, and what turns it away before.
-- Assumes nothing.
use Prim.Native.Nat.{ℕ}
use mathlib.Core.Path.{◌≡◌, refl, ◌∙◌}
use mathlib.Core.Bool.{Bool, true, false}
use mathlib.Core.List.{List}
use native.Mathlib.Omega.{arith}
use borrow.Author.Tests.{lt-ltb}
use lib.Dec.{ltb}
use lib.ListN.{length}
use Rattle.lists.specs.Lists.{concat_map}
use Rattle.rules.specs.Plain.{Plain}
use Rattle.rules.specs.Outcome.{too_short}
use Rattle.rules.specs.Readings.{listing}
use Rattle.std.specs.Prelude.{Result, Err}
use Rattle.types.specs.declared.refusal.Refusal.{Refusal}
use Rattle.types.specs.Refusals.{refusal_number}
use Rattle.ledger.proofs.Meeting.{numbered}
use Rattle.readings.specs.Reads.{Reads, Lists}
use Rattle.readings.proofs.Looked.{refuses, stops}

-- the words written out are those of the list's items
module _ {A : Type 0} (f : A → List ℕ) (items : List A) (p : Plain) (m : ℕ) (lent : List ℕ) where
  pub reads_list : (after : List ℕ) (r : Result ℕ Refusal) → m ≡ 0 → Lists (concat_map f items) (length items) lent after r →
      Reads (listing m (length lent) f items p) lent after r
  reads_list after r z h = rw z (go (too_short (length lent) (concat_map f items)) refl)
    where
      go : (b : Bool) → too_short (length lent) (concat_map f items) ≡ b → Reads (listing 0 (length lent) f items p) lent after r
      go true t = rw t (record { refused = rw t at h.refused; answer = rw t at h.answer; wrote = rw t at h.wrote })
      go false t = rw t (record { refused = rw t at h.refused; answer = rw t at h.answer; wrote = rw t at h.wrote })

  pub turned_away : (r : Refusal) → m ≡ refusal_number r → Reads (listing m (length lent) f items p) lent lent (Err r)
  turned_away r e = refuses r _ p _ lent (stops (ltb 0 m) m _ (lt-ltb 0 m (omega (arith, e, (numbered r).1))) ∙ e)

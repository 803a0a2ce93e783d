-- Several entries let go at once: the index of the entries that a test keeps. For any test.
-- Assumes nothing.
use Prim.Native.Nat.{ℕ}
use mathlib.Core.Path.{◌≡◌, refl, ap, ◌∙◌}
use mathlib.Core.Bool.{Bool, false, not}
use mathlib.Core.List.{List, [], ◌∷◌, map, Memᴰ}
use native.Mathlib.Omega.{arith}
use borrow.Author.Tests.{eq-eqb, ne_eqb}
use Rattle.lists.specs.Lists.{keep, Above, Ascending}
use Rattle.lists.proofs.Tests.{or_false, and_true, and_false, not-not}
use Rattle.lists.proofs.Keep.{keep_same}
use Rattle.lists.proofs.Order.{above_member}
use Rattle.rules.specs.Plain as plain
use Rattle.rules.specs.Plain.{transaction_of}
use Rattle.rules.specs.Index.{index_of, index}
use Rattle.rules.proofs.Named.{good-words}
use Rattle.rules.proofs.Reindex.{index_of-keep}
use Rattle.store.specs.declared.issuers.Issuers.{Issuers}
use Rattle.store.specs.Roster.{keys_of}
use Rattle.store.specs.Issuers as issuers
use Rattle.store.specs.Issuers.{pairs_in}
use Rattle.store.specs.Leaving.{unnamed_by, is_dropped}
use Rattle.store.proofs.Dropping.{unnamed_keep}
use Rattle.ledger.specs.declared.Ledger.{Ledger}
use Rattle.ledger.specs.Contents.{entries_of, contents, Held}

-- where transactions rise, the flag at a transaction is the test of its entry
module _ (p : plain.Entry → Bool) where
  abbrev flags : List plain.Entry → List Bool
  flags es = map p es

  abbrev names : List plain.Entry → List ℕ
  names es = map transaction_of es

  gone-below : (t : ℕ) (es : List plain.Entry) → Above transaction_of t es → is_dropped (flags es) (names es) t ≡ false
  gone-below t [] a = refl
  gone-below t (e ∷ es) a =
      rw (ne_eqb t (transaction_of e) (omega (arith, a.0)), and_false (not (p e))) (gone-below t es a.1)

  gone_test : (x : plain.Entry) (es : List plain.Entry) → Ascending transaction_of es → Memᴰ x es → not (is_dropped (flags es) (names es) (transaction_of x)) ≡ p x
  gone_test x (e ∷ es) a (Memᴰ.head q) =
      rw (q, eq-eqb (transaction_of e) (transaction_of e) refl, and_true (not (p e)), gone-below (transaction_of e) es a.0, or_false (not (p e))) (not-not (p e))
  gone_test x (e ∷ es) a (Memᴰ.tail m) =
      rw (ne_eqb (transaction_of x) (transaction_of e) (omega (arith, above_member transaction_of (transaction_of e) es a.0 m)), and_false (not (p e)))
      (gone_test x es a.1 m)
  gone_test x [] a x3 = elim x3 [ ]

  pub unnamed_index : (l : Ledger) → Held l → (bs : List Bool) (x : Issuers) → bs ≡ map p (entries_of l) →
      issuers.Holds (unnamed_by bs (keys_of l.roster) (pairs_in l.issuers)) x → issuers.Holds (index_of l.local.0 (keep p (entries_of l))) x
  unfolding contents index
  unnamed_index l h bs x q i =
      let es = entries_of l in
      record {
        pairs = i.pairs
            ∙ rw (q, h.keyed, h.issuers.pairs)
            (unnamed_keep (flags es) (names es) (index_of l.local.0 es)
            ∙ index_of-keep l.local.0 (λ t. not (is_dropped (flags es) (names es) t)) es (good-words h.good)
            ∙ ap (index_of l.local.0) (keep_same (λ e. not (is_dropped (flags es) (names es) (transaction_of e))) p es (λ y m. gone_test y es h.good.entries.rows.order m)));
      }

-- The items of a bundle: each does what its call does, and the words of an item are words of the bundle.
-- Assumes nothing.
use Prim.Native.Nat.{ℕ, ◌+◌}
use mathlib.Core.Path.{◌≡◌, refl, ap}
use mathlib.Core.Bool.{Bool, true, false, cond}
use mathlib.Core.List.{List, [], ◌∷◌}
use lib.Dec.{eqb}
use lib.ListN.{length, drop}
use Rattle.lists.specs.Lists.{keep, Every, cut}
use Rattle.lists.proofs.Keep.{every_keep, every_always, every_concat_map}
use Rattle.lists.proofs.Joined.{every_piece}
use Rattle.lists.proofs.Parts.{every_drop, every_zip_by}
use Rattle.rules.specs.Numbers.{is_word}
use Rattle.rules.specs.Plain.{Plain}
use Rattle.rules.specs.Words.{word, transaction_size, transaction_at, Item, is_kind, items_at, item_kinds, item_lengths, items_written, bundle_items, finalization_formed}
use Rattle.rules.specs.Outcome.{Outcome}
use Rattle.rules.specs.Calls.{Call, absence, abandonment, finalization, admission, terminal, step, after_finalization, after_item, with_item, refused_call, item_call}
use Rattle.rules.specs.Good.{Holds}

-- What is true of each call that an item of these words may be is true of its own call, and of what it does on each ledger.
module _ (P : Call → (Plain → Outcome) → Type 0) (i : Item) where
  abbrev own : List ℕ
  own = i.words

  abbrev filed : Call
  filed = terminal (word 0 own) (word 1 own) (word 2 own) (word 3 own)

  abbrev read : Call
  read = absence (transaction_at 0 own) (word transaction_size own) (word (transaction_size + 1) own)

  abbrev Of : Call → Type 0
  Of c = P c (λ p. step c p)

  pub by_item : Of filed → Of (abandonment own) → Of (finalization own) → Of (admission own) → Of read → Of refused_call → P (item_call i) (λ p. after_item i p)
  unfolding finalization_formed after_finalization
  by_item t r f e n z = go (is_kind 1 i) (is_kind 2 i) (is_kind 3 i) (is_kind 4 i) (eqb (length own) 4) (eqb (length own) (transaction_size + 2))
    where
      go : (a b c d x y : Bool) →
          P (cond a (cond x filed refused_call) (cond b (abandonment own) (cond c (finalization own) (cond d (admission own) (cond y read refused_call)))))
          (λ p. cond a (cond x (step filed p) (step refused_call p))
          (cond b (step (abandonment own) p) (cond c (step (finalization own) p) (cond d (step (admission own) p) (cond y (step read p) (step refused_call p))))))
      go true b c d true y = t
      go true b c d false y = z
      go false true c d x y = r
      go false false true d x y = f
      go false false false true x y = e
      go false false false false x true = n
      go false false false false x false = z

-- an item's outcome is its call's
pub item-step : (i : Item) (p : Plain) → after_item i p ≡ step (item_call i) p
item-step i p = by_item (λ c f. f p ≡ step c p) i refl refl refl refl refl refl

pub item-ledger : (i : Item) (p : Plain) → with_item i p ≡ (step (item_call i) p).ledger
item-ledger i p = ap (λ o. o.ledger) (item-step i p)

-- words
abbrev pub OfWordsItem : Item → Type 0
OfWordsItem i = Every (Holds is_word) i.words

pub items-words : (ws : List ℕ) → Every (Holds is_word) ws → Every OfWordsItem (bundle_items ws)
unfolding bundle_items
items-words ws v =
    every_concat_map OfWordsItem (λ k. keep (is_kind k) (items_written ws)) (1 ∷ 2 ∷ 3 ∷ 4 ∷ 5 ∷ [])
    (every_always (λ k. Every OfWordsItem (keep (is_kind k) (items_written ws))) (λ k. every_keep OfWordsItem (is_kind k) (items_written ws) written) (1 ∷ 2 ∷ 3 ∷ 4 ∷ 5 ∷ []))
  where
    joined : List ℕ
    joined = drop (items_at ws) ws

    written : Every OfWordsItem (items_written ws)
    written =
        every_zip_by (λ k. Unit {0}) (Every (Holds is_word)) OfWordsItem (λ (k : ℕ) (l : List ℕ). record { kind = k; words = l }) (λ k l _ w. w) (item_kinds ws)
        (cut (item_lengths ws) joined) (every_always _ (λ k. tt) (item_kinds ws)) (every_piece (Holds is_word) (item_lengths ws) joined (every_drop (Holds is_word) (items_at ws) ws v))

-- A bundle on two ledgers, one of which is the other less what a prune takes: its items one after the other, each by what is proved of the
-- call that it is.
-- Assumes nothing.
use Prim.Native.Nat.{ℕ, zero, suc, ◌+◌}
use mathlib.Core.Path.{◌≡◌, refl, sym, ap, ap₂, subst, ◌∙◌}
use mathlib.Core.Bool.{cond, not}
use mathlib.Core.List.{List, [], ◌∷◌, ◌++◌, map, append-nil}
use native.Mathlib.Omega.{arith}
use lib.ListN.{drop}
use Rattle.lists.specs.Lists.{Every, through, total, self}
use Rattle.rules.specs.Numbers.{is_word}
use Rattle.rules.specs.Plain.{Plain}
use Rattle.rules.specs.Words.{word, transaction_size, transaction_at, Item, is_kind, bundle_whole, bundle_known, bundle_measured, bundle_items}
use Rattle.rules.specs.Outcome.{Outcome, said, unless, ◌gives◌then◌}
use Rattle.rules.specs.Calls.{after_admission, after_absence, after_abandonment, after_finalization, after_terminal, after_item, with_item, items_refusal, answered_by, bundle_refusal, after_bundle, item_call}
use Rattle.rules.specs.Good.{Holds, Good}
use Rattle.rules.specs.LeftOut.{less, Omitted, Apart, EachApart}
use Rattle.rules.proofs.Items.{by_item, item-step, item-ledger, OfWordsItem, items-words}
use Rattle.rules.proofs.Kept.{item-good}
use Rattle.rules.proofs.Bundled.{none_refused}
use Rattle.rules.proofs.Less.{Felled, Beside}
use Rattle.rules.proofs.Moved.{Moved, Paired, unless_paired}
use Rattle.rules.proofs.ApartEntries.{absence_paired, admission_paired}
use Rattle.rules.proofs.ApartItems.{finalization_paired, abandonment_paired}
use Rattle.rules.proofs.ApartFiles.{terminal_paired}

-- an item writes no words, so what it says tells its answers
item-silent : (i : Item) (p : Plain) → (after_item i p).words ≡ []
unfolding after_admission after_absence after_abandonment after_finalization after_terminal
item-silent i p = by_item (λ c f. (f p).words ≡ []) i (silent _ _ refl) (silent _ _ refl) (silent _ _ refl) (silent _ _ refl) (silent _ _ refl) (silent _ _ refl)
  where
    silent : (n : ℕ) (o : Outcome) → o.words ≡ [] → (unless n p o).words ≡ []
    silent zero o e = e
    silent (suc n) o e = refl

answers-said : (i : Item) (p : Plain) → drop 1 (said (after_item i p)) ≡ (after_item i p).answers
answers-said i p = ap (λ l. (after_item i p).answers ++ l) (item-silent i p) ∙ append-nil (after_item i p).answers

module _ (o : Omitted) where
  abbrev beside : Plain → Plain
  beside p = less o.taken p

  item-paired : (fell : Felled) (p : Plain) → Beside o fell p → (i : Item) → Apart o (item_call i) p → Good (with_item i p) →
      Paired o fell (after_item i (beside p)) (after_item i p)
  item-paired fell p b i =
      by_item (λ c f. Apart o c p → Good (f p).ledger → Paired o fell (f (beside p)) (f p)) i
      (λ a g. terminal_paired o fell p b (word 0 ws) (word 1 ws) (word 2 ws) (word 3 ws) a.kept.0 a.unheld.0 (a.room refl) g)
      (λ a g. abandonment_paired o fell p b ws a.named a.clear a.kept.0 (a.room refl) g)
      (λ a g. finalization_paired o fell p b ws a.named g)
      (λ a g. admission_paired o fell p b ws a.named.0 a.clear.0 (a.room refl) g)
      (λ a g. absence_paired o fell p b (transaction_at 0 ws) (record { shard = word transaction_size ws; key = word (transaction_size + 1) ws }) a.named.0 g)
      (λ a g. finalization_paired o fell p b [] a.named g)
    where
      ws : List ℕ
      ws = i.words

  -- items that are done on both
  record Done (fell : Felled) (is : List Item) (p : Plain) : Type 0 where
    answers : (k : ℕ) → answered_by k is (beside p) ≡ answered_by k is p
    since : Felled
    told : since.told ≡ fell.told
    there : since.there ≡ fell.there
    moved : Moved o since (through with_item is (beside p)) (through with_item is p)

  -- the same item refuses them by the same number, or none does
  record Gone (fell : Felled) (is : List Item) (p : Plain) : Type 0 where
    refuses : items_refusal is (beside p) ≡ items_refusal is p
    done : items_refusal is p ≡ 0 → Done fell is p

  items-paired : (is : List Item) → Every OfWordsItem is → (fell : Felled) (p : Plain) → Beside o fell p → EachApart o (map item_call is) p → Gone fell is p
  items-paired [] v fell p b a =
      record { refuses = refl; done = λ _. record { answers = λ k. refl; since = fell; told = refl; there = refl; moved = record { is = refl; beside = b } } }
  items-paired (i ∷ is) v fell p b a =
      go (after_item i p).refused refl
      (λ r. items-paired is v.1 s.since (with_item i p) s.moved.beside
      (subst (EachApart o (map item_call is)) (sym (item-ledger i p)) (a.1 (sym (ap (λ o. o.refused) (item-step i p)) ∙ r))))
    where
      s : Paired o fell (after_item i (beside p)) (after_item i p)
      s = item-paired fell p b i a.0 (item-good i p v.0 b.good)

      same : (after_item i (beside p)).answers ≡ (after_item i p).answers
      same = sym (answers-said i (beside p)) ∙ ap (drop 1) s.says ∙ answers-said i p

      go : (n : ℕ) → (after_item i p).refused ≡ n → ((after_item i p).refused ≡ 0 → Gone s.since is (with_item i p)) → Gone fell (i ∷ is) p
      go zero e next =
          let h = next e in
          record {
            refuses = rw (ap (word 0) s.says, e) (ap (items_refusal is) s.moved.is ∙ h.refuses);
            done = λ z.
                let d = h.done (rw e at z) in
                record {
                  answers = λ k. ap₂ ◌+◌ (ap (λ l. cond (is_kind k i) (total self l) 0) same) (ap (answered_by k is) s.moved.is ∙ d.answers k);
                  since = d.since;
                  told = d.told ∙ s.told;
                  there = omega (arith, d.there, s.there);
                  moved = rw s.moved.is d.moved;
                };
          }
      go (suc n) e next = record { refuses = rw (ap (word 0) s.says, e) refl; done = λ z. absurd (omega (arith, rw e at z)) }

  pub bundle_paired : (fell : Felled) (p : Plain) → Beside o fell p → (ws : List ℕ) → Every (Holds is_word) ws → EachApart o (map item_call (bundle_items ws)) p →
      Good (after_bundle ws p).ledger → Paired o fell (after_bundle ws (beside p)) (after_bundle ws p)
  unfolding after_bundle
  bundle_paired fell p b ws v a g =
      let h = items-paired (bundle_items ws) (items-words ws v) fell p b a in
      let same : bundle_refusal ws (beside p) ≡ bundle_refusal ws p =
      ap (λ n. not (bundle_whole ws) gives 11 then not (bundle_known ws) gives 10 then not (bundle_measured ws) gives 11 then n) h.refuses in
      rw same
      (unless_paired o fell (bundle_refusal ws p) p _ _ b g (λ e _.
      let d = h.done (none_refused ws p e) in
      record {
        says = ap₂ (λ n l. 0 ∷ n ∷ l) (d.answers 4) (ap₂ (λ n m. n ∷ m ∷ []) (d.answers 2) (d.answers 3));
        since = d.since;
        told = d.told;
        there = omega (arith, d.there);
        moved = d.moved;
      }))

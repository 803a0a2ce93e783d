-- A bundle does what its calls do one by one, in the order of their kinds.
-- Assumes nothing.
use Prim.Native.Nat.{ℕ, zero, suc, ◌+◌}
use mathlib.Core.Path.{◌≡◌, refl, sym, ap, ap₂, subst, ◌∙◌}
use mathlib.Core.Bool.{cond}
use mathlib.Core.List.{List, [], ◌∷◌, map}
use native.Mathlib.Omega.{arith}
use Rattle.lists.specs.Lists.{through, total, self}
use Rattle.rules.specs.Plain.{Plain}
use Rattle.rules.specs.Words.{Item, is_kind, bundle_whole, bundle_known, bundle_measured, bundle_items}
use Rattle.rules.specs.Outcome.{if_done}
use Rattle.rules.specs.Calls.{step, run, after_item, with_item, items_refusal, answered_by, bundle_refusal, after_bundle, item_call}
use Rattle.rules.specs.Reached.{Accepted, FirstRefused, calls_answer, AsItems}
use Rattle.rules.proofs.Items.{item-step, item-ledger}
use Rattle.rules.proofs.Kept.{unless-refused, unless-none, unless_some, tested}

-- items of a list
items-run : (is : List Item) (p : Plain) → through with_item is p ≡ run (map item_call is) p
items-run [] p = refl
items-run (i ∷ is) p = ap (through with_item is) (item-ledger i p) ∙ items-run is (step (item_call i) p).ledger

items-accepted : (is : List Item) (p : Plain) → items_refusal is p ≡ 0 → Accepted (map item_call is) p
items-accepted [] p h = tt
items-accepted (i ∷ is) p h = go (after_item i p).refused refl (items-accepted is (with_item i p)) h
  where
    go : (n : ℕ) → (after_item i p).refused ≡ n → (items_refusal is (with_item i p) ≡ 0 → Accepted (map item_call is) (with_item i p)) →
        if_done n (items_refusal is (with_item i p)) n ≡ 0 → ((step (item_call i) p).refused ≡ 0) × Accepted (map item_call is) (step (item_call i) p).ledger
    go zero e next r = (sym (ap (λ o. o.refused) (item-step i p)) ∙ e, subst (Accepted (map item_call is)) (item-ledger i p) (next r))
    go (suc n) e next r = absurd (omega arith)

pub first_refused : (n : ℕ) (is : List Item) (p : Plain) → items_refusal is p ≡ suc n → FirstRefused (suc n) is p
first_refused n [] p h = absurd (omega arith)
first_refused n (i ∷ is) p h = go (after_item i p).refused refl (first_refused n is (with_item i p)) h
  where
    go : (m : ℕ) → (after_item i p).refused ≡ m → (items_refusal is (with_item i p) ≡ suc n → FirstRefused (suc n) is (with_item i p)) →
        if_done m (items_refusal is (with_item i p)) m ≡ suc n → FirstRefused (suc n) (i ∷ is) p
    go zero e next r =
        let f = subst (FirstRefused (suc n) is) (item-ledger i p) (next r) in
        record {
          before = i ∷ f.before;
          item = f.item;
          behind = f.behind;
          listed = ap (λ l. i ∷ l) f.listed;
          accepted = (sym (ap (λ o. o.refused) (item-step i p)) ∙ e, f.accepted);
          refused = f.refused;
        }
    go (suc m) e next r =
        record { before = []; item = i; behind = is; listed = refl; accepted = tt; refused = sym (ap (λ o. o.refused) (item-step i p)) ∙ e ∙ r }

items-answer : (k : ℕ) (is : List Item) (p : Plain) → answered_by k is p ≡ calls_answer k is p
items-answer k [] p = refl
items-answer k (i ∷ is) p =
    ap₂ ◌+◌ (ap (λ o. cond (is_kind k i) (total self o.answers) 0) (item-step i p))
    (ap (answered_by k is) (item-ledger i p) ∙ items-answer k is (step (item_call i) p).ledger)

-- where a bundle is not refused, no item is
pub none_refused : (ws : List ℕ) (p : Plain) → bundle_refusal ws p ≡ 0 → items_refusal (bundle_items ws) p ≡ 0
none_refused ws p e = (tested (bundle_measured ws) 10 _ (tested (bundle_known ws) 9 _ (tested (bundle_whole ws) 10 _ e).1).1).1

pub as_items : (ws : List ℕ) (p : Plain) → (after_bundle ws p).refused ≡ 0 → AsItems ws p
unfolding after_bundle
as_items ws p h =
    let is = bundle_items ws in
    let e : bundle_refusal ws p ≡ 0 = sym (unless-refused (bundle_refusal ws p) p _ refl) ∙ h in
    record {
      accepted = items-accepted is p (none_refused ws p e);
      left = ap (λ o. o.ledger) (unless-none (bundle_refusal ws p) p _ e) ∙ items-run is p;
      answers = ap (λ o. o.answers) (unless-none (bundle_refusal ws p) p _ e) ∙ ap₂ ◌∷◌ (items-answer 4 is p) (ap₂ (λ m n. m ∷ n ∷ []) (items-answer 2 is p) (items-answer 3 is p));
    }

-- a refused one does nothing
pub refused_stays : (n : ℕ) (ws : List ℕ) (p : Plain) → (after_bundle ws p).refused ≡ suc n → (after_bundle ws p).ledger ≡ p
unfolding after_bundle
refused_stays n ws p h = unless_some (bundle_refusal ws p) n p _ (sym (unless-refused (bundle_refusal ws p) p _ refl) ∙ h)

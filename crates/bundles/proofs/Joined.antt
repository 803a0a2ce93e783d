-- The items of the five kinds, one kind after the other, are those of the bundle.
-- Assumes nothing.
use Prim.Native.Nat.{ℕ, zero, suc, ◌+◌}
use mathlib.Core.Path.{◌≡◌, refl, sym, ap, ◌∙◌}
use mathlib.Core.Bool.{Bool, true, false, cond}
use mathlib.Core.List.{List, [], ◌∷◌, ◌++◌}
use native.Mathlib.Omega.{arith}
use lib.Dec.{eqb}
use borrow.Author.Tests.{eqb-true}
use Rattle.std.specs.Prelude.{Ok, Err}
use Rattle.lists.specs.Lists.{cons_if, keep, through, total, self}
use Rattle.lists.proofs.Items.{through-append, tally-append}
use Rattle.rules.specs.Plain.{Plain}
use Rattle.rules.specs.Words.{Item, is_kind, items_written, bundle_whole, bundle_known, bundle_measured, bundle_items}
use Rattle.rules.specs.Outcome.{if_done, done}
use Rattle.rules.specs.Calls.{after_item, with_item, items_refusal, answered_by, bundle_refusal, after_bundle}
use Rattle.rules.proofs.Kept.{unless-refused}
use Rattle.types.specs.declared.refusal.Refusal.{Refusal}
use Rattle.types.specs.Refusals.{refusal_number}
use Rattle.words.specs.Bundle.{form_refusal}
use Rattle.ledger.specs.declared.Ledger.{Ledger}
use Rattle.ledger.specs.Contents.{contents, Held}
use Rattle.ledger.specs.Meets.{Meets, says_no}
use Rattle.ledger.proofs.Meeting.{lines_first, lines_pass, numbered, refuses, passes}
use Rattle.bundles.specs.Doing.{Did, AllItems}

-- two lists of items, one after the other
refusal-append : (is js : List Item) (p : Plain) → items_refusal (is ++ js) p ≡ if_done (items_refusal is p) (items_refusal js (through with_item is p)) (items_refusal is p)
refusal-append [] js p = refl
refusal-append (i ∷ is) js p = go (after_item i p).refused (items_refusal is (with_item i p)) (refusal-append is js (with_item i p))
  where
    go : (n r : ℕ) → items_refusal (is ++ js) (with_item i p) ≡ if_done r (items_refusal js (through with_item is (with_item i p))) r →
        if_done n (items_refusal (is ++ js) (with_item i p)) n ≡ if_done (if_done n r n) (items_refusal js (through with_item is (with_item i p))) (if_done n r n)
    go zero r e = e
    go (suc n) r e = refl

-- items of one kind answer nothing for another
others : (k q : ℕ) → eqb k q ≡ false → (is : List Item) (p : Plain) → answered_by q (keep (is_kind k) is) p ≡ 0
others k q h [] p = refl
others k q h (i ∷ is) p = go (is_kind k i) refl (others k q h is (with_item i p)) (others k q h is p)
  where
    here : eqb i.kind k ≡ true → cond (eqb i.kind q) (total self (after_item i p).answers) 0 ≡ 0
    here e = ap (λ b. cond b (total self (after_item i p).answers) 0) (ap (λ n. eqb n q) (eqb-true i.kind k e) ∙ h)

    go : (b : Bool) → eqb i.kind k ≡ b → answered_by q (keep (is_kind k) is) (with_item i p) ≡ 0 → answered_by q (keep (is_kind k) is) p ≡ 0 →
        answered_by q (cons_if b i (keep (is_kind k) is)) p ≡ 0
    go true e done same = omega (arith, here e, done)
    go false e done same = same

-- what each kind answered: nothing yet, and with one kind more
abbrev pub none_yet : ℕ → ℕ
none_yet q = 0

abbrev pub plus : (ℕ → ℕ) → ℕ → ℕ → ℕ → ℕ
plus a k count q = a q + cond (eqb k q) count 0

module _ (ws : List ℕ) where
  refused_by : (p : Plain) → (after_bundle ws p).refused ≡ bundle_refusal ws p
  unfolding after_bundle
  refused_by p = unless-refused (bundle_refusal ws p) p _ refl

  pub malformed : (r : Refusal) (p : Plain) (m : Ledger) → refusal_number r ≡ form_refusal ws → AllItems ws p (Err r) m
  unfolding form_refusal
  malformed r p m e =
      let n = numbered r in
      record {
        refused =
            n.1 ∙ sym (lines_first 10 9 10 (bundle_whole ws) (bundle_known ws) (bundle_measured ws) (items_refusal (bundle_items ws) p) n.0 (sym e ∙ n.1))
            ∙ sym (refused_by p);
        done = tt;
      }

  abbrev pub of_kind : ℕ → List Item
  of_kind k = keep (is_kind k) (items_written ws)

  -- from a kind on
  abbrev pub from_kind : ℕ → List Item → List Item
  from_kind k rest = of_kind k ++ rest

  -- what is still to come does to the ledger in hand what the bundle's items do to the one handed in; a says what each kind answered
  pub record Stage (rest : List Item) (p : Plain) (l : Ledger) (a : ℕ → ℕ) : Type 0 where
    pub held : Held l
    pub refusal : items_refusal (bundle_items ws) p ≡ items_refusal rest (contents l)
    pub state : through with_item (bundle_items ws) p ≡ through with_item rest (contents l)
    pub answered : (q : ℕ) → answered_by q (bundle_items ws) p ≡ a q + answered_by q rest (contents l)

  pub begun : (l : Ledger) → Held l → Stage (from_kind 1 (from_kind 2 (from_kind 3 (from_kind 4 (from_kind 5 []))))) (contents l) l none_yet
  unfolding bundle_items
  begun l h = record { held = h; refusal = refl; state = refl; answered = λ q. omega arith }

  module _ (f : form_refusal ws ≡ 0) (p : Plain) where
    by_items : bundle_refusal ws p ≡ items_refusal (bundle_items ws) p
    unfolding form_refusal
    by_items = lines_pass 10 9 10 (bundle_whole ws) (bundle_known ws) (bundle_measured ws) (items_refusal (bundle_items ws) p) f

    module _ (k : ℕ) (rest : List Item) (l : Ledger) (a : ℕ → ℕ) (v : Stage (from_kind k rest) p l a) (m : Ledger) where
      -- a kind is done
      pub kind_done : (count : ℕ) → Did k (of_kind k) (contents l) (Ok count) m → Stage rest p m (plus a k count)
      kind_done count d =
          let is = of_kind k in
          let now = contents l in
          let sum : (q : ℕ) → answered_by q (is ++ rest) now ≡ answered_by q is now + answered_by q rest (contents m) =
          λ q.
          tally-append with_item (λ i s. cond (is_kind q i) (total self (after_item i s).answers) 0) is rest now
          ∙ ap (λ s. answered_by q is now + answered_by q rest s) (sym d.done.holds) in
          record {
            held = d.done.held;
            refusal =
                v.refusal ∙ refusal-append is rest now ∙ ap (λ n. if_done n (items_refusal rest (through with_item is now)) n) (sym d.refused)
                ∙ ap (items_refusal rest) (sym d.done.holds);
            state = v.state ∙ through-append with_item is rest now ∙ ap (through with_item rest) (sym d.done.holds);
            answered = λ q. omega (arith, v.answered q, sum q, own q (eqb k q) refl);
          }
        where
          own : (q : ℕ) (b : Bool) → eqb k q ≡ b → answered_by q (of_kind k) (contents l) ≡ cond b count 0
          own q true e = ap (λ j. answered_by j (of_kind k) (contents l)) (sym (eqb-true k q e)) ∙ sym d.done.counted
          own q false e = others k q e (items_written ws) (contents l)

      -- one of a kind is refused
      pub kind_refused : (r : Refusal) → Did k (of_kind k) (contents l) (Err r) m → AllItems ws p (Err r) m
      kind_refused r d =
          let n = numbered r in
          let all : items_refusal (of_kind k ++ rest) (contents l) ≡ refusal_number r =
          refusal-append (of_kind k) rest (contents l)
          ∙ ap (λ n. if_done n (items_refusal rest (through with_item (of_kind k) (contents l))) n) (sym d.refused ∙ n.1) ∙ sym n.1 in
          record { refused = sym all ∙ sym v.refusal ∙ sym by_items ∙ sym (refused_by p); done = tt }

    -- all are done
    pub all_done : (l : Ledger) (a : ℕ → ℕ) → Stage [] p l a → (admitted rebuilt released : ℕ) → admitted ≡ a 4 → rebuilt ≡ a 2 → released ≡ a 3 →
        AllItems ws p (Ok (admitted ∷ rebuilt ∷ released ∷ [])) l
    unfolding after_bundle
    all_done l a v x y z e f g =
        let none = by_items ∙ v.refusal in
        let four : x ≡ answered_by 4 (bundle_items ws) p = omega (arith, e, v.answered 4) in
        let two : y ≡ answered_by 2 (bundle_items ws) p = omega (arith, f, v.answered 2) in
        let three : z ≡ answered_by 3 (bundle_items ws) p = omega (arith, g, v.answered 3) in
        record {
          refused = sym (refused_by p ∙ none);
          done =
              passes (bundle_refusal ws p) p _ [] [] _ none
              (rw (sym four, sym two, sym three) (record { refused = refl; answers = refl; ledger = sym v.state; wrote = refl; held = v.held }));
        }

-- a refused bundle leaves the ledger as it was
pub undone : (ws : List ℕ) (r : Refusal) (l m : Ledger) → Held l → AllItems ws (contents l) (Err r) m → Meets (after_bundle ws (contents l)) [] [] (says_no r l)
unfolding after_bundle
undone ws r l m h d = refuses r l [] (bundle_refusal ws (contents l)) _ h (sym (refused_by ws (contents l)) ∙ sym d.refused)

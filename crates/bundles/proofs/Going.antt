-- The items of a kind, one after the other: what those still to come do to the ledger in hand is what all do to the one handed in.
-- Assumes nothing.
use Prim.Native.Nat.{ℕ, ◌+◌, ◌*◌, ◌≤◌, ◌<◌}
use mathlib.Core.Path.{◌≡◌, refl, sym, ap, ◌∙◌}
use mathlib.Core.Bool.{Bool, true, false, cond}
use mathlib.Core.List.{List, [], ◌∷◌}
use native.Mathlib.Omega.{arith}
use lib.ListN.{length, get_or, drop}
use borrow.Author.Tests.{eq-eqb}
use Rattle.std.specs.Prelude.{Ok, Err}
use Rattle.lists.specs.Lists.{cons_if, keep, through, total, self}
use Rattle.lists.proofs.Cuts.{rest-none, part_length}
use Rattle.rules.specs.Plain.{Plain}
use Rattle.rules.specs.Words.{Item, is_kind, item_count, items_at, item_lengths, items_written}
use Rattle.rules.specs.Outcome.{Outcome, if_done}
use Rattle.rules.specs.Calls.{after_item, with_item, items_refusal, answered_by}
use Rattle.types.specs.declared.refusal.Refusal.{Refusal}
use Rattle.types.specs.Refusals.{refusal_number}
use Rattle.words.specs.Bundle.{form_refusal, item_of}
use Rattle.words.proofs.Bundles.{item_at, items-many, items_start, item_next, item_within, item_at_lem}
use Rattle.ledger.specs.declared.Ledger.{Ledger}
use Rattle.ledger.specs.Contents.{contents, Held}
use Rattle.ledger.specs.Meets.{Meets, saying, says_no}
use Rattle.ledger.proofs.Meeting.{numbered}
use Rattle.bundles.specs.Doing.{Did}
use Rattle.bundles.proofs.Answering.{item-few}

-- those of the kind from the i-th item on
abbrev pub coming : ℕ → List ℕ → ℕ → List Item
coming kind ws i = keep (is_kind kind) (drop i (items_written ws))

pub record Going (kind : ℕ) (ws : List ℕ) (p : Plain) (l : Ledger) (start count i : ℕ) : Type 0 where
  pub reach : start + total self (drop i (item_lengths ws)) ≡ length ws
  pub held : Held l
  pub few : count ≤ 48 * i
  pub refusal : items_refusal (coming kind ws i) (contents l) ≡ items_refusal (coming kind ws 0) p
  pub state : through with_item (coming kind ws i) (contents l) ≡ through with_item (coming kind ws 0) p
  pub sum : count + answered_by kind (coming kind ws i) (contents l) ≡ answered_by kind (coming kind ws 0) p

module _ (kind : ℕ) (ws : List ℕ) (f : form_refusal ws ≡ 0) where
  -- before the first
  pub going : (l : Ledger) (start : ℕ) → Held l → start ≡ items_at ws → Going kind ws (contents l) l start 0 0
  going l start h e = record { reach = rw e (items_start ws f); held = h; few = omega arith; refusal = refl; state = refl; sum = omega arith }

  -- after the last
  pub gone : (p : Plain) (l : Ledger) (start count i : ℕ) → Going kind ws p l start count i → item_count ws ≤ i → Did kind (coming kind ws 0) p (Ok count) l
  gone p l start count i v h =
      let none : coming kind ws i ≡ [] = ap (keep (is_kind kind)) (rest-none (items_written ws) i (omega (arith, h, items-many ws f))) in
      record {
        refused = sym (ap (λ is. items_refusal is (contents l)) none) ∙ v.refusal;
        done =
            record {
              held = v.held;
              holds = sym (ap (λ is. through with_item is (contents l)) none) ∙ v.state;
              counted = omega (arith, v.sum, ap (λ is. answered_by kind is (contents l)) none);
            };
      }

  -- a turn: the i-th item starts at a place
  module _ (p : Plain) (l : Ledger) (start count i : ℕ) (v : Going kind ws p l start count i) (h : i < item_count ws) where
    abbrev here : Item
    here = item_at ws i start

    split : (b : Bool) → is_kind kind here ≡ b → coming kind ws i ≡ cons_if b here (coming kind ws (i + 1))
    split b e = ap (keep (is_kind kind)) (item_at_lem ws f i start h v.reach) ∙ ap (λ b. cons_if b here (coming kind ws (i + 1))) e

    -- its words
    module _ (own : List ℕ) (e : own ≡ here.words) where
      reach-on : start + length own + total self (drop (i + 1) (item_lengths ws)) ≡ length ws
      reach-on = omega (arith, ap length e, part_length start (get_or (item_lengths ws) i 0) ws (item_within ws f i start h v.reach), item_next ws f i start h v.reach)

    -- of another kind
    pub passed_by : (own : List ℕ) → own ≡ here.words → is_kind kind here ≡ false → Going kind ws p l (start + length own) count (i + 1)
    passed_by own e q =
        let s = split false q in
        record {
          reach = reach-on own e;
          held = v.held;
          few = omega (arith, v.few);
          refusal = sym (ap (λ is. items_refusal is (contents l)) s) ∙ v.refusal;
          state = sym (ap (λ is. through with_item is (contents l)) s) ∙ v.state;
          sum = omega (arith, v.sum, ap (λ is. answered_by kind is (contents l)) s);
        }

    -- of the kind
    module _ (own : List ℕ) (q : item_of kind own ≡ here) where
      is_own : is_kind kind here ≡ true
      is_own = sym (ap (is_kind kind) q) ∙ eq-eqb kind kind refl

      next : coming kind ws i ≡ here ∷ coming kind ws (i + 1)
      next = split true is_own

      pub turned_away : (r : Refusal) (m : Ledger) → Meets (after_item (item_of kind own) (contents l)) [] [] (says_no r m) → Did kind (coming kind ws 0) p (Err r) m
      turned_away r m w =
          let n = numbered r in
          let o : (after_item here (contents l)).refused ≡ refusal_number r = ap (λ x. (after_item x (contents l)).refused) (sym q) ∙ sym w.refused in
          let all : items_refusal (coming kind ws i) (contents l) ≡ refusal_number r =
          ap (λ is. items_refusal is (contents l)) next
          ∙ ap (λ k. if_done k (items_refusal (coming kind ws (i + 1)) (with_item here (contents l))) k) (o ∙ n.1) ∙ sym n.1 in
          record { refused = sym all ∙ v.refusal; done = tt }

      module _ (ns : List ℕ) (m : Ledger) (w : Meets (after_item (item_of kind own) (contents l)) [] [] (saying (Ok ns) m)) where
        abbrev o : Outcome
        o = after_item here (contents l)

        first : get_or ns 0 0 ≡ get_or o.answers 0 0
        first = ap (λ l. get_or l 0 0) w.answers ∙ ap (λ x. get_or (after_item x (contents l)).answers 0 0) q

        pub answer-few : get_or ns 0 0 ≤ 48
        answer-few = omega (arith, first, (item-few here (contents l)).small)

        pub taken : Going kind ws p m (start + length own) (count + get_or ns 0 0) (i + 1)
        taken =
            let rest = coming kind ws (i + 1) in
            let none : o.refused ≡ 0 = ap (λ x. (after_item x (contents l)).refused) (sym q) ∙ sym w.refused in
            let led : contents m ≡ with_item here (contents l) = w.ledger ∙ ap (λ x. with_item x (contents l)) q in
            record {
              reach = reach-on own (ap (λ (x : Item). x.words) q);
              held = w.held;
              few = omega (arith, v.few, answer-few);
              refusal =
                  ap (items_refusal rest) led ∙ sym (ap (λ k. if_done k (items_refusal rest (with_item here (contents l))) k) none)
                  ∙ sym (ap (λ is. items_refusal is (contents l)) next) ∙ v.refusal;
              state = ap (through with_item rest) led ∙ sym (ap (λ is. through with_item is (contents l)) next) ∙ v.state;
              sum =
                  omega (
                    arith,
                    v.sum,
                    first,
                    (item-few here (contents l)).single,
                    ap (answered_by kind rest) led,
                    ap (λ is. answered_by kind is (contents l)) next,
                    ap (λ b. cond b (total self o.answers) 0) is_own,
                  );
            }

-- A prune's numbers in front of its reports.
-- Assumes nothing.
use Prim.Native.Nat.{ℕ, zero, suc, ◌+◌, ◌*◌, ◌≤◌}
use mathlib.Core.Path.{◌≡◌, refl, sym, ap, ap₂, ◌∙◌}
use mathlib.Core.List.{List, [], ◌∷◌, ◌++◌, append_assoc}
use native.Mathlib.Omega.{arith}
use borrow.Rule.Slice.PartMut.{mid_of, put_mid, post_of}
use lib.ListN.{length, take, drop, get_or, set, length-append, length-take}
use lib.Seq.{take_at}
use Rattle.std.specs.Prelude.{Ok}
use Rattle.lists.specs.Lists.{concat_map}
use Rattle.lists.proofs.Listing.{length-words}
use Rattle.rules.specs.Plain.{Plain}
use Rattle.rules.specs.Prune.{report_words, fallen, reports, pruned}
use Rattle.rules.specs.Outcome.{Outcome, if_done}
use Rattle.rules.specs.Calls.{prune_refusal, after_prune}
use Rattle.rules.proofs.Kept.{unless-refused, unless-none}
use Rattle.ledger.specs.declared.Ledger.{Ledger}
use Rattle.ledger.specs.Meets.{Meets, saying}
use Rattle.hosts.specs.Hosts.{Tells}

abbrev pruned_by : ℕ → Plain → Outcome
pruned_by t p =
    record {
      refused = 0;
      answers = length (reports t p) ∷ length (fallen t p) ∷ [];
      ledger = pruned t p;
      words = concat_map report_words (reports t p);
    }

-- a prune that is not refused goes through
gone_through : (t room : ℕ) (p : Plain) → (after_prune t room p).refused ≡ 0 → after_prune t room p ≡ pruned_by t p
unfolding after_prune
gone_through t room p e =
    unless-none (prune_refusal t room p) p (pruned_by t p) (sym (unless-refused (prune_refusal t room p) p (pruned_by t p) refl) ∙ e)

module _ (t : ℕ) (p : Plain) (lent after ns : List ℕ) (l : Ledger) (m : Meets (after_prune t (length lent) p) lent after (saying (Ok ns) l)) where
  through : after_prune t (length lent) p ≡ pruned_by t p
  through = gone_through t (length lent) p (sym m.refused)

  words : List ℕ
  words = concat_map report_words (reports t p)

  count : get_or ns 0 0 ≡ length (reports t p)
  count = ap (λ a. get_or a 0 0) (m.answers ∙ ap (λ (o : Outcome). get_or o.answers 0 0 ∷ get_or o.answers 1 0 ∷ get_or o.answers 2 0 ∷ []) through)

  second : get_or ns 1 0 ≡ length (fallen t p)
  second = ap (λ a. get_or a 1 0) (m.answers ∙ ap (λ (o : Outcome). get_or o.answers 0 0 ∷ get_or o.answers 1 0 ∷ get_or o.answers 2 0 ∷ []) through)

  lies : after ≡ concat_map report_words (reports t p) ++ drop (length (concat_map report_words (reports t p))) lent
  lies = m.wrote ∙ ap (λ (o : Outcome). o.words ++ drop (length o.words) lent) through

  size : length (concat_map report_words (reports t p)) ≡ 3 * get_or ns 0 0
  size = length-words report_words 3 (λ r. refl) (reports t p) ∙ ap (λ n. 3 * n) (sym count)

  pub reports_fit : length after ≡ length lent → 3 * get_or ns 0 0 ≤ length lent
  reports_fit h = omega (arith, size, h, ap length lies, length-append (concat_map report_words (reports t p)) (drop (length (concat_map report_words (reports t p))) lent))

  pub tells : (x y : ℕ) (rest : List ℕ) → length lent ≡ 144 → length after ≡ length lent →
      Tells (after_prune t 144 p) (get_or ns 0 0 ∷ get_or ns 1 0 ∷ (after ++ rest)) l (Ok (2 + 3 * get_or ns 0 0))
  tells x y rest h k =
      let o = ap (λ n. after_prune t n p) (sym h) ∙ through in
      let next : 2 + 3 * get_or ns 0 0 ≡ suc (suc (3 * get_or ns 0 0)) = omega arith in
      let front : take (3 * get_or ns 0 0) (after ++ rest) ≡ concat_map report_words (reports t p) =
      ap (λ a. take (3 * get_or ns 0 0) (a ++ rest)) lies
      ∙ ap (take (3 * get_or ns 0 0)) (append_assoc (concat_map report_words (reports t p)) (drop (length (concat_map report_words (reports t p))) lent) rest)
      ∙ take_at (concat_map report_words (reports t p)) _ (3 * get_or ns 0 0) size in
      record {
        refused = ap (λ (q : Outcome). q.refused) (sym o);
        ledger = m.ledger ∙ ap (λ (q : Outcome). q.ledger) (through ∙ sym o);
        held = m.held;
        told = (
          omega (arith, reports_fit k, k, length-append after rest),
          ap (λ n. take n (get_or ns 0 0 ∷ get_or ns 1 0 ∷ (after ++ rest))) next
              ∙ ap (λ a. get_or ns 0 0 ∷ get_or ns 1 0 ∷ a) front
              ∙ ap₂ (λ a b. a ∷ b ∷ concat_map report_words (reports t p)) count second
              ∙ ap (λ (q : Outcome). q.answers ++ q.words) (sym o),
        );
      }

-- the same where the reports were put behind the first two words of a list
pub tells_behind : (t : ℕ) (p : Plain) (told after ns : List ℕ) (l : Ledger) → length told ≡ 146 → length after ≡ length (mid_of 2 144 told) →
    Meets (after_prune t (length (mid_of 2 144 told)) p) (mid_of 2 144 told) after (saying (Ok ns) l) →
    Tells (after_prune t 144 p) (set (set (put_mid 2 144 told after) 0 (get_or ns 0 0)) 1 (get_or ns 1 0)) l (Ok (2 + 3 * get_or ns 0 0))
tells_behind t p [] after ns l h k m = absurd (omega (arith, h))
tells_behind t p (x ∷ []) after ns l h k m = absurd (omega (arith, h))
tells_behind t p (x ∷ y ∷ told) after ns l h k m =
    tells t p (mid_of 2 144 (x ∷ y ∷ told)) after ns l m x y (post_of 2 144 (x ∷ y ∷ told)) (length-take 144 told ∙ omega (arith, h)) k

-- a refusal of the reading comes first
pub refused_first : (x y : ℕ) → 1 ≤ x → if_done x y x ≡ x
refused_first zero y h = absurd (omega (arith, h))
refused_first (suc n) y h = refl

pub then_done : (x y : ℕ) → x ≡ 0 → if_done x y x ≡ y
then_done x y e = rw e refl

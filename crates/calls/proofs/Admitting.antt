-- Admission: what each line of its table and each branch after it gives, from what the parts did.
-- Assumes nothing.
use Rattle.std.specs.Prelude.{Option, Some, None}
use Prim.Native.Nat.{ℕ, ◌-◌, ◌≤◌, ◌<◌}
use mathlib.Core.Path.{◌≡◌, refl, sym, ap, ◌∙◌}
use mathlib.Core.Bool.{Bool, true, false, not, true≢false}
use mathlib.Core.List.{List, [], ◌∷◌}
use native.Mathlib.Omega.{arith}
use lib.Dec.{eqb, leb}
use lib.ListN.{length, set}
use borrow.Author.Tests.{lt-ltb, le-ltb, ltb-true, le-leb, lt-leb, leb-true}
use Rattle.lists.specs.Lists.{Every, has, include, include_all}
use Rattle.lists.specs.Arrays.{place, rank}
use Rattle.lists.proofs.Tests.{by_cond, same_test}
use Rattle.lists.proofs.Parts.{every_get_d}
use Rattle.lists.proofs.Order.{include-known, length-include_new}
use Rattle.rules.specs.Numbers.{is_word}
use Rattle.rules.specs.Plain.{Plain, transaction_of, with_entries, owed}
use Rattle.rules.specs.Words.{decomposed, admission_terms, admission_formed, admission_timed, admission_placed}
use Rattle.rules.specs.Entries.{admitted}
use Rattle.rules.specs.Index.{pair_key, pairs_of, index}
use Rattle.rules.specs.Outcome.{Outcome, done, ◌gives◌then◌, yes_no}
use Rattle.rules.specs.Calls.{admission, no_room_for, admission_refusal, after_admission}
use Rattle.rules.specs.Good.{Holds}
use Rattle.rules.proofs.Kept.{step-good}
use Rattle.rules.proofs.Named.{IsOfWord, index-size, good-words}
use Rattle.rules.proofs.Reindex.{index_of-include}
use Rattle.types.specs.declared.refusal.Refusal.{Refusal}
use Rattle.types.specs.declared.refusal.Refusal.TheVariants.{EntriesFull}
use Rattle.types.specs.Refusals.{refusal_number}
use Rattle.types.specs.Transactions.{number_of}
use Rattle.entry.specs.declared.Entry.{Entry}
use Rattle.entry.specs.Entry.{plain_entry, Means}
use Rattle.store.specs.declared.roster.Roster.{Roster}
use Rattle.store.specs.declared.issuers.Issuers.{Issuers}
use Rattle.store.specs.Roster.{keys_of, free_slot, is, below, Inserted}
use Rattle.store.specs.Issuers as issuers
use Rattle.ledger.specs.declared.Ledger.{Ledger}
use Rattle.ledger.specs.Contents.{contents, Held, Became, with_parts}
use Rattle.ledger.specs.Meets.{Meets, says, says_no}
use Rattle.ledger.proofs.Places.{entries-length, found_at, not_found}
use Rattle.ledger.proofs.Lift.{taken_in}
use Rattle.ledger.proofs.Meeting.{lines, lines_first, lines_pass, numbered, refuses, passes, answers, good-after}
use Rattle.calls.specs.Naming.{Nameable, with_pairs, Enters}
use Rattle.calls.specs.Refusals.{words_refusal}

lines_none : (a b c : Bool) (m : ℕ) → lines 4 2 3 a b c m ≡ 0 → (a ≡ true) × (m ≡ 0)
lines_none false b c m e = absurd (omega arith)
lines_none true false c m e = absurd (omega arith)
lines_none true true false m e = absurd (omega arith)
lines_none true true true m e = (refl, e)

-- An entry of a transaction that is not owed put in.
module _ (l : Ledger) (x : Entry) (e : Enters x l) where
  abbrev key : ℕ
  key = number_of x.tx

  abbrev more : Plain
  more = with_entries (include transaction_of (plain_entry x) (contents l).entries) (contents l)

  fresh : (f : Option ℕ) → place (is key) 0 (keys_of l.roster) ≡ f → place (is key) 0 (keys_of l.roster) ≡ None
  fresh None q = q
  fresh (Some k) q = absurd (true≢false (sym (found_at l e.held key k q).known ∙ e.unknown))

  missed : place (is key) 0 (keys_of l.roster) ≡ None
  missed = fresh _ refl

  pub free : l.roster.len < 48
  unfolding contents plain_entry
  free = omega (arith, entries-length l e.held, length-include_new transaction_of (plain_entry x) (contents l).entries e.unknown, e.good.entries.count)

  word : IsOfWord (plain_entry x)
  unfolding plain_entry
  word = e.word

  -- there is room for its pairs
  pub nameable : Nameable l.issuers x l.local.0
  unfolding index contents plain_entry
  nameable =
      let pairs : index more ≡ with_pairs l.local.0 x l.issuers =
      index_of-include l.local.0 (plain_entry x) (contents l).entries word (good-words e.held.good) e.unknown
      ∙ ap (include_all pair_key (pairs_of l.local.0 (plain_entry x))) (sym e.held.issuers.pairs) in
      omega (arith, ap length pairs, index-size more e.good)

  pub enters_in : (k : ℕ) → k ≡ rank (below key) (keys_of l.roster) → (b : Roster) → Inserted l.roster k key b → (y : Issuers) → issuers.Holds (with_pairs l.local.0 x l.issuers) y →
      (s : length (set l.entries (free_slot l.roster) x) ≡ 48) → Became more (with_parts l l.counts b (set l.entries (free_slot l.roster) x) y l.departures s)
  enters_in k v b op y i s =
      taken_in l e.held k x b y missed v free word op
      (record { pairs = i.pairs ∙ ap (include_all pair_key (pairs_of l.local.0 (plain_entry x))) e.held.issuers.pairs }) e.good s

pub admitted-transaction : (local : ℕ) (ws : List ℕ) → transaction_of (admitted local ws) ≡ (admission_terms ws).transaction
unfolding admitted
admitted-transaction local ws = by_cond (λ e. transaction_of e ≡ (admission_terms ws).transaction) (eqb (decomposed ws) 0) _ _ (λ _. refl) (λ _. refl)

module _ (l : Ledger) (h : Held l) (ws : List ℕ) where
  abbrev t : ℕ
  t = (admission_terms ws).transaction

  abbrev o : Outcome
  o = done (yes_no (not (owed t (contents l))) ∷ []) (with_entries (include transaction_of (admitted (contents l).local ws) (contents l).entries) (contents l))

  count : length (contents l).entries ≡ l.roster.len
  unfolding contents
  count = entries-length l h

  room_known : (k : ℕ) → place (is t) 0 (keys_of l.roster) ≡ Some k → no_room_for (t ∷ []) (contents l) ≡ false
  room_known k q = rw ((found_at l h t k q).known, le-ltb (48 - length (contents l).entries) 0 (omega arith))

  room_new : place (is t) 0 (keys_of l.roster) ≡ None → no_room_for (t ∷ []) (contents l) ≡ leb 48 l.roster.len
  room_new q =
      rw (not_found l h t q).known
      (same_test _ _
      (λ a. le-leb 48 l.roster.len (omega (arith, count, ltb-true (48 - length (contents l).entries) 1 a)))
      (λ b. lt-ltb (48 - length (contents l).entries) 1 (omega (arith, count, leb-true 48 l.roster.len b))))

  pub turned_away : (r : Refusal) → refusal_number r ≡ words_refusal ws → Meets (after_admission ws (contents l)) [] [] (says_no r l)
  unfolding after_admission
  turned_away r e =
      let n = numbered r in
      refuses r l [] (admission_refusal ws (contents l)) _ h (lines_first 4 2 3 (admission_formed ws) (admission_timed ws) (admission_placed ws) _ n.0 (sym e ∙ n.1) ∙ sym n.1)

  -- where the words are allowed, the room decides
  module _ (z : 0 ≡ words_refusal ws) where
    pub is_formed : admission_formed ws ≡ true
    is_formed = (lines_none (admission_formed ws) (admission_timed ws) (admission_placed ws) 0 (sym z)).0

    last_line : (b : Bool) → no_room_for (t ∷ []) (contents l) ≡ b → admission_refusal ws (contents l) ≡ (b gives 6 then 0)
    last_line b e =
        lines_pass 4 2 3 (admission_formed ws) (admission_timed ws) (admission_placed ws) (no_room_for (t ∷ []) (contents l) gives 6 then 0) (sym z)
        ∙ ap (λ c. c gives 6 then 0) e

    -- owed already
    pub skipped : (k : ℕ) → place (is t) 0 (keys_of l.roster) ≡ Some k → Meets (after_admission ws (contents l)) [] [] (says 0 l)
    unfolding after_admission
    skipped k u =
        let known = (found_at l h t k u).known in
        let stands : has transaction_of (transaction_of (admitted (contents l).local ws)) (contents l).entries ≡ true = rw (admitted-transaction (contents l).local ws) known in
        let kept = include-known transaction_of (admitted (contents l).local ws) (contents l).entries h.good.entries.rows.order stands in
        passes (admission_refusal ws (contents l)) (contents l) o [] [] _ (last_line false (room_known k u))
        (rw (known, kept) (answers 0 l (contents l) (says 0 l) (record { held = h; holds = refl }) refl))

    module _ (u : place (is t) 0 (keys_of l.roster) ≡ None) where
      pub full : 48 ≤ l.roster.len → Meets (after_admission ws (contents l)) [] [] (says_no EntriesFull l)
      unfolding after_admission
      full f = refuses EntriesFull l [] (admission_refusal ws (contents l)) _ h (last_line true (room_new u ∙ le-leb 48 l.roster.len f))

      module _ (free : l.roster.len < 48) where
        fits : admission_refusal ws (contents l) ≡ 0
        fits = last_line false (room_new u ∙ lt-leb 48 l.roster.len free)

        module _ (x : Entry) (m : Means (admitted l.local.0 ws) x) (w : Every (Holds is_word) ws) where
          plain : plain_entry x ≡ admitted (contents l).local ws
          unfolding contents
          plain = m.plain

          same : number_of x.tx ≡ t
          unfolding plain_entry
          same = ap transaction_of plain ∙ admitted-transaction (contents l).local ws

          pub enters : Enters x l
          unfolding after_admission admission_terms
          enters =
              record {
                held = h;
                word = rw same (every_get_d (Holds is_word) 0 3 ws refl w);
                unknown = rw same (not_found l h t u).known;
                good = rw plain (good-after (admission_refusal ws (contents l)) (contents l) o fits (step-good (admission ws) w (contents l) h.good));
              }

          pub admits : (r : Ledger) → Became (with_entries (include transaction_of (plain_entry x) (contents l).entries) (contents l)) r → Meets (after_admission ws (contents l)) [] [] (says 1 r)
          unfolding after_admission
          admits r b =
              passes (admission_refusal ws (contents l)) (contents l) o [] [] _ fits
              (rw ((not_found l h t u).known, ← plain) (answers 1 _ _ _ b refl))

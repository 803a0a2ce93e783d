-- Closes: what a turn of each of its loops leaves, and what its branches give, from what the parts did.
-- Assumes nothing.
use Prim.Native.Nat.{ℕ, ◌+◌, ◌*◌, ◌≤◌, ◌<◌}
use mathlib.Core.Path.{◌≡◌, refl, sym, ap, ◌∙◌}
use mathlib.Core.Bool.{Bool, true, false, cond, not}
use mathlib.Core.List.{List, [], ◌∷◌, ◌++◌, map}
use native.Mathlib.Omega.{arith}
use native.Mathlib.Numerals.{add-two}
use borrow.Author.Tests.{lt-ltb, le-ltb}
use lib.ListN.{length, take, drop, get_or, set, length-set}
use lib.Seq.{sets}
use Rattle.std.specs.Int.{from_bool}
use Rattle.lists.specs.Lists.{cons_if, keep, concat_map}
use Rattle.lists.proofs.Keep.{length-keep}
use Rattle.lists.proofs.Listing.{sets_front}
use Rattle.lists.proofs.Loops.{rest-cons}
use Rattle.lists.proofs.Counting.{fill_next}
use Rattle.rules.specs.Plain as plain
use Rattle.rules.specs.Plain.{transaction_of, with_entries}
use Rattle.rules.specs.Entries.{is_closed, closing_decision}
use Rattle.rules.specs.Outcome.{Outcome}
use Rattle.rules.specs.Calls as calls
use Rattle.rules.specs.Calls.{close_words, closes_refusal, after_closes}
use Rattle.rules.specs.Good.{Good}
use Rattle.rules.proofs.Kept.{step-good}
use Rattle.types.specs.declared.refusal.Refusal.TheVariants.{ListShort}
use Rattle.entry.specs.declared.Entry.{Entry}
use Rattle.entry.specs.Entry.{plain_entry}
use Rattle.store.specs.declared.roster.Roster.{Roster}
use Rattle.store.specs.declared.issuers.Issuers.{Issuers}
use Rattle.store.specs.Roster.{keys_of, Retained}
use Rattle.store.specs.Issuers as issuers
use Rattle.store.specs.Issuers.{pairs_in}
use Rattle.ledger.specs.declared.Ledger.{Ledger}
use Rattle.ledger.specs.Contents.{entries_of, contents, Held, with_parts, lying_at, Became}
use Rattle.ledger.specs.Meets.{Meets, says, says_no}
use Rattle.ledger.proofs.Places.{entries-length, entry_at}
use Rattle.ledger.proofs.Lift.{with_rows, kept-rows}
use Rattle.ledger.proofs.Meeting.{refuses, passes, good-after}
use Rattle.sweeps.specs.declared.closes.Closing.{Closing}
use Rattle.store.specs.Leaving.{unnamed_by}
use Rattle.sweeps.specs.Closing.{listed_by, stays_open, Judges, listed}
use Rattle.sweeps.proofs.Several.{unnamed_index}

-- The entries judged: those before i are, by their flags; those from i on are still to come.
pub record Judging (l : Ledger) (stay : List Bool) (count i : ℕ) : Type 0 where
  pub high : i ≤ l.roster.len
  pub few : count ≤ i
  pub stay_length : length stay ≡ 48
  pub flags : take i stay ≡ map (stays_open l.local.0) (take i (entries_of l))
  pub total : count + length (keep (is_closed l.local.0) (drop i (entries_of l))) ≡ length (keep (is_closed l.local.0) (entries_of l))

module _ (l : Ledger) (h : Held l) (i : ℕ) (q : i < l.roster.len) (d : Entry) where
  abbrev here : Entry
  here = lying_at l i d

  cons : drop i (entries_of l) ≡ plain_entry here ∷ drop (i + 1) (entries_of l)
  cons = (entry_at l h i q).next d

module _ (l : Ledger) (h : Held l) (stay : List Bool) (count i : ℕ) (v : Judging l stay count i) (q : i < l.roster.len) (d : Entry) where
  stay_on : (b : Bool) → b ≡ not (is_closed l.local.0 (plain_entry (here l h i q d))) → take (i + 1) (set stay i b) ≡ map (stays_open l.local.0) (take (i + 1) (entries_of l))
  stay_on b e =
      fill_next (stays_open l.local.0) stay (entries_of l) i (plain_entry (here l h i q d)) b (omega (arith, v.stay_length, q, l.roster.room)) (omega (arith, entries-length l h)) (cons l h i q d) e v.flags

  pub judge_next : (b : Bool) → b ≡ is_closed l.local.0 (plain_entry (here l h i q d)) → Judging l (set stay i (not b)) (count + from_bool b) (i + 1)
  judge_next b e =
      record {
        high = omega arith;
        few = omega (arith, v.few, at_most_one b);
        stay_length = length-set stay i (not b) ∙ v.stay_length;
        flags = stay_on (not b) (ap not e);
        total = one_more b (rw (cons l h i q d, sym e) at v.total);
      }
    where
      rest : List plain.Entry
      rest = keep (is_closed l.local.0) (drop (i + 1) (entries_of l))

      at_most_one : (b : Bool) → from_bool b ≤ 1
      at_most_one true = omega arith
      at_most_one false = omega arith

      one_more : (b : Bool) → count + length (cons_if b (plain_entry (here l h i q d)) rest) ≡ length (keep (is_closed l.local.0) (entries_of l)) →
          count + from_bool b + length rest ≡ length (keep (is_closed l.local.0) (entries_of l))
      one_more true h = omega (arith, h)
      one_more false h = omega (arith, h)

-- Those listed: what is to come at i.
abbrev pub listing : Ledger → List Bool → ℕ → List ℕ
listing l stay i = listed_by (drop i (take l.roster.len stay)) (drop i (keys_of l.roster)) (map closing_decision (drop i (entries_of l)))

pub record Listing (l : Ledger) (stay : List Bool) (lent₀ lent : List ℕ) (at i : ℕ) : Type 0 where
  pub high : i ≤ l.roster.len
  pub small : at ≤ 2 * i
  pub same : length lent ≡ length lent₀
  pub rest : sets lent at (listing l stay i) ≡ sets lent₀ 0 (listed l stay)
  pub size : at + length (listing l stay i) ≡ length (listed l stay)

some_entry : (es : List Entry) → length es ≡ 48 → Entry
some_entry [] h = absurd (omega arith)
some_entry (e ∷ es) h = e

module _ (l : Ledger) (h : Held l) (stay : List Bool) (lent₀ lent : List ℕ) (at i : ℕ) (v : Listing l stay lent₀ lent at i) (k : l.roster.len ≤ length stay) where
  module _ (q : i < l.roster.len) (d : Entry) where
    next : listing l stay i ≡ cond (get_or stay i false) (listing l stay (i + 1)) (get_or l.roster.keys i 0 ∷ closing_decision (plain_entry (here l h i q d)) ∷ listing l stay (i + 1))
    next = rw (rest-cons false stay i l.roster.len q k, rest-cons 0 l.roster.keys i l.roster.len q (omega (arith, l.roster.room, l.roster.lengths.0)), cons l h i q d)

    pub list_one : (code : ℕ) (put : List ℕ) → get_or stay i false ≡ false → put ≡ sets lent at (get_or l.roster.keys i 0 ∷ code ∷ []) → code ≡ closing_decision (plain_entry (here l h i q d)) →
        Listing l stay lent₀ put (at + 2) (i + 1)
    list_one code put t w c =
        let e : listing l stay i ≡ get_or l.roster.keys i 0 ∷ code ∷ listing l stay (i + 1) = next ∙ rw (t, c) in
        record {
          high = omega arith;
          small = omega (arith, v.small);
          same = rw w (simp length-set v.same);
          rest = rw (w, add-two) (rw e at v.rest);
          size = omega (arith, rw e at v.size);
        }

  pub list_none : i < l.roster.len → get_or stay i false ≡ true → Listing l stay lent₀ lent at (i + 1)
  list_none q t =
      let e : listing l stay i ≡ listing l stay (i + 1) = next q (some_entry l.entries l.slots) ∙ rw t in
      record { high = omega arith; small = omega (arith, v.small); same = v.same; rest = rw e at v.rest; size = rw e at v.size }

  -- one more line has room
  pub list_room : i < l.roster.len → get_or stay i false ≡ false → at + 2 ≤ length (listed l stay)
  list_room q t =
      let d = some_entry l.entries l.slots in
      let e : listing l stay i ≡ get_or l.roster.keys i 0 ∷ closing_decision (plain_entry (here l h i q d)) ∷ listing l stay (i + 1) = next q d ∙ rw t in
      omega (arith, v.size, ap length e)

-- the words of those that close
listed-closed : (local : ℕ) (es : List plain.Entry) →
    listed_by (map (stays_open local) es) (map transaction_of es) (map closing_decision es) ≡ concat_map close_words (keep (is_closed local) es)
listed-closed local [] = refl
listed-closed local (e ∷ es) = go (is_closed local e) (listed-closed local es)
  where
    go : (b : Bool) → listed_by (map (stays_open local) es) (map transaction_of es) (map closing_decision es) ≡ concat_map close_words (keep (is_closed local) es) →
        cond (not b) (listed_by (map (stays_open local) es) (map transaction_of es) (map closing_decision es)) (transaction_of e ∷ closing_decision e ∷ listed_by (map (stays_open local) es) (map transaction_of es) (map closing_decision es))
        ≡ concat_map close_words (cons_if b e (keep (is_closed local) es))
    go true ih = ap (λ m. transaction_of e ∷ closing_decision e ∷ m) ih
    go false ih = ih

words-length : (es : List plain.Entry) → length (concat_map close_words es) ≡ 2 * length es
words-length [] = refl
words-length (e ∷ es) = omega (arith, words-length es)

module _ (l : Ledger) (h : Held l) (lent : List ℕ) (c : Closing) (j : Judges l c) where
  words_of : listed l c.stay ≡ concat_map close_words (calls.closed (contents l))
  unfolding contents
  words_of = rw (j.stay, h.keyed) (listed-closed l.local.0 (entries_of l))

  answer_of : c.count ≡ length (calls.closed (contents l))
  unfolding contents
  answer_of = j.count

  pub count-few : c.count ≤ 48
  count-few = omega (arith, j.count, length-keep (is_closed l.local.0) (entries_of l), entries-length l h, l.roster.room)

  pub listed-length : length (listed l c.stay) ≡ 2 * c.count
  listed-length = ap length words_of ∙ words-length (calls.closed (contents l)) ∙ ap (λ n. 2 * n) (sym answer_of)

  pub closes_short : length lent < 2 * c.count → Meets (after_closes (length lent) (contents l)) lent lent (says_no ListShort l)
  unfolding after_closes
  closes_short q =
      refuses ListShort l lent (closes_refusal (length lent) (contents l)) _ h
      (rw (lt-ltb (length lent) (length (concat_map close_words (calls.closed (contents l)))) (omega (arith, q, ap length words_of, listed-length))))

  kept_open : (r : Roster) → Retained l.roster (take l.roster.len c.stay) r → (x : Issuers) →
      issuers.Holds (unnamed_by (take l.roster.len c.stay) (keys_of l.roster) (pairs_in l.issuers)) x →
      Good (with_entries (keep (λ e. not (is_closed (contents l).local e)) (contents l).entries) (contents l)) →
      (z : length l.entries ≡ 48) →
      Became (with_entries (keep (λ e. not (is_closed (contents l).local e)) (contents l).entries) (contents l)) (with_parts l l.counts r l.entries x l.departures z)
  unfolding contents
  kept_open r k x i g z =
      with_rows l h _ r l.entries x
      (kept-rows l h (stays_open l.local.0) (take l.roster.len c.stay) r x j.stay k
      (unnamed_index (stays_open l.local.0) l h (take l.roster.len c.stay) x j.stay i)) g z

  pub closes-done : 2 * c.count ≤ length lent → (r : Roster) → Retained l.roster (take l.roster.len c.stay) r → (x : Issuers) →
      issuers.Holds (unnamed_by (take l.roster.len c.stay) (keys_of l.roster) (pairs_in l.issuers)) x → (after : List ℕ) → after ≡ sets lent 0 (listed l c.stay) →
      (z : length l.entries ≡ 48) → Meets (after_closes (length lent) (contents l)) lent after (says c.count (with_parts l l.counts r l.entries x l.departures z))
  unfolding after_closes
  closes-done q r k x i after w z =
      let p = contents l in
      let o : Outcome = record { refused = 0; answers = length (calls.closed p) ∷ []; ledger = with_entries (keep (λ e. not (is_closed p.local e)) p.entries) p; words = concat_map close_words (calls.closed p) } in
      let none : closes_refusal (length lent) p ≡ 0 = rw (le-ltb (length lent) (length (concat_map close_words (calls.closed p))) (omega (arith, q, ap length words_of, listed-length))) in
      let g = good-after (closes_refusal (length lent) p) p o none (step-good (calls.closes (length lent)) tt p h.good) in
      let b = kept_open r k x i g z in
      passes (closes_refusal (length lent) p) p o lent after _ none
      (record {
        refused = refl;
        answers = ap (λ n. n ∷ 0 ∷ 0 ∷ []) answer_of;
        ledger = b.holds;
        wrote = w ∙ sets_front lent (listed l c.stay) (omega (arith, q, listed-length)) ∙ ap (λ m. m ++ drop (length m) lent) words_of;
        held = b.held;
      })

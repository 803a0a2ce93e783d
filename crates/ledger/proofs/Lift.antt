-- From what the arrays hold to what the ledger means: one law gives a ledger with other parts back as held, and by it an entry is
-- changed, taken in or let go, the entries that a test keeps stay, and other departures or counts come in.
-- Assumes nothing.
use Rattle.std.specs.Prelude.{Some, None}
use Prim.Native.Nat.{ℕ, ◌<◌}
use mathlib.Core.Path.{◌≡◌, refl, sym, ap, ap₂, ◌∙◌}
use mathlib.Core.Bool.{Bool, false}
use mathlib.Core.List.{List, map}
use native.Mathlib.Omega.{arith}
use lib.ListN.{length, get_or, set, length-map}
use lib.Seq.{get_or-take, get_or-set_same}
use Rattle.lists.specs.Lists.{keep, keep_by, at, has, without, change, include, include_all, self}
use Rattle.lists.specs.Arrays.{insert_at, remove_at, place, rank}
use Rattle.lists.proofs.Loops.{located, include-rank}
use Rattle.lists.proofs.Distinct.{every_at, distinct-take, take_lacks, map-insert_at, map-remove_at, map-keep_by, keep_by_test, read_elsewhere, read_stored}
use Rattle.lists.proofs.Maps.{map-set, map-change_if}
use Rattle.rules.specs.Plain as plain
use Rattle.rules.specs.Plain.{Plain, transaction_of, with_entries, with_departures, with_counts}
use Rattle.rules.specs.Index.{pair_key, pairs_of, index_of, index}
use Rattle.rules.specs.Good.{GoodCounts, Good}
use Rattle.rules.proofs.Kept.{with-counts}
use Rattle.rules.proofs.Named.{IsOfWord, good-words}
use Rattle.rules.proofs.Reindex.{index_of-without, index_of-include, index_of-change}
use Rattle.types.specs.Transactions.{number_of}
use Rattle.entry.specs.declared.Entry.{Entry}
use Rattle.entry.specs.Entry.{plain_entry}
use Rattle.store.specs.declared.roster.Roster.{Roster}
use Rattle.store.specs.declared.issuers.Issuers.{Issuers}
use Rattle.store.specs.Roster.{keys_of, slots_of, free_slot, is, below, Inserted, Removed, Retained}
use Rattle.store.specs.Issuers as issuers
use Rattle.store.specs.Issuers.{is_not, pairs_in}
use Rattle.store.specs.declared.departures.Departures.{Departures}
use Rattle.store.specs.Departures as departures
use Rattle.store.specs.Departures.{on_file}
use Rattle.store.specs.declared.counts.Counts.{Counts}
use Rattle.store.specs.Counts as counts
use Rattle.store.specs.Counts.{counts_in}
use Rattle.ledger.specs.declared.Ledger.{Ledger}
use Rattle.ledger.specs.Contents.{no_entry, entry_in, entries_of, contents, Held, Became, with_parts, counting, storing, slot_at, lying_at}
use Rattle.ledger.proofs.Places.{slots_length, order, placed, ranked, found_at, not_found}

-- roster, slots and index that hold these entries
pub record Rows (local : ℕ) (rows : List plain.Entry) (r : Roster) (es : List Entry) (x : Issuers) : Type 0 where
  pub keys : keys_of r ≡ map transaction_of rows
  pub entries : map (entry_in es) (slots_of r) ≡ rows
  pub issuers : issuers.Holds (index_of local rows) x

pub became : (l : Ledger) (rows : List plain.Entry) (ds : List plain.Departure) (cs : List plain.Count) (r : Roster) (es : List Entry) (x : Issuers) (d : Departures) (n : Counts) →
    Rows l.local.0 rows r es x → departures.Holds ds d → counts.Holds cs n → Good (with_counts cs (with_departures ds (with_entries rows (contents l)))) → (s : length es ≡ 48) →
    Became (with_counts cs (with_departures ds (with_entries rows (contents l)))) (with_parts l n r es x d s)
unfolding contents index
became l rows ds cs r es x d n w f q g s =
    let e = w.entries in
    record {
      held =
          record {
            keyed = w.keys ∙ ap (map transaction_of) (sym e);
            issuers = record { pairs = w.issuers.pairs ∙ ap (index_of l.local.0) (sym e) };
            good = rw (e, f.file, q.counts) g;
          };
      holds = rw (e, f.file, q.counts);
    }

module _ (l : Ledger) (h : Held l) where
  -- the parts that stay
  same_rows : Rows l.local.0 (entries_of l) l.roster l.entries l.issuers
  unfolding contents index
  same_rows = record { keys = h.keyed; entries = refl; issuers = h.issuers }

  same_file : departures.Holds (on_file l.departures) l.departures
  same_file = record { file = refl }

  same_counts : counts.Holds (counts_in l.counts) l.counts
  same_counts = record { counts = refl }

  -- other entries, and nothing else
  pub with_rows : (rows : List plain.Entry) (r : Roster) (es : List Entry) (x : Issuers) → Rows l.local.0 rows r es x → Good (with_entries rows (contents l)) → (s : length es ≡ 48) →
      Became (with_entries rows (contents l)) (with_parts l l.counts r es x l.departures s)
  unfolding contents
  with_rows rows r es x w g s = became l rows (on_file l.departures) (counts_in l.counts) r es x l.departures l.counts w same_file same_counts g s

  -- other departures, beside other entries or the same
  pub filed : (ds : List plain.Departure) (d : Departures) → departures.Holds ds d → Good (with_departures ds (contents l)) → (s : length l.entries ≡ 48) →
      Became (with_departures ds (contents l)) (with_parts l l.counts l.roster l.entries l.issuers d s)
  unfolding contents
  filed ds d f g s = became l (entries_of l) ds (counts_in l.counts) l.roster l.entries l.issuers d l.counts same_rows f same_counts g s

  -- other counts
  pub counted : (cs : List plain.Count) (n : Counts) → counts.Holds cs n → GoodCounts cs → (s : length l.entries ≡ 48) → Became (with_counts cs (contents l)) (counting l n s)
  unfolding contents
  counted cs n q g s =
      became l (entries_of l) (on_file l.departures) cs l.roster l.entries l.issuers l.departures n same_rows same_file q (with-counts (contents l) cs h.good g) s

  -- One entry changed where it lies; its terms stay.
  pub changed : (t k : ℕ) (x d : Entry) (f : plain.Entry → plain.Entry) → place (is t) 0 (keys_of l.roster) ≡ Some k →
      plain_entry x ≡ f (plain_entry (lying_at l k d)) → ((e : plain.Entry) → (f e).terms ≡ e.terms) →
      Good (with_entries (change transaction_of t f (contents l).entries) (contents l)) → (s : length (set l.entries (slot_at l k) x) ≡ 48) →
      Became (with_entries (change transaction_of t f (contents l).entries) (contents l)) (storing l (slot_at l k) x s)
  unfolding contents index
  changed t k x d f e m terms g z =
      let w = located transaction_of t (entries_of l) k (sym (placed l h t) ∙ e) in
      let a = found_at l h t k e in
      let ss = slots_of l.roster in
      let slot : get_or ss k 0 ≡ slot_at l k = get_or-take l.roster.len l.roster.slots k 0 a.place in
      let plains = map plain_entry l.entries in
      let stored : map (λ n. get_or (set plains (get_or ss k 0) (plain_entry x)) n no_entry) ss ≡ set (entries_of l) k (plain_entry x) =
      read_stored no_entry (plain_entry x) plains k ss (distinct-take l.roster.len l.roster.slots l.roster.distinct) (omega (arith, a.place, slots_length l h))
      (rw slot (omega (arith, a.slot, l.slots, length-map l.entries plain_entry))) in
      let es : map (entry_in (set l.entries (slot_at l k) x)) ss ≡ change transaction_of t f (entries_of l) =
      ap (λ ps. map (λ n. get_or ps n no_entry) ss) (map-set plain_entry l.entries (slot_at l k) x)
      ∙ (rw slot at stored)
      ∙ ap (set (entries_of l) k) (m ∙ ap f (sym (a.read no_entry d)))
      ∙ sym (w.changed no_entry f (order l h)) in
      let same : index_of l.local.0 (change transaction_of t f (entries_of l)) ≡ index_of l.local.0 (entries_of l) = index_of-change l.local.0 (at transaction_of t) f terms (entries_of l) in
      let keys : map transaction_of (change transaction_of t f (entries_of l)) ≡ map transaction_of (entries_of l) = map-change_if transaction_of (at transaction_of t) f (λ y. ap (λ (z : plain.Terms). z.transaction) (terms y)) (entries_of l) in
      with_rows _ l.roster _ l.issuers
      (record {
        keys = h.keyed ∙ sym keys;
        entries = es;
        issuers = record { pairs = h.issuers.pairs ∙ sym same };
      })
      g z

  -- An entry taken in: its transaction is not owed, and ranks at k.
  pub taken_in : (k : ℕ) (x : Entry) (r : Roster) (ix : Issuers) → place (is (number_of x.tx)) 0 (keys_of l.roster) ≡ None →
      k ≡ rank (below (number_of x.tx)) (keys_of l.roster) → l.roster.len < 48 → IsOfWord (plain_entry x) → Inserted l.roster k (number_of x.tx) r →
      issuers.Holds (include_all pair_key (pairs_of l.local.0 (plain_entry x)) (index (contents l))) ix →
      Good (with_entries (include transaction_of (plain_entry x) (contents l).entries) (contents l)) → (s : length (set l.entries (free_slot l.roster) x) ≡ 48) →
      Became (with_entries (include transaction_of (plain_entry x) (contents l).entries) (contents l)) (with_parts l l.counts r (set l.entries (free_slot l.roster) x) ix l.departures s)
  unfolding contents index plain_entry
  taken_in k x r ix e q room word o i g z =
      let t = number_of x.tx in
      let new = plain_entry x in
      let w = not_found l h t e in
      let ss = slots_of l.roster in
      let s = free_slot l.roster in
      let plains = map plain_entry l.entries in
      let in-slot : s < 48 = every_at (λ n. n < 48) 0 l.roster.len l.roster.slots (omega (arith, l.roster.lengths.1, room)) l.roster.within in
      let lacks : has self s ss ≡ false = take_lacks l.roster.len l.roster.slots (omega (arith, l.roster.lengths.1, room)) l.roster.distinct in
      let here : entry_in (set l.entries s x) s ≡ new =
      ap (λ ps. get_or ps s no_entry) (map-set plain_entry l.entries s x) ∙ get_or-set_same plains s new no_entry (omega (arith, in-slot, l.slots, length-map l.entries plain_entry)) in
      let others : map (entry_in (set l.entries s x)) ss ≡ entries_of l =
      ap (λ ps. map (λ n. get_or ps n no_entry) ss) (map-set plain_entry l.entries s x) ∙ read_elsewhere no_entry new plains s ss lacks in
      let put_in : insert_at k new (entries_of l) ≡ include transaction_of new (entries_of l) =
      ap (λ j. insert_at j new (entries_of l)) (q ∙ ranked l h t) ∙ include-rank transaction_of new (entries_of l) w.known in
      let pairs : index_of l.local.0 (include transaction_of new (entries_of l)) ≡ include_all pair_key (pairs_of l.local.0 new) (index_of l.local.0 (entries_of l)) =
      index_of-include l.local.0 new (entries_of l) word (good-words h.good) w.known in
      with_rows _ r _ ix
      (record {
        keys = o.keys ∙ ap (insert_at k t) h.keyed ∙ sym (map-insert_at transaction_of k new (entries_of l)) ∙ ap (map transaction_of) put_in;
        entries = ap (map (entry_in (set l.entries s x))) o.slots ∙ map-insert_at (entry_in (set l.entries s x)) k s ss ∙ ap₂ (insert_at k) here others ∙ put_in;
        issuers = record { pairs = i.pairs ∙ sym pairs };
      })
      g z

  -- An entry let go: the pairs of its transaction leave the index.
  pub let_go : (t k : ℕ) (r : Roster) (ix : Issuers) → place (is t) 0 (keys_of l.roster) ≡ Some k →
      Removed l.roster k r → issuers.Holds (keep (is_not t) (pairs_in l.issuers)) ix →
      Good (with_entries (without transaction_of t (contents l).entries) (contents l)) → (s : length l.entries ≡ 48) →
      Became (with_entries (without transaction_of t (contents l).entries) (contents l)) (with_parts l l.counts r l.entries ix l.departures s)
  unfolding contents index
  let_go t k r ix e c i g z =
      let w = located transaction_of t (entries_of l) k (sym (placed l h t) ∙ e) in
      let gone : remove_at k (entries_of l) ≡ without transaction_of t (entries_of l) = sym (w.gone (order l h)) in
      let pairs : keep (is_not t) (index_of l.local.0 (entries_of l)) ≡ index_of l.local.0 (without transaction_of t (entries_of l)) =
      index_of-without l.local.0 t (entries_of l) (good-words h.good) in
      with_rows _ r _ ix
      (record {
        keys = c.keys ∙ ap (remove_at k) h.keyed ∙ sym (map-remove_at transaction_of k (entries_of l)) ∙ ap (map transaction_of) gone;
        entries = ap (map (entry_in l.entries)) c.slots ∙ map-remove_at (entry_in l.entries) k (slots_of l.roster) ∙ gone;
        issuers = record { pairs = i.pairs ∙ ap (keep (is_not t)) h.issuers.pairs ∙ pairs };
      })
      g z

  -- The entries that a test keeps, by flags that say so, with their roster and index.
  pub kept-rows : (p : plain.Entry → Bool) (bs : List Bool) (r : Roster) (ix : Issuers) → bs ≡ map p (entries_of l) → Retained l.roster bs r →
      issuers.Holds (index_of l.local.0 (keep p (entries_of l))) ix → Rows l.local.0 (keep p (entries_of l)) r l.entries ix
  kept-rows p bs r ix q k i =
      let kept : keep_by bs (entries_of l) ≡ keep p (entries_of l) = rw q (keep_by_test p (entries_of l)) in
      record {
        keys = k.keys ∙ ap (keep_by bs) h.keyed ∙ sym (map-keep_by transaction_of bs (entries_of l)) ∙ ap (map transaction_of) kept;
        entries = ap (map (entry_in l.entries)) k.slots ∙ map-keep_by (entry_in l.entries) bs (slots_of l.roster) ∙ kept;
        issuers = i;
      }

-- Entries taken in one after the other: the ledger's own, and the words still to come.
-- Assumes nothing.
use Prim.Native.Nat.{ℕ, ◌+◌, ◌≤◌, ◌<◌}
use mathlib.Core.Path.{◌≡◌, refl, sym, ap, ◌∙◌, subst}
use mathlib.Core.Bool.{true, false, true≢false}
use mathlib.Core.List.{List, [], ◌∷◌, ◌++◌}
use native.Mathlib.Omega.{arith}
use lib.ListN.{length, take, drop, get_or, length-append, length-drop}
use Rattle.lists.specs.Lists.{all, Every, total, self, cut, include}
use Rattle.lists.proofs.Keep.{every_all, every_append}
use Rattle.lists.proofs.Parts.{every_drop}
use Rattle.lists.proofs.Joined.{every_piece}
use Rattle.lists.proofs.Maps.{all_map}
use Rattle.lists.proofs.Cuts.{rest_more, rest_tail, rest-none, cut-length, total_more}
use Rattle.lists.proofs.Coming.{before, rises_with, include-behind, lacks_behind, Coming, all_to_come, all_come, room_left, unsound, unordered, one_came}
use Rattle.rules.specs.Numbers.{is_word}
use Rattle.rules.specs.Plain as plain
use Rattle.rules.specs.Plain.{Plain, transaction_of, with_entries}
use Rattle.rules.specs.Good.{Holds, GoodEntry, Good}
use Rattle.rules.specs.Snapshot.{entry_formed, entry_in, entry_sound}
use Rattle.rules.proofs.SnapshotEntry.{entry-good}
use Rattle.types.specs.Transactions.{number_of}
use Rattle.entry.specs.declared.Entry.{Entry}
use Rattle.entry.specs.Entry.{plain_entry, Means}
use Rattle.store.specs.Roster.{keys_of, below}
use Rattle.ledger.specs.declared.Ledger.{Ledger}
use Rattle.ledger.specs.Contents.{contents, Held, Became}
use Rattle.calls.specs.Naming.{Enters}
use Rattle.snapshots.specs.Restore.{Empty, Takes}

module _ (lengths joined : List ℕ) (start : Ledger) where
  abbrev parts : List (List ℕ)
  parts = cut lengths joined

  abbrev local : ℕ
  local = start.local.0

  pub record Taking (rest : List ℕ) (l : Ledger) (i : ℕ) : Type 0 where
    pub held : Held l
    pub others : contents l ≡ with_entries (contents l).entries (contents start)
    pub coming : Coming transaction_of (entry_sound local) entry_in parts (contents l).entries i
    pub room : total self (drop i lengths) ≤ length rest
    pub words : drop i parts ≡ cut (drop i lengths) rest

  pub none_taken : Empty lengths joined start → Taking joined start 0
  none_taken e =
      record {
        held = e.held;
        others = refl;
        coming = rw e.none (all_to_come transaction_of (entry_sound local) entry_in parts);
        room = e.room;
        words = refl;
      }

  module _ (b : Empty lengths joined start) (rest : List ℕ) (l : Ledger) (i : ℕ) (t : Taking rest l i) where
    pub here : l.local.0 ≡ local
    unfolding contents
    here = ap (λ (p : Plain). p.local) t.others

    -- all were taken
    pub all_taken : length lengths ≤ i → Takes parts start l true
    unfolding contents
    all_taken h =
        let all = all_come transaction_of (entry_sound local) entry_in parts t.coming (rest-none parts i (omega (arith, h, cut-length lengths joined))) t.held.good.entries.rows.order in
        record {
          said = all.0;
          became = λ _. record { held = t.held; holds = t.others ∙ ap (λ es. with_entries es (contents start)) all.1 };
        }

    module _ (h : i < length lengths) where
      abbrev n : ℕ
      n = get_or lengths i 0

      -- the words of the next entry, and those behind it
      pub next : drop i parts ≡ take n rest ∷ drop (i + 1) parts
      next =
          let here : drop i parts ≡ take n rest ∷ cut (drop (i + 1) lengths) (drop n rest) = t.words ∙ ap (λ m. cut m rest) (rest_more 0 lengths i h) in
          here ∙ ap (λ m. take n rest ∷ m) (sym (rest_tail parts i (take n rest) _ here))

      pub behind : drop (i + 1) parts ≡ cut (drop (i + 1) lengths) (drop n rest)
      behind = rest_tail parts i (take n rest) _ (t.words ∙ ap (λ m. cut m rest) (rest_more 0 lengths i h))

      pub reaches : n ≤ length rest
      reaches = omega (arith, t.room, total_more self 0 lengths 0 i h)

      pub formed : entry_formed (take n rest) ≡ true
      formed = (rw next at (every_drop (λ (m : List ℕ). entry_formed m ≡ true) i parts (every_all entry_formed parts b.formed))).0

      pub not_sound : entry_sound local (take n rest) ≡ false → Takes parts start l false
      not_sound s = record { said = unsound transaction_of (entry_sound local) entry_in parts t.coming (take n rest) next s; became = λ q. absurd (true≢false (sym q)) }

      -- what stands before an entry, by the roster's keys
      module _ (e : Entry) (m : Means (entry_in (take n rest)) e) where
        last_is : all (below (number_of e.tx)) (keys_of l.roster) ≡ before transaction_of (entry_in (take n rest)) (contents l).entries
        unfolding contents plain_entry
        last_is =
            ap (all (below (number_of e.tx))) t.held.keyed
            ∙ sym (all_map transaction_of (below (number_of e.tx)) (contents l).entries)
            ∙ ap (λ (p : plain.Entry). before transaction_of p (contents l).entries) m.plain

        pub not_last : all (below (number_of e.tx)) (keys_of l.roster) ≡ false → Takes parts start l false
        not_last q = record { said = unordered transaction_of (entry_sound local) entry_in parts t.coming (take n rest) next (sym last_is ∙ q); became = λ r. absurd (true≢false (sym r)) }

        module _ (s : entry_sound local (take n rest) ≡ true) (q : all (below (number_of e.tx)) (keys_of l.roster) ≡ true) (v : Every (Holds is_word) joined) where
          is_last : before transaction_of (entry_in (take n rest)) (contents l).entries ≡ true
          is_last = sym last_is ∙ q

          abbrev es : List plain.Entry
          es = (contents l).entries

          good : GoodEntry (contents l).local (plain_entry e)
          unfolding contents
          good =
              let words = (rw next at (every_drop (Every (Holds is_word)) i parts (every_piece (Holds is_word) lengths joined v))).0 in
              rw (m.plain, here) (entry-good local (take n rest) words formed s)

          ahead : before transaction_of (plain_entry e) es ≡ true
          ahead = subst (λ (x : plain.Entry). before transaction_of x es ≡ true) (sym m.plain) is_last

          put_in : include transaction_of (plain_entry e) es ≡ es ++ plain_entry e ∷ []
          put_in = include-behind transaction_of (plain_entry e) es ahead

          few : length es < length parts
          few = room_left transaction_of (entry_sound local) entry_in parts t.coming (take n rest) next

          pub enters : Enters e l
          unfolding plain_entry
          enters =
              let g = t.held.good in
              record {
                held = t.held;
                word = good.terms.transaction;
                unknown = lacks_behind transaction_of (plain_entry e) es ahead;
                good = subst (λ (xs : List plain.Entry). Good (with_entries xs (contents l))) (sym put_in) (record {
                  frame = g.frame;
                  entries = record {
                    count = omega (arith, few, b.few, cut-length lengths joined, length-append es (plain_entry e ∷ []));
                    rows = record {
                      each = every_append (GoodEntry (contents l).local) es (plain_entry e ∷ []) g.entries.rows.each (good, tt);
                      order = rises_with transaction_of (plain_entry e) es g.entries.rows.order ahead;
                    };
                  };
                  departures = g.departures;
                  counts = g.counts;
                });
              }

          pub one_taken : (r : Ledger) → Became (with_entries (include transaction_of (plain_entry e) es) (contents l)) r → Taking (drop n rest) r (i + 1)
          one_taken r k =
              let rows : (contents r).entries ≡ es ++ entry_in (take n rest) ∷ [] = ap (λ (p : Plain). p.entries) k.holds ∙ put_in ∙ ap (λ p. es ++ p ∷ []) m.plain in
              record {
                held = k.held;
                others =
                    k.holds
                    ∙ ap (with_entries (include transaction_of (plain_entry e) es)) t.others
                    ∙ ap (λ (xs : List plain.Entry). with_entries xs (contents start)) (sym (ap (λ (x : Plain). x.entries) k.holds));
                coming = one_came transaction_of (entry_sound local) entry_in parts t.coming (take n rest) next s (contents r).entries rows;
                room = omega (arith, t.room, total_more self 0 lengths 0 i h, length-drop n rest, reaches);
                words = behind;
              }

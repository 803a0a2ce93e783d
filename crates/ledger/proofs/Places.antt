-- The entry at a place of the roster, with all that is known of it, and where a transaction stands.
-- Assumes nothing.
use Rattle.std.specs.Prelude.{Some, None}
use Prim.Native.Nat.{ℕ, ◌+◌, ◌≤◌, ◌<◌}
use mathlib.Core.Path.{◌≡◌, sym, ap, ◌∙◌}
use mathlib.Core.Bool.{true}
use mathlib.Core.List.{List, [], ◌∷◌, map}
use mathlib.Core.Option.{some}
use native.Mathlib.Omega.{arith}
use lib.Dec.{ltb}
use lib.ListN.{length, take, drop, get_or, length-map, get_or-map}
use lib.Seq.{length-take-le, get_or-take}
use Rattle.lists.specs.Lists.{Ascending, at, has, get}
use Rattle.lists.specs.Arrays.{place, rank}
use Rattle.lists.proofs.Loops.{Missing, located, missing, map-place, map-rank}
use Rattle.lists.proofs.Cuts.{rest_more, rest-none}
use Rattle.lists.proofs.Distinct.{every_at}
use Rattle.lists.proofs.Maps.{get_d_any}
use Rattle.rules.specs.Plain as plain
use Rattle.rules.specs.Plain.{transaction_of}
use Rattle.rules.specs.Good.{GoodEntry}
use Rattle.entry.specs.declared.Entry.{Entry}
use Rattle.entry.specs.Entry.{plain_entry}
use Rattle.store.specs.Roster.{keys_of, slots_of, is, below, LiesIn}
use Rattle.ledger.specs.declared.Ledger.{Ledger}
use Rattle.ledger.specs.Contents.{no_entry, entry_in, entries_of, contents, Held, slot_at, lying_at}

pub entry_in_lem : (es : List Entry) (s : ℕ) (d : Entry) → s < length es → entry_in es s ≡ plain_entry (get_or es s d)
entry_in_lem es s d h = get_d_any (map plain_entry es) s no_entry (plain_entry d) (omega (arith, length-map es plain_entry)) ∙ get_or-map plain_entry es s d

-- of a slot the same is read, whatever is read past the last
pub in_slot : (l : Ledger) (s : ℕ) (d e : Entry) → s < 48 → get_or l.entries s d ≡ get_or l.entries s e
in_slot l s d e h = get_d_any l.entries s d e (omega (arith, h, l.slots))

-- what stands at a place, whatever is read past the end
pub record EntryAt (l : Ledger) (k : ℕ) : Type 0 where
  pub below : k < l.roster.len
  pub place : k < 48
  pub slot : slot_at l k < 48
  pub good : (d : Entry) → GoodEntry (contents l).local (plain_entry (lying_at l k d))
  pub read : (x : plain.Entry) (d : Entry) → get_or (entries_of l) k x ≡ plain_entry (lying_at l k d)
  pub next : (d : Entry) → drop k (entries_of l) ≡ plain_entry (lying_at l k d) ∷ drop (k + 1) (entries_of l)

module _ (l : Ledger) (h : Held l) where
  pub slots_length : length (slots_of l.roster) ≡ l.roster.len
  slots_length = length-take-le l.roster.len l.roster.slots (omega (arith, l.roster.room, l.roster.lengths.1))

  pub entries-length : length (entries_of l) ≡ l.roster.len
  entries-length = length-map (slots_of l.roster) (entry_in l.entries) ∙ slots_length

  pub order : Ascending transaction_of (entries_of l)
  unfolding contents
  order = h.good.entries.rows.order

  pub entry_at : (k : ℕ) → k < l.roster.len → EntryAt l k
  unfolding contents
  entry_at k b =
      let in-slot : slot_at l k < 48 = every_at (λ n. n < 48) 0 k l.roster.slots (omega (arith, l.roster.lengths.1, l.roster.room)) l.roster.within in
      let many = entries-length in
      let read : (x : plain.Entry) (d : Entry) → get_or (entries_of l) k x ≡ plain_entry (lying_at l k d) =
      λ x d. get_d_any (entries_of l) k x (entry_in l.entries 0) (omega arith)
      ∙ get_or-map (entry_in l.entries) (slots_of l.roster) k 0 ∙ ap (entry_in l.entries) (get_or-take l.roster.len l.roster.slots k 0 b)
      ∙ entry_in_lem l.entries (slot_at l k) d (omega (arith, l.slots)) in
      record {
        below = b;
        place = omega (arith, l.roster.room);
        slot = in-slot;
        good = λ d. rw (read no_entry d) at (every_at (GoodEntry l.local.0) no_entry k (entries_of l) (omega arith) h.good.entries.rows.each);
        read = read;
        next = λ d. rest_more no_entry (entries_of l) k (omega arith) ∙ ap (λ x. x ∷ drop (k + 1) (entries_of l)) (read no_entry d);
      }

  pub none_left : (k : ℕ) → l.roster.len ≤ k → drop k (entries_of l) ≡ []
  none_left k b = rest-none (entries_of l) k (omega (arith, entries-length))

  pub placed : (t : ℕ) → place (is t) 0 (keys_of l.roster) ≡ place (at transaction_of t) 0 (entries_of l)
  placed t = ap (place (is t) 0) h.keyed ∙ map-place transaction_of (is t) 0 (entries_of l)

  pub ranked : (t : ℕ) → rank (below t) (keys_of l.roster) ≡ rank (λ e. ltb (transaction_of e) t) (entries_of l)
  ranked t = ap (rank (below t)) h.keyed ∙ map-rank transaction_of (below t) (entries_of l)

-- A transaction found: the entry at its place is its own.
pub record AtSlot (l : Ledger) (t k : ℕ) : Type 0 where
  pub place : k < l.roster.len
  pub slot : slot_at l k < 48
  pub good : (d : Entry) → GoodEntry (contents l).local (plain_entry (lying_at l k d))
  pub read : (x : plain.Entry) (d : Entry) → get_or (entries_of l) k x ≡ plain_entry (lying_at l k d)
  pub got : (d : Entry) → get transaction_of t (contents l).entries ≡ some (plain_entry (lying_at l k d))
  pub known : has transaction_of t (contents l).entries ≡ true
  pub key : (d : Entry) → transaction_of (plain_entry (lying_at l k d)) ≡ t

pub found_at : (l : Ledger) → Held l → (t k : ℕ) → place (is t) 0 (keys_of l.roster) ≡ Some k → AtSlot l t k
unfolding contents
found_at l h t k e =
    let w = located transaction_of t (entries_of l) k (sym (placed l h t) ∙ e) in
    let a = entry_at l h k (omega (arith, w.below, entries-length l h)) in
    record {
      place = a.below;
      slot = a.slot;
      good = a.good;
      read = a.read;
      got = λ d. w.got no_entry ∙ ap some (a.read no_entry d);
      known = w.known;
      key = λ d. sym (ap transaction_of (a.read no_entry d)) ∙ w.passes no_entry;
    }

-- The same of the slot in which a transaction's entry lies.
pub record Owed (l : Ledger) (t s : ℕ) : Type 0 where
  pub slot : s < 48
  pub good : (d : Entry) → GoodEntry (contents l).local (plain_entry (get_or l.entries s d))
  pub got : (d : Entry) → get transaction_of t (contents l).entries ≡ some (plain_entry (get_or l.entries s d))

pub owed_in : (l : Ledger) → Held l → (t s : ℕ) → LiesIn l.roster t s → Owed l t s
owed_in l h t s w =
    let a = found_at l h t w.at w.found in
    rw w.slot (record { slot = a.slot; good = a.good; got = a.got })

pub not_found : (l : Ledger) → Held l → (t : ℕ) → place (is t) 0 (keys_of l.roster) ≡ None → Missing transaction_of t (contents l).entries
unfolding contents
not_found l h t e = missing transaction_of t (entries_of l) (sym (placed l h t) ∙ e)

-- The entry that a loop over the slots in use meets.
abbrev pub slot_met : Ledger → ℕ → ℕ
slot_met l i = get_or (take l.roster.len l.roster.slots) i 0

pub record AtTurn (l : Ledger) (i s : ℕ) : Type 0 where
  pub place : i < 48
  pub good : (d : Entry) → GoodEntry l.local.0 (plain_entry (get_or l.entries s d))
  pub next : (d : Entry) → drop i (entries_of l) ≡ plain_entry (get_or l.entries s d) ∷ drop (i + 1) (entries_of l)

pub at_turn : (l : Ledger) → Held l → (i : ℕ) → i < l.roster.len → AtTurn l i (slot_met l i)
unfolding contents
at_turn l h i b =
    let a = entry_at l h i b in
    rw (get_or-take l.roster.len l.roster.slots i 0 b) (record { place = a.place; good = a.good; next = a.next })

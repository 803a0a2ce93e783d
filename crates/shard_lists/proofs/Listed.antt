-- A list of a transaction's reading: empty where it is not owed, else what is written of its entry.
-- Assumes nothing.
use Rattle.std.specs.Prelude.{None, Result, Ok, Err}
use Prim.Native.Nat.{ℕ, ◌≤◌, ◌<◌}
use mathlib.Core.Path.{◌≡◌, refl, sym}
use mathlib.Core.Bool.{false}
use mathlib.Core.List.{List, []}
use native.Mathlib.Omega.{arith}
use borrow.Author.Tests.{lt-ltb, le-ltb}
use lib.Dec.{ltb}
use lib.ListN.{length, take, get_or}
use lib.Seq.{length-take-le}
use Rattle.lists.specs.Arrays.{place}
use Rattle.lists.specs.declared.front.Front.{Front}
use Rattle.lists.specs.Front.{held}
use Rattle.lists.proofs.Held.{held-length}
use Rattle.lists.proofs.Sets.{concat_map-single}
use Rattle.rules.specs.Numbers.{shard_for_route}
use Rattle.rules.specs.Plain as plain
use Rattle.rules.specs.Plain.{Plain, entry_of}
use Rattle.rules.specs.Readings.{listing, single, list_of, read, list_unstamped, list_counterparts, unstamped_departures, counterparts, counterparts_of, depth_refusal}
use Rattle.entry.specs.declared.Entry.{Entry}
use Rattle.entry.specs.Entry.{plain_entry}
use Rattle.entry.proofs.Shape.{fits_of}
use Rattle.store.specs.Departures.{on_file}
use Rattle.store.specs.Roster.{keys_of, is}
use Rattle.ledger.specs.declared.Ledger.{Ledger}
use Rattle.ledger.specs.Contents.{contents, Held}
use Rattle.ledger.proofs.Places.{Owed, not_found}
use Rattle.types.specs.declared.refusal.Refusal.{Refusal}
use Rattle.types.specs.declared.refusal.Refusal.TheVariants.{Malformed}
use Rattle.readings.specs.Reads.{Reads, Lists}
use Rattle.readings.proofs.Written.{reads_list, turned_away}
use Rattle.shard_lists.specs.declared.set.Set.{Set}
use Rattle.shard_lists.specs.Sets.{front, Holds, unstamped_on, counterparts_at}

pub routes-room : (e : Entry) → e.routes_len ≤ length e.routes
routes-room e = let f = fits_of e in omega (arith, f.routes_len, f.routes)

-- one word an item: the items written out are the list
alone : (items lent after : List ℕ) (r : Result ℕ Refusal) (p : Plain) (m : ℕ) → m ≡ 0 → Lists items (length items) lent after r →
    Reads (listing m (length lent) single items p) lent after r
alone items lent after r p m z h = reads_list single items p m lent after r z (rw (concat_map-single items) h)

-- the first n of some numbers are n items
first : (items lent after : List ℕ) (n : ℕ) (r : Result ℕ Refusal) → n ≤ length items → Lists (take n items) n lent after r → Lists (take n items) (length (take n items)) lent after r
first items lent after n r h w = rw (length-take-le n items h) w

nothing : (lent : List ℕ) → Lists [] 0 lent lent (Ok 0)
nothing lent =
    let t : ltb (length lent) 0 ≡ false = le-ltb (length lent) 0 (omega arith) in
    record { refused = rw t; answer = rw t; wrote = rw t }

module _ (l : Ledger) (h : Held l) (t : ℕ) (lent : List ℕ) (f : plain.Entry → List ℕ) (m : ℕ) (z : m ≡ 0) where
  pub not-owed : place (is t) 0 (keys_of l.roster) ≡ None → Reads (listing m (length lent) single (list_of f (entry_of t (contents l))) (contents l)) lent lent (Ok 0)
  not-owed e = rw (not_found l h t e).got (alone [] lent lent (Ok 0) (contents l) m z (nothing lent))

  pub of_owed : (s : ℕ) (d : Entry) (items after : List ℕ) (n : ℕ) (r : Result ℕ Refusal) → Owed l t s → n ≤ length items →
      take n items ≡ f (plain_entry (get_or l.entries s d)) → Lists (take n items) n lent after r →
      Reads (listing m (length lent) single (list_of f (entry_of t (contents l))) (contents l)) lent after r
  of_owed s d items after n r e b q w =
      rw (e.got d, sym q) (alone (take n items) lent after r (contents l) m z (first items lent after n r b w))

pub set_room : (s : Set) → s.shards.len ≤ length s.shards.items
set_room s = omega (arith, s.shards.room, s.shards.size)

-- the list in the front of an array, one word an item
pub of_front : {n : ℕ} (x : Front ℕ n) (items lent after : List ℕ) (r : Result ℕ Refusal) (p : Plain) (m : ℕ) → m ≡ 0 → held x ≡ items → Lists (held x) x.len lent after r →
    Reads (listing m (length lent) single items p) lent after r
of_front x items lent after r p m z e w = rw e at (alone (held x) lent after r p m z (rw (held-length x) w))

pub of_departures : (l : Ledger) (s : Set) (lent after : List ℕ) (r : Result ℕ Refusal) → Holds (unstamped_on (on_file l.departures)) s → Lists (front s) s.shards.len lent after r →
    Reads (read (list_unstamped (length lent)) (contents l)) lent after r
unfolding unstamped_departures contents
of_departures l s lent after r h w = of_front s.shards (unstamped_departures (contents l)) lent after r (contents l) 0 refl h.holds w

-- counterparts, by whatever trie, where it is not refused
module _ (l : Ledger) (h : Held l) (t : ℕ) (lent : List ℕ) (f : ℕ → ℕ) (m : ℕ) (z : m ≡ 0) where
  pub no_counterparts : place (is t) 0 (keys_of l.roster) ≡ None → Reads (listing m (length lent) single (counterparts f t (contents l)) (contents l)) lent lent (Ok 0)
  unfolding counterparts
  no_counterparts e = not-owed l h t lent (counterparts_of f (contents l)) m z e

  pub of_counterparts : (k : ℕ) (x : Entry) (s : Set) (after : List ℕ) (r : Result ℕ Refusal) → Owed l t k →
      Holds (counterparts_at f l.local.0 (on_file l.departures) (plain_entry (get_or l.entries k x))) s →
      Lists (front s) s.shards.len lent after r → Reads (listing m (length lent) single (counterparts f t (contents l)) (contents l)) lent after r
  unfolding counterparts contents
  of_counterparts k x s after r e q w =
      of_owed l h t lent (counterparts_of f (contents l)) m z k x s.shards.items after s.shards.len r e (set_room s) q.holds w

-- a depth over 32 is refused before anything is looked up
module _ (d : ℕ) where
  pub too_deep : 32 < d → (l : Ledger) (t : ℕ) (lent : List ℕ) → Reads (read (list_counterparts t d (length lent)) (contents l)) lent lent (Err Malformed)
  too_deep b l t lent = turned_away single (counterparts (shard_for_route d) t (contents l)) (contents l) (depth_refusal d) lent Malformed (rw (lt-ltb 32 d b))

  pub shallow : d ≤ 32 → depth_refusal d ≡ 0
  shallow b = rw (le-ltb 32 d b)

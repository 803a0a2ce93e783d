-- An abandonment record, group by group: what is still to come does to the ledger in hand what all groups do to the one handed in.
-- An owed entry takes the shard, any other is rebuilt; that there is room for each was counted before.
-- Assumes nothing.
use Rattle.std.specs.Prelude.{Some, None}
use Prim.Native.Nat.{ℕ, ◌+◌, ◌-◌, ◌*◌, ◌≤◌, ◌<◌}
use mathlib.Core.Path.{◌≡◌, refl, sym, ap, ap₂, ◌∙◌, subst}
use mathlib.Core.Bool.{Bool, true, false, cond, not}
use mathlib.Core.List.{List, [], ◌∷◌}
use native.Mathlib.Omega.{arith}
use lib.Dec.{ltb}
use lib.ListN.{length, drop, set, length-map}
use lib.Seq.{length-take-le}
use borrow.Author.Tests.{ltb-false}
use Rattle.lists.specs.Lists.{Every, total, at, has, include, change, self, set_of}
use Rattle.lists.specs.Arrays.{place, rank}
use Rattle.lists.proofs.Items.{counted-few}
use Rattle.lists.proofs.Loops.{rank_le}
use Rattle.lists.proofs.Keep.{any-map, keep_same}
use Rattle.lists.proofs.Order.{length-include}
use Rattle.lists.proofs.Parts.{every_drop}
use Rattle.rules.specs.Numbers.{is_word, is_shard}
use Rattle.rules.specs.Plain as plain
use Rattle.rules.specs.Plain.{Plain, Terms, transaction_of, with_entries, with_counts}
use Rattle.rules.specs.Words.{group_count, record_shard, reach_sizes, record_groups, record_formed, record_timed}
use Rattle.rules.specs.Entries.{rebuilt, with_departed_by, with_group, rebuilt_of, with_groups, rebuilt_by}
use Rattle.rules.specs.Outcome.{◌gives◌then◌}
use Rattle.rules.specs.Calls.{unowed, no_room_for, counted, no_count_for, rebuilds, abandonment_refusal, after_abandonment}
use Rattle.rules.specs.Good.{Good, GoodEntry, Holds, is_departed_by}
use Rattle.rules.proofs.Taken.{GoodGroup, groups_good, rebuilt-good}
use Rattle.rules.proofs.Kept.{passed, tested, groups_count, rebuilt-count, with_entries_lem, included_rows, changes, counted-good, departed_by-shard, departed_by-good}
use Rattle.rules.proofs.Stepwise.{on_entries, of_entries, through-entries, tally-entries}
use Rattle.types.specs.declared.refusal.Refusal.{Refusal}
use Rattle.types.specs.Refusals.{refusal_number}
use Rattle.types.specs.Transactions.{number_of}
use Rattle.entry.specs.declared.Entry.{Entry}
use Rattle.entry.specs.Entry.{plain_entry, Means}
use Rattle.store.specs.declared.roster.Roster.{Roster}
use Rattle.store.specs.declared.counts.Counts.{Counts}
use Rattle.store.specs.Counts as counts
use Rattle.store.specs.Counts.{counts_in}
use Rattle.store.specs.Roster.{keys_of, free_slot, is, below, Inserted}
use Rattle.words.specs.Taken.{group_at, reach_at}
use Rattle.words.proofs.Groups.{groups_length, reach_start, reach-next, group_at_lem}
use Rattle.ledger.specs.declared.Ledger.{Ledger}
use Rattle.ledger.specs.Contents.{contents, entries_of, Held, with_parts, counting, storing, slot_at, lying_at, Became}
use Rattle.ledger.specs.Meets.{Meets, says, says_no}
use Rattle.ledger.proofs.Places.{entries-length, found_at, not_found}
use Rattle.ledger.proofs.Lift.{counted as recounted, changed, taken_in}
use Rattle.ledger.proofs.Meeting.{refuses, passes, answers}
use Rattle.ledger.proofs.Doing.{Doing, nothing-done, one_done, all_done}
use Rattle.batches.specs.Abandoned.{transactions, new_to, refusal_by, Countable}

-- the number that the roster's keys and the counts give
abbrev by_parts : Ledger → List ℕ → ℕ
by_parts l ws = refusal_by (keys_of l.roster) (counts_in l.counts) ws

-- the roster's keys say what is owed
by_keys : (l : Ledger) → Held l → (ws : List ℕ) → by_parts l ws ≡ abandonment_refusal ws (contents l)
unfolding contents
by_keys l h ws =
    let ts = transactions ws in
    let same : new_to (keys_of l.roster) ts ≡ unowed ts (contents l) =
    keep_same (λ t. not (has self t (keys_of l.roster))) (λ t. not (has transaction_of t (entries_of l))) (set_of ts)
    (λ t _. ap not (ap (has self t) h.keyed ∙ any-map transaction_of (at self t) (entries_of l))) in
    let table : ℕ → ℕ → ℕ → ℕ =
    λ m n k.
    not (record_formed ws) gives 5 then not (record_timed ws) gives 3 then not (is_shard (record_shard ws)) gives 4 then ltb (48 - m) n gives 6 then
    no_count_for (record_shard ws) k (counts_in l.counts) gives 14 then 0 in
    ap₂ (λ m n. table m n n) (ap length h.keyed ∙ length-map (entries_of l) transaction_of) (ap length same)
    ∙ ap (table (length (entries_of l)) (length (unowed ts (contents l)))) (sym (rebuilt-count (record_shard ws) (record_groups ws) (entries_of l)))

-- no number
pub record Passed (ws : List ℕ) (p : Plain) : Type 0 where
  pub formed : record_formed ws ≡ true
  pub timed : record_timed ws ≡ true
  pub shard : is_shard (record_shard ws) ≡ true
  pub room : length (with_groups (record_shard ws) (record_groups ws) p.entries) ≤ 48
  pub count : no_count_for (record_shard ws) (rebuilds ws p) p.counts ≡ false

passing : (ws : List ℕ) (p : Plain) → Good p → abandonment_refusal ws p ≡ 0 → Passed ws p
passing ws p g e =
    let f = tested (record_formed ws) 4 _ e in
    let t = tested (record_timed ws) 2 _ f.1 in
    let s = tested (is_shard (record_shard ws)) 3 _ t.1 in
    let gs = record_groups ws in
    let l = passed (no_room_for (transactions ws) p) 5 _ s.1 in
    let room = ltb-false (48 - length p.entries) (length (unowed (transactions ws) p)) l.0 in
    record {
      formed = f.0;
      timed = t.0;
      shard = s.0;
      room = omega (arith, room, g.entries.count, groups_count (record_shard ws) gs p.entries, rebuilt-count (record_shard ws) gs p.entries);
      count = (passed (no_count_for (record_shard ws) (rebuilds ws p) p.counts) 13 0 l.1).0;
    }

-- the words as they were handed in and as they were read are the same
pub passes_by : (l : Ledger) (ws read : List ℕ) → Held l → 0 ≡ by_parts l ws → read ≡ ws → Passed read (contents l)
passes_by l ws read h q same = subst (λ y. Passed y (contents l)) (sym same) (passing ws (contents l) h.good (sym (by_keys l h ws) ∙ sym q))

pub turned_away : (r : Refusal) (l : Ledger) (ws : List ℕ) → Held l → refusal_number r ≡ by_parts l ws → Meets (after_abandonment ws (contents l)) [] [] (says_no r l)
unfolding after_abandonment
turned_away r l ws h e = refuses r l [] (abandonment_refusal ws (contents l)) _ h (sym (by_keys l h ws) ∙ sym e)

-- The ledger stays good.

with-name : (p : Plain) (t shard : ℕ) → is_departed_by shard ≡ true → Good p → Good (with_entries (change transaction_of t (with_departed_by shard) p.entries) p)
with-name p t shard n g = changes p t (with_departed_by shard) (λ e. refl) (λ e _ h. departed_by-good p.local e h shard n) g

including_good : (p : Plain) (e : plain.Entry) → GoodEntry p.local e → length p.entries < 48 → Good p → Good (with_entries (include transaction_of e p.entries) p)
including_good p e h room g =
    with_entries_lem p (include transaction_of e p.entries) g
    (record {
      count = omega (arith, room, length-include transaction_of e p.entries);
      rows = included_rows transaction_of (GoodEntry p.local) e p.entries h g.entries.rows;
    })

-- The roster's free slot, and where a transaction ranks.

pub ranks_within : (l : Ledger) → (t : ℕ) → rank (below t) (keys_of l.roster) ≤ l.roster.len
ranks_within l t = omega (arith, rank_le (below t) (keys_of l.roster), length-take-le l.roster.len l.roster.keys (omega (arith, l.roster.room, l.roster.lengths.0)))

-- the groups from i on, whose routes start at a place, on the ledger in hand, and all groups, on the one handed in
pub record Rebuilding (l₀ : Ledger) (ws : List ℕ) (l : Ledger) (start n i : ℕ) : Type 0 where
  pub reach : start + total self (drop i (reach_sizes ws)) ≡ length ws
  pub doing : Doing (on_entries (λ h. with_group (record_shard ws))) (of_entries (λ h. rebuilt_of)) (record_groups ws) l₀ l n i

-- before the first group
pub rebuilding : (l : Ledger) (ws : List ℕ) (start : ℕ) → Held l → record_formed ws ≡ true → start ≡ 2 + group_count ws + 5 * group_count ws → Rebuilding l ws l start 0 0
rebuilding l ws start h f e = record { reach = rw e (reach_start ws f); doing = nothing-done _ _ (record_groups ws) l h }

-- no group rebuilds more than one
pub one_rebuilt : (g : Terms) (es : List plain.Entry) → rebuilt_of g es ≤ 1
one_rebuilt g es = go (has transaction_of g.transaction es)
  where
    go : (b : Bool) → cond b 0 1 ≤ 1
    go true = omega arith
    go false = omega arith

pub rebuilt-few : (l₀ : Ledger) (ws : List ℕ) (l : Ledger) (start n i : ℕ) → record_formed ws ≡ true → Rebuilding l₀ ws l start n i → n ≤ group_count ws
rebuilt-few l₀ ws l start n i f v =
    let few = counted-few _ (of_entries (λ h. rebuilt_of)) (record_groups ws) (contents l₀) (λ g p. one_rebuilt g p.entries) (contents l) n i v.doing.rest in
    omega (arith, few, groups_length ws f)

-- what is left to do makes of the ledger in hand what all groups make of the first
left_to_do : (l₀ : Ledger) (ws : List ℕ) (l : Ledger) (start n i : ℕ) → Rebuilding l₀ ws l start n i →
    with_entries (with_groups (record_shard ws) (drop i (record_groups ws)) (contents l).entries) (contents l) ≡ with_entries (with_groups (record_shard ws) (record_groups ws) (contents l₀).entries) (contents l₀)
left_to_do l₀ ws l start n i v =
    sym (through-entries (λ h. with_group (record_shard ws)) (drop i (record_groups ws)) (contents l))
    ∙ v.doing.rest.state ∙ through-entries (λ h. with_group (record_shard ws)) (record_groups ws) (contents l₀)

-- What was rebuilt is counted.
pub recount : (l : Ledger) (shard n : ℕ) → Countable shard n l → (d : Counts) → counts.Holds (counted shard n (counts_in l.counts)) d → (z : length l.entries ≡ 48) →
    Became (with_counts (counted shard n (contents l).counts) (contents l)) (counting l d z)
unfolding contents
recount l shard n c d q z =
    recounted l c.held (counted shard n (counts_in l.counts)) d q (counted-good shard n (counts_in l.counts) c.shard_is c.room c.held.good.counts) z

-- After the last group the ledger in hand has the entries that all groups leave, beside what the first has; n is what they rebuilt.
module _ (l₀ : Ledger) (ws : List ℕ) (l : Ledger) (start n i : ℕ) (p : Passed ws (contents l₀)) (v : Rebuilding l₀ ws l start n i) (last : group_count ws ≤ i) where
  abbrev all : (contents l ≡ with_entries (with_groups (record_shard ws) (record_groups ws) (contents l₀).entries) (contents l₀)) × (n ≡ rebuilds ws (contents l₀))
  all =
      let d = all_done _ _ (record_groups ws) l₀ l n i v.doing (omega (arith, last, groups_length ws p.formed)) in (
        d.0.holds ∙ through-entries (λ h. with_group (record_shard ws)) (record_groups ws) (contents l₀),
        d.1 ∙ tally-entries (λ h. with_group (record_shard ws)) (λ h. rebuilt_of) (record_groups ws) (contents l₀),
      )

  same_counts : (contents l).counts ≡ (contents l₀).counts
  same_counts = ap (λ (q : Plain). q.counts) all.0

  pub countable : Countable (record_shard ws) n l
  countable = record { held = v.doing.held; shard_is = p.shard; room = rw (all.1, same_counts) p.count }

  pub rebuilt-all : (r : Ledger) → Became (with_counts (counted (record_shard ws) n (contents l).counts) (contents l)) r → Held l₀ → 0 ≡ by_parts l₀ ws →
      Meets (after_abandonment ws (contents l₀)) [] [] (says n r)
  unfolding after_abandonment
  rebuilt-all r b held none =
      passes (abandonment_refusal ws (contents l₀)) (contents l₀) _ [] [] (says n r) (sym (by_keys l₀ held ws) ∙ sym none)
      (rw (sym all.1) (answers n r _ _ (record { held = b.held; holds = b.holds ∙ ap₂ with_counts (ap (counted (record_shard ws) n) same_counts) all.0 }) refl))

-- a turn of the loop: the group's transaction t was read, and the ledger after it
module _ (l₀ : Ledger) (ws : List ℕ) (p : Passed ws (contents l₀)) (l : Ledger) (start n i : ℕ) (v : Rebuilding l₀ ws l start n i) (h : i < group_count ws)
    (t : ℕ) (of_group : t ≡ (group_at ws i start).transaction) where
  abbrev g : Terms
  g = group_at ws i start

  abbrev shard : ℕ
  shard = record_shard ws

  more : drop i (record_groups ws) ≡ g ∷ drop (i + 1) (record_groups ws)
  more = group_at_lem ws p.formed i start h v.reach

  next : (b : Bool) (r : Ledger) → has transaction_of g.transaction (contents l).entries ≡ b →
      Became (with_entries (cond b (change transaction_of g.transaction (with_departed_by shard) (contents l).entries) (include transaction_of (rebuilt shard g) (contents l).entries)) (contents l)) r →
      Rebuilding l₀ ws r (start + reach_at ws i) (n + cond b 0 1) (i + 1)
  next b r e c =
      record {
        reach = reach-next ws p.formed i start h v.reach;
        doing =
            one_done _ _ (record_groups ws) l₀ l n i v.doing g more r
            (subst (λ d. Became (with_entries (cond d (change transaction_of g.transaction (with_departed_by shard) (contents l).entries) (include transaction_of (rebuilt shard g) (contents l).entries)) (contents l)) r) (sym e) c)
            (cond b 0 1) (ap (λ d. cond d 0 1) (sym e));
      }

  pub group_owed : (k : ℕ) (d y : Entry) → place (is t) 0 (keys_of l.roster) ≡ Some k →
      Means (with_departed_by shard (plain_entry (lying_at l k d))) y →
      (z : length (set l.entries (slot_at l k) y) ≡ 48) → Rebuilding l₀ ws (storing l (slot_at l k) y z) (start + reach_at ws i) n (i + 1)
  group_owed k d y e w s =
      let b = changed l v.doing.held t k y d (with_departed_by shard) e w.plain (λ z. refl)
      (with-name (contents l) t shard (departed_by-shard shard p.shard) v.doing.held.good) s in
      rw (let z : n + 0 ≡ n = omega arith in z) at
      (next true _ (ap (λ u. has transaction_of u (contents l).entries) (sym of_group) ∙ (found_at l v.doing.held t k e).known)
      (subst (λ u. Became (with_entries (change transaction_of u (with_departed_by shard) (contents l).entries) (contents l)) (storing l (slot_at l k) y s)) of_group b))

  unknown : place (is t) 0 (keys_of l.roster) ≡ None → has transaction_of g.transaction (contents l).entries ≡ false
  unknown e = ap (λ u. has transaction_of u (contents l).entries) (sym of_group) ∙ (not_found l v.doing.held t e).known

  -- what was counted leaves a place
  pub group_room : place (is t) 0 (keys_of l.roster) ≡ None → l.roster.len < 48
  unfolding contents
  group_room e =
      let es = (contents l).entries in
      let rest = drop (i + 1) (record_groups ws) in
      let one : rebuilt_by shard (drop i (record_groups ws)) es ≡ 1 + rebuilt_by shard rest (with_group shard g es) =
      ap (λ y. rebuilt_by shard y es) more ∙ ap (λ b. cond b 0 1 + rebuilt_by shard rest (with_group shard g es)) (unknown e) in
      omega (arith, one, p.room, groups_count shard (drop i (record_groups ws)) es, ap (λ (p : Plain). length p.entries) (left_to_do l₀ ws l start n i v), entries-length l v.doing.held)

  room-left : place (is t) 0 (keys_of l.roster) ≡ None → length (contents l).entries < 48
  unfolding contents
  room-left e = omega (arith, group_room e, entries-length l v.doing.held)

  -- the entry is of the group's transaction
  of_entry : (x : Entry) → Means (rebuilt shard g) x → number_of x.tx ≡ t
  unfolding plain_entry
  of_entry x m = ap transaction_of m.plain ∙ sym of_group

  pub group_new : Every (Holds is_word) ws → (k : ℕ) (r : Roster) → place (is t) 0 (keys_of l.roster) ≡ None → k ≡ rank (below t) (keys_of l.roster) → Inserted l.roster k t r →
      (x : Entry) → Means (rebuilt shard g) x → (z : length (set l.entries (free_slot l.roster) x) ≡ 48) →
      Rebuilding l₀ ws (with_parts l l.counts r (set l.entries (free_slot l.roster) x) l.issuers l.departures z) (start + reach_at ws i) (n + 1) (i + 1)
  group_new words k r e q o x m z =
      let goods = every_drop GoodGroup i (record_groups ws) (groups_good ws words p.formed p.timed) in
      let good : GoodGroup g = (rw more at goods).0 in
      let entry : GoodEntry (contents l).local (plain_entry x) = rw m.plain (rebuilt-good (contents l).local shard g p.shard (departed_by-shard shard p.shard) good) in
      let same = of_entry x m in
      let b = taken_in l v.doing.held k x r l.issuers (rw same e) (rw same q) (group_room e) entry.terms.transaction (rw same o) (rw m.plain v.doing.held.issuers)
      (including_good (contents l) (plain_entry x) entry (room-left e) v.doing.held.good) z in
      next false _ (unknown e)
      (subst (λ y. Became (with_entries (include transaction_of y (contents l).entries) (contents l)) (with_parts l l.counts r (set l.entries (free_slot l.roster) x) l.issuers l.departures z)) m.plain b)

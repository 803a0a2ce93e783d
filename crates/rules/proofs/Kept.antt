-- Every changing call keeps what every reachable ledger has; a making hands back a ledger that has it.
-- Assumes nothing.
use Prim.Native.Nat.{ℕ, zero, suc, ◌+◌, ◌-◌, ◌≤◌}
use mathlib.Core.Path.{◌≡◌, refl, ap, ◌∙◌}
use mathlib.Core.Bool.{Bool, true, false, cond, not, ◌&&◌, ◌||◌, false≢true}
use mathlib.Core.List.{List, [], ◌∷◌, map}
use mathlib.Core.Option.{Option, none, some}
use native.Mathlib.Omega.{arith}
use lib.Dec.{eqb, ltb, leb}
use lib.ListN.{length}
use borrow.Author.Tests.{ltb-false, eqb-false, lt-ltb}
use Rattle.lists.specs.Lists.{cons_if, keep, all_of, filled, Every, at, has, get, change, include, self, set_of}
use Rattle.lists.proofs.Tests.{and_left, and_right, by_cond, cond_same, cond_both}
use Rattle.lists.proofs.Keep.{length-keep, length-change_if, every_keep, keep_same, each_of}
use Rattle.lists.proofs.Order.{ascending-keep, ascending-change_if, ascending-include, ascending-include_all, every_include, length-include, length-include_new, include-known, include_within}
use Rattle.lists.proofs.Change.{every_change, has-change, has-include, new_include_known, new_include}
use Rattle.lists.proofs.Items.{through_keeps}
use Rattle.rules.specs.Numbers.{is_word, is_time, is_shard, is_span, max_entries, max_absences, max_departures, max_counts}
use Rattle.rules.specs.Plain.{Part, whole, leg, core, remainder, Terms, Absence, Entry, Departure, Count, Plain, is_core, is_settling, transaction_of, absence_key, shard_of, counted_shard, empty, with_entries, with_departures, with_counts, owed, entry_of, issues, owes}
use Rattle.rules.specs.Words.{word, transaction_size, transaction_at, decomposed, admission_terms, admission_formed, admission_timed, admission_placed, record_shard, record_groups, record_formed, record_timed, finalization_lines, deciding, Line, Item, bundle_items}
use Rattle.rules.specs.Entries.{admitted, rebuilt, with_part, with_certificate, with_departed_by, with_marks, read_absent, certified, marked, is_closed, with_group, with_groups, rebuilt_by, skip, resolve, release, ruling, ruled, with_lines}
use Rattle.rules.specs.Prune.{survivors, pruned, stands, remains}
use Rattle.rules.specs.Outcome.{Outcome, unless, ◌gives◌then◌}
use Rattle.rules.specs.Calls.{Call, admission, absence, certify, abandonment, settled, returned, closes, fated, finalization, forget, terminal, stamp, prune, bundle, step, run, making, making_refusal, unowed, no_room_for, admission_refusal, after_admission, is_new, is_full, absence_refusal, after_absence, certify_refusal, after_certify, raised, opened, counted, no_count_for, rebuilds, abandonment_refusal, after_abandonment, after_mark, closes_refusal, after_closes, is_fated, after_fated, finalization_refusal, after_finalization, after_forget, first_stamp, stamped, departed, terminal_refusal, after_terminal, stamp_refusal, after_stamp, prune_refusal, after_prune, with_item, bundle_refusal, after_bundle}
use Rattle.rules.specs.Good.{Holds, GoodAbsence, Marked, GoodPart, is_departed_by, GoodEntry, GoodStamp, GoodDeparture, GoodCount, GoodRows, GoodFile, GoodEntries, GoodDepartures, GoodCounts, Good, OfWords}
use Rattle.rules.proofs.Items.{by_item, OfWordsItem, items-words}
use Rattle.rules.proofs.Taken.{words-at, admitted-good, GoodGroup, groups_good, rebuilt-good}

-- The refusal table.

pub unless-good : (P : Plain → Type 0) (n : ℕ) (p : Plain) (o : Outcome) → P p → (n ≡ 0 → P o.ledger) → P (unless n p o).ledger
unless-good P zero p o g f = f refl
unless-good P (suc n) p o g f = g

-- what a call that may be refused says: the number, and then nothing is done; or all
pub unless-refused : (n : ℕ) (p : Plain) (o : Outcome) → o.refused ≡ 0 → (unless n p o).refused ≡ n
unless-refused zero p o h = h
unless-refused (suc n) p o h = refl

pub unless-none : (n : ℕ) (p : Plain) (o : Outcome) → n ≡ 0 → unless n p o ≡ o
unless-none zero p o h = refl
unless-none (suc n) p o h = absurd (omega arith)

pub unless_some : (n m : ℕ) (p : Plain) (o : Outcome) → n ≡ suc m → (unless n p o).ledger ≡ p
unless_some zero m p o h = absurd (omega arith)
unless_some (suc n) m p o h = refl

-- a table that gives no number: its first condition fails, and the rest gives none
pub passed : (b : Bool) (n m : ℕ) → b gives suc n then m ≡ 0 → (b ≡ false) × (m ≡ 0)
passed true n m e = absurd (omega arith)
passed false n m e = (refl, e)

-- the same where the condition is that a test fails
pub tested : (b : Bool) (n m : ℕ) → not b gives suc n then m ≡ 0 → (b ≡ true) × (m ≡ 0)
tested true n m e = (refl, e)
tested false n m e = absurd (omega arith)

-- One entry.

-- the part goes by the terms and the marks alone, so every other change keeps it
module _ (local : ℕ) (e : Entry) (g : GoodEntry local e) where
  certificate-good : (code : ℕ) → code ≤ 2 → GoodEntry local (with_certificate code e)
  certificate-good code c =
      record {
        terms = g.terms;
        certificate = c;
        departed_by = g.departed_by;
        absence_count = g.absence_count;
        absences = g.absences;
        absence_order = g.absence_order;
        part = g.part;
      }

  pub departed_by-good : (shard : ℕ) → is_departed_by shard ≡ true → GoodEntry local (with_departed_by shard e)
  departed_by-good shard n =
      record {
        terms = g.terms;
        certificate = g.certificate;
        departed_by = n;
        absence_count = g.absence_count;
        absences = g.absences;
        absence_order = g.absence_order;
        part = g.part;
      }

  absence-good : (a : Absence) → GoodAbsence a → length (include absence_key a e.absences) ≤ max_absences → GoodEntry local (read_absent a e)
  absence-good a h n =
      record {
        terms = g.terms;
        certificate = g.certificate;
        departed_by = g.departed_by;
        absence_count = n;
        absences = every_include absence_key GoodAbsence a e.absences h g.absences;
        absence_order = ascending-include absence_key a e.absences g.absence_order;
        part = g.part;
      }

  part-good : (q : Part) (marks : List ℕ) (is_returned : Bool) → GoodPart q local e.terms marks is_returned →
      GoodEntry local (with_marks marks is_returned (with_part q e))
  part-good q marks is_returned h =
      record {
        terms = g.terms;
        certificate = g.certificate;
        departed_by = g.departed_by;
        absence_count = g.absence_count;
        absences = g.absences;
        absence_order = g.absence_order;
        part = h;
      }

  certified-good : (code : ℕ) → code ≤ 2 → GoodEntry local (certified code e)
  certified-good code c =
      certificate-good (cond (ltb e.certificate code) code e.certificate)
      (by_cond (λ n. n ≤ 2) (ltb e.certificate code) code e.certificate (λ _. c) (λ _. g.certificate))

-- a mark on an issued record
mark_more : (local : ℕ) (t : Terms) (r : ℕ) (is_return : Bool) (marks : List ℕ) (is_returned : Bool) → issues local r t ≡ true →
    Marked local t marks is_returned → Marked local t (include self r marks) (is_returned || is_return)
mark_more local t r is_return marks is_returned i m =
    record {
      rising = ascending-include self r marks m.rising;
      among = every_include self (λ r. issues local r t ≡ true) r marks i m.among;
      returned = λ _. filled-include marks;
    }
  where
    filled-include : (l : List ℕ) → filled (include self r l) ≡ true
    filled-include [] = refl
    filled-include (x ∷ l) = by_cond (λ m. filled m ≡ true) (ltb r x) (r ∷ x ∷ l) _ (λ _. refl) (λ _. refl)

settling-good : (local : ℕ) (e : Entry) (r : ℕ) (is_return : Bool) (q : Part) → is_settling q ≡ true → issues local r e.terms ≡ true →
    GoodPart q local e.terms e.marks e.returned → GoodPart q local e.terms (include self r e.marks) (e.returned || is_return)
settling-good local e r is_return whole s i g = absurd (false≢true s)
settling-good local e r is_return leg s i g = (g.0, mark_more local e.terms r is_return e.marks e.returned i g.1)
settling-good local e r is_return core s i g = absurd (false≢true s)
settling-good local e r is_return remainder s i g =
    (g.0, g.1, mark_more local e.terms r is_return e.marks e.returned i g.2)

marked-good : (local r : ℕ) (is_return : Bool) (e : Entry) → GoodEntry local e → GoodEntry local (marked local r is_return e)
marked-good local r is_return e g =
    by_cond (GoodEntry local) (is_settling e.part && issues local r e.terms) _ e
    (λ h. part-good local e g e.part (include self r e.marks) (e.returned || is_return)
    (settling-good local e r is_return e.part (and_left (is_settling e.part) _ h) (and_right (is_settling e.part) _ h) g.part))
    (λ _. g)

-- a core that owes turned to remainder
resolved_good : (local : ℕ) (e : Entry) → is_core e.part ≡ true → owes local e.terms ≡ true → GoodEntry local e → GoodEntry local (with_part remainder e)
resolved_good local e c o g = part-good local e g remainder [] false (in_core e.part c g.part, o, record { rising = tt; among = tt; returned = λ q. q })
  where
    in_core : (q : Part) → is_core q ≡ true → GoodPart q local e.terms e.marks e.returned → has self local e.terms.core_shards ≡ true
    in_core whole h k = absurd (false≢true h)
    in_core leg h k = absurd (false≢true h)
    in_core core h k = k.0
    in_core remainder h k = absurd (false≢true h)

-- A file of rows.

module _ {A : Type 0} (key_of : A → ℕ) (Each : A → Type 0) where
  -- rows that pass a test
  kept-rows : (q : A → Bool) (l : List A) → GoodRows key_of Each l → GoodRows key_of Each (keep q l)
  kept-rows q l g = record { each = every_keep Each q l g.each; order = ascending-keep key_of q l g.order }

  -- one row changed: f leaves its key, and keeps it good where it is the one
  changed_rows : (t : ℕ) (f : A → A) (l : List A) → ((e : A) → key_of (f e) ≡ key_of e) → ((e : A) → get key_of t l ≡ some e → Each e → Each (f e)) →
      GoodRows key_of Each l → GoodRows key_of Each (change key_of t f l)
  changed_rows t f l k c g =
      record { each = every_change key_of Each t f l g.order c g.each; order = ascending-change_if key_of (at key_of t) f k l g.order }

  pub included_rows : (e : A) (l : List A) → Each e → GoodRows key_of Each l → GoodRows key_of Each (include key_of e l)
  included_rows e l h g = record { each = every_include key_of Each e l h g.each; order = ascending-include key_of e l g.order }

  module _ (limit : ℕ) where
    kept-file : (q : A → Bool) (l : List A) → GoodFile key_of Each limit l → GoodFile key_of Each limit (keep q l)
    kept-file q l g = record { count = omega (arith, g.count, length-keep q l); rows = kept-rows q l g.rows }

    changed_file : (t : ℕ) (f : A → A) (l : List A) → ((e : A) → key_of (f e) ≡ key_of e) → ((e : A) → get key_of t l ≡ some e → Each e → Each (f e)) →
        GoodFile key_of Each limit l → GoodFile key_of Each limit (change key_of t f l)
    changed_file t f l k c g =
        record { count = omega (arith, g.count, length-change_if (at key_of t) f l); rows = changed_rows t f l k c g.rows }

-- the ledger with other entries, other departures, another count
pub with_entries_lem : (p : Plain) (es : List Entry) → Good p → GoodEntries p.local es → Good (with_entries es p)
with_entries_lem p es g h = record { frame = g.frame; entries = h; departures = g.departures; counts = g.counts }

pub with-departures : (p : Plain) (ds : List Departure) → Good p → GoodDepartures ds → Good (with_departures ds p)
with-departures p ds g h = record { frame = g.frame; entries = g.entries; departures = h; counts = g.counts }

pub with-counts : (p : Plain) (cs : List Count) → Good p → GoodCounts cs → Good (with_counts cs p)
with-counts p cs g h = record { frame = g.frame; entries = g.entries; departures = g.departures; counts = h }

-- the ledger with entries kept, or with one changed
pub keeps : (p : Plain) (q : Entry → Bool) → Good p → Good (with_entries (keep q p.entries) p)
keeps p q g = with_entries_lem p (keep q p.entries) g (kept-file transaction_of (GoodEntry p.local) max_entries q p.entries g.entries)

pub changes : (p : Plain) (t : ℕ) (f : Entry → Entry) → ((e : Entry) → transaction_of (f e) ≡ transaction_of e) →
    ((e : Entry) → get transaction_of t p.entries ≡ some e → GoodEntry p.local e → GoodEntry p.local (f e)) → Good p → Good (with_entries (change transaction_of t f p.entries) p)
changes p t f k c g =
    with_entries_lem p (change transaction_of t f p.entries) g (changed_file transaction_of (GoodEntry p.local) max_entries t f p.entries k c g.entries)

abbrev Rows : ℕ → List Entry → Type 0
Rows local es = GoodRows transaction_of (GoodEntry local) es

-- Abandonment record: the entries stay good, and there are as many more as were rebuilt, which are the distinct transactions
-- not yet owed.

groups_kept : (local shard : ℕ) → is_shard shard ≡ true → is_departed_by shard ≡ true → (gs : List Terms) → Every GoodGroup gs → (es : List Entry) → Rows local es → Rows local (with_groups shard gs es)
groups_kept local shard s n [] v es g = g
groups_kept local shard s n (t ∷ gs) v es g =
    groups_kept local shard s n gs v.1 (with_group shard t es)
    (by_cond (Rows local) (has transaction_of t.transaction es) _ _
    (λ _. changed_rows transaction_of (GoodEntry local) t.transaction (with_departed_by shard) es (λ e. refl) (λ e _ h. departed_by-good local e h shard n) g)
    (λ _. included_rows transaction_of (GoodEntry local) (rebuilt shard t) es (rebuilt-good local shard t s n v.0) g))

pub groups_count : (shard : ℕ) (gs : List Terms) (es : List Entry) → length (with_groups shard gs es) ≡ length es + rebuilt_by shard gs es
groups_count shard [] es = omega arith
groups_count shard (t ∷ gs) es = omega (arith, groups_count shard gs (with_group shard t es), one (has transaction_of t.transaction es) refl)
  where
    one : (b : Bool) → has transaction_of t.transaction es ≡ b →
        length (cond b (change transaction_of t.transaction (with_departed_by shard) es) (include transaction_of (rebuilt shard t) es)) ≡ length es + cond b 0 1
    one true h = omega (arith, length-change_if (at transaction_of t.transaction) (with_departed_by shard) es)
    one false h = omega (arith, length-include_new transaction_of (rebuilt shard t) es h)

abbrev group_transactions : List Terms → List ℕ
group_transactions gs = map (λ (g : Terms). g.transaction) gs

pub rebuilt-count : (shard : ℕ) (gs : List Terms) (es : List Entry) → rebuilt_by shard gs es ≡ length (keep (λ t. not (has transaction_of t es)) (set_of (group_transactions gs)))
rebuilt-count shard [] es = refl
rebuilt-count shard (g ∷ gs) es = go (has transaction_of g.transaction es) refl (rebuilt-count shard gs (with_group shard g es))
  where
    go : (b : Bool) → has transaction_of g.transaction es ≡ b →
        rebuilt_by shard gs (with_group shard g es) ≡ length (keep (λ u. not (has transaction_of u (with_group shard g es))) (set_of (group_transactions gs))) →
        cond b 0 1 + rebuilt_by shard gs (with_group shard g es) ≡ length (keep (λ u. not (has transaction_of u es)) (include self g.transaction (set_of (group_transactions gs))))
    go true h ih =
        let same = keep_same (λ u. not (has transaction_of u (with_group shard g es))) (λ u. not (has transaction_of u es)) (set_of (group_transactions gs))
        (λ u _. rw h (ap not (has-change transaction_of u g.transaction (with_departed_by shard) es (λ e. refl)))) in
        rw (new_include_known (λ u. has transaction_of u es) g.transaction (set_of (group_transactions gs)) h) (omega (arith, ih, ap length same))
    go false h ih =
        let same = keep_same (λ u. not (has transaction_of u (with_group shard g es))) (λ u. not (eqb g.transaction u || has transaction_of u es)) (set_of (group_transactions gs))
        (λ u _. rw h (ap not (has-include transaction_of u (rebuilt shard g) es))) in
        rw (new_include (λ u. has transaction_of u es) g.transaction (set_of (group_transactions gs)) (ascending-include_all self (group_transactions gs) [] tt) h) (omega (arith, ih, ap length same))

-- What it rebuilds is counted with its shard, where there is room for a count.

raised_good : (n : ℕ) (c : Count) → GoodCount c → GoodCount (raised n c)
raised_good n c g = record { shard = g.shard; some = omega (arith, g.some); few = omega arith }

opened-good : (shard n : ℕ) → is_shard shard ≡ true → eqb n 0 ≡ false → GoodCount (opened shard n)
opened-good shard n s z = record { shard = s; some = omega (arith, eqb-false n 0 z); few = omega arith }

pub counted-good : (shard n : ℕ) (cs : List Count) → is_shard shard ≡ true → no_count_for shard n cs ≡ false → GoodCounts cs → GoodCounts (counted shard n cs)
counted-good shard n cs s room g = by_cond GoodCounts (eqb n 0) cs _ (λ _. g) some
  where
    some : eqb n 0 ≡ false → GoodCounts (cond (has counted_shard shard cs) (change counted_shard shard (raised n) cs) (include counted_shard (opened shard n) cs))
    some z =
        by_cond GoodCounts (has counted_shard shard cs) _ _
        (λ _. changed_file counted_shard GoodCount max_counts shard (raised n) cs (λ c. refl) (λ c _. raised_good n c) g)
        (λ _.
        record {
          count = include_within counted_shard max_counts (opened shard n) cs g.rows.order g.count (rw (lt-ltb 0 n (omega (arith, eqb-false n 0 z))) at room);
          rows = included_rows counted_shard GoodCount (opened shard n) cs (opened-good shard n s z) g.rows;
        })

-- Finalization: line by line.

ruling-kept : (local : ℕ) (ds : List ℕ) (l : Line) (es : List Entry) → GoodEntries local es →
    GoodEntries local (ruled (ruling local ds l (get transaction_of l.transaction es)) l.transaction es)
ruling-kept local ds l es g = found (get transaction_of l.transaction es) refl
  where
    resolved : (e : Entry) → get transaction_of l.transaction es ≡ some e → is_core e.part && owes local e.terms ≡ true → GoodEntries local (ruled resolve l.transaction es)
    resolved e q h =
        changed_file transaction_of (GoodEntry local) max_entries l.transaction (with_part remainder) es (λ x. refl)
        (λ x q' k. let same : x ≡ e = cc in resolved_good local x (rw same (and_left (is_core e.part) _ h)) (rw same (and_right (is_core e.part) _ h)) k) g

    found : (o : Option Entry) → get transaction_of l.transaction es ≡ o → GoodEntries local (ruled (ruling local ds l o) l.transaction es)
    found none q = g
    found (some e) q =
        by_cond (λ r. GoodEntries local (ruled r l.transaction es)) (is_settling e.part && not (has self l.transaction ds)) skip _
        (λ _. g)
        (λ _. by_cond (λ r. GoodEntries local (ruled r l.transaction es)) (eqb l.decision 1 && (is_core e.part && owes local e.terms)) resolve release
        (λ h. resolved e q (and_right (eqb l.decision 1) _ h))
        (λ _. kept-file transaction_of (GoodEntry local) max_entries (λ x. not (eqb (transaction_of x) l.transaction)) es g))

lines_kept : (local : ℕ) (ds : List ℕ) (ls : List Line) (es : List Entry) → GoodEntries local es → GoodEntries local (with_lines local ds ls es)
lines_kept local ds [] es g = g
lines_kept local ds (l ∷ ls) es g = lines_kept local ds ls _ (ruling-kept local ds l es g)

-- The calls.

pub admitted-transaction : (local : ℕ) (ws : List ℕ) → transaction_of (admitted local ws) ≡ (admission_terms ws).transaction
unfolding admitted
admitted-transaction local ws = cond_same transaction_of (eqb (decomposed ws) 0) _ _ ∙ cond_both (eqb (decomposed ws) 0) (admission_terms ws).transaction

-- an entry is put in, or stands already
room_for_one : (p : Plain) → Good p → (t : ℕ) (e : Entry) → transaction_of e ≡ t → no_room_for (t ∷ []) p ≡ false → length (include transaction_of e p.entries) ≤ max_entries
room_for_one p g t e q room = go (owed t p) refl room
  where
    go : (b : Bool) → owed t p ≡ b → ltb (48 - length p.entries) (length (cons_if (not b) t [])) ≡ false → length (include transaction_of e p.entries) ≤ 48
    go true h r = rw (include-known transaction_of e p.entries g.entries.rows.order (rw q h)) g.entries.count
    go false h r = omega (arith, length-include transaction_of e p.entries, ltb-false (48 - length p.entries) 1 r)

admission-kept : (ws : List ℕ) (p : Plain) → Every (Holds is_word) ws → Good p → Good (after_admission ws p).ledger
unfolding after_admission
admission-kept ws p v g =
    unless-good Good (admission_refusal ws p) p _ g λ e.
    let f = tested (admission_formed ws) 4 _ e in
    let t = tested (admission_timed ws) 2 _ f.1 in
    let s = tested (admission_placed ws) 3 _ t.1 in
    let room = (passed (no_room_for ((admission_terms ws).transaction ∷ []) p) 5 0 s.1).0 in
    let new = admitted p.local ws in
    with_entries_lem p (include transaction_of new p.entries) g
    (record {
      count = room_for_one p g (admission_terms ws).transaction new (admitted-transaction p.local ws) room;
      rows = included_rows transaction_of (GoodEntry p.local) new p.entries (admitted-good p.local ws v f.0 t.0 s.0) g.entries.rows;
    })

absence-kept : (t : ℕ) (a : Absence) (p : Plain) → is_word a.key ≡ true → Good p → Good (after_absence t a p).ledger
unfolding after_absence
absence-kept t a p w g =
    unless-good Good (absence_refusal t a p) p _ g λ e.
    let s = tested (is_shard a.shard) 3 _ e in
    let room = (passed (is_new a (entry_of t p) && is_full (entry_of t p)) 6 0 s.1).0 in
    changes p t (read_absent a) (λ x. refl)
    (λ x q h. absence-good p.local x h a (record { shard = s.0; key = w }) (include_within absence_key max_absences a x.absences h.absence_order h.absence_count (rw q at room)))
    g

certify-kept : (t code : ℕ) (p : Plain) → Good p → Good (after_certify t code p).ledger
unfolding after_certify
certify-kept t code p g =
    unless-good Good (certify_refusal code) p _ g λ e.
    let c : code ≤ 2 = ltb-false 2 code (passed (ltb 2 code) 4 0 e).0 in
    changes p t (certified code) (λ x. refl) (λ x _ h. certified-good p.local x h code c) g

pub departed_by-shard : (n : ℕ) → is_shard n ≡ true → is_departed_by n ≡ true
departed_by-shard zero h = refl
departed_by-shard (suc n) h = h

abandonment-kept : (ws : List ℕ) (p : Plain) → Every (Holds is_word) ws → Good p → Good (after_abandonment ws p).ledger
unfolding after_abandonment
abandonment-kept ws p v g =
    unless-good Good (abandonment_refusal ws p) p _ g λ e.
    let f = tested (record_formed ws) 4 _ e in
    let t = tested (record_timed ws) 2 _ f.1 in
    let s = tested (is_shard (record_shard ws)) 3 _ t.1 in
    let gs = record_groups ws in
    let l = passed (no_room_for (group_transactions gs) p) 5 _ s.1 in
    let room = ltb-false (48 - length p.entries) (length (unowed (group_transactions gs) p)) l.0 in
    with-counts (with_entries (with_groups (record_shard ws) gs p.entries) p) _
    (with_entries_lem p (with_groups (record_shard ws) gs p.entries) g
    (record {
      count = omega (arith, room, g.entries.count, groups_count (record_shard ws) gs p.entries, rebuilt-count (record_shard ws) gs p.entries);
      rows = groups_kept p.local (record_shard ws) s.0 (departed_by-shard (record_shard ws) s.0) gs (groups_good ws v f.0 t.0) p.entries g.entries.rows;
    }))
    (counted-good (record_shard ws) (rebuilds ws p) p.counts s.0 (passed (no_count_for (record_shard ws) (rebuilds ws p) p.counts) 13 0 l.1).0 g.counts)

mark_kept : (r t : ℕ) (is_return : Bool) (p : Plain) → Good p → Good (after_mark r t is_return p).ledger
unfolding after_mark
mark_kept r t is_return p g =
    changes p t (marked p.local r is_return)
    (λ x. by_cond (λ y. transaction_of y ≡ transaction_of x) (is_settling x.part && issues p.local r x.terms) _ x (λ _. refl) (λ _. refl))
    (λ x _ h. marked-good p.local r is_return x h) g

closes_kept : (room : ℕ) (p : Plain) → Good p → Good (after_closes room p).ledger
unfolding after_closes
closes_kept room p g = unless-good Good (closes_refusal room p) p _ g λ e. keeps p (λ x. not (is_closed p.local x)) g

fated-kept : (t : ℕ) (p : Plain) → Good p → Good (after_fated t p).ledger
unfolding after_fated
fated-kept t p g =
    by_cond (λ (o : Outcome). Good o.ledger) (is_fated (entry_of t p)) _ _ (λ _. keeps p (λ x. not (eqb (transaction_of x) t)) g) (λ _. g)

finalization-kept : (ws : List ℕ) (p : Plain) → Good p → Good (after_finalization ws p).ledger
unfolding after_finalization
finalization-kept ws p g =
    unless-good Good (finalization_refusal ws) p _ g λ e.
    with_entries_lem p _ g (lines_kept p.local (deciding ws) (finalization_lines ws) p.entries g.entries)

forget-kept : (t : ℕ) (p : Plain) → Good p → Good (after_forget t p).ledger
unfolding after_forget
forget-kept t p g = keeps p (λ x. not (eqb (transaction_of x) t)) g

stamped-good : (until : ℕ) → is_time until ≡ true → (d : Departure) → GoodDeparture d → GoodDeparture (stamped until d)
stamped-good until h d g = record { shard = g.shard; cut = g.cut; stamp = first d.stamp g.stamp }
  where
    first : (s : Option ℕ) → GoodStamp s → GoodStamp (first_stamp until s)
    first none k = h
    first (some u) k = k

stamps : (p : Plain) (shard until : ℕ) (ds : List Departure) → is_time until ≡ true → Good (with_departures ds p) → Good (with_departures (change shard_of shard (stamped until) ds) p)
stamps p shard until ds h g =
    with-departures (with_departures ds p) (change shard_of shard (stamped until) ds) g
    (changed_file shard_of GoodDeparture max_departures shard (stamped until) ds (λ d. refl) (λ d _. stamped-good until h d) g.departures)

terminal-kept : (shard cut is_stamped until : ℕ) (p : Plain) → Good p → Good (after_terminal shard cut is_stamped until p).ledger
unfolding after_terminal
terminal-kept shard cut is_stamped until p g =
    unless-good Good (terminal_refusal shard cut is_stamped until p) p _ g λ e.
    let c = passed (ltb 1 is_stamped) 4 _ e in
    let t = tested (is_time cut && (eqb is_stamped 0 || is_time until)) 2 _ c.1 in
    let s = tested (is_shard shard) 3 _ t.1 in
    let room = (passed (not (has shard_of shard p.departures) && leb 32 (length p.departures)) 7 0 s.1).0 in
    let times = and_left (is_time cut) _ t.0 in
    let ds = departed shard cut p.departures in
    let new : Departure = record { shard = shard; cut = cut; stamp = none } in
    let on : Good (with_departures ds p) =
    with-departures p ds g
    (record {
      count = include_within shard_of max_departures new p.departures g.departures.rows.order g.departures.count room;
      rows = included_rows shard_of GoodDeparture new p.departures (record { shard = s.0; cut = times; stamp = tt }) g.departures.rows;
    }) in
    by_cond (λ l. Good (with_departures l p)) (eqb is_stamped 0) ds _ (λ _. on)
    (λ u. stamps p shard until ds (rw u at (and_right (is_time cut) (eqb is_stamped 0 || is_time until) t.0)) on)

stamp-kept : (shard until : ℕ) (p : Plain) → Good p → Good (after_stamp shard until p).ledger
unfolding after_stamp
stamp-kept shard until p g =
    unless-good Good (stamp_refusal shard until) p _ g λ e. stamps p shard until p.departures (tested (is_time until) 2 _ e).0 g

pub pruned-kept : (now : ℕ) (p : Plain) → Good p → Good (pruned now p)
unfolding pruned survivors
pruned-kept now p g =
    let q = remains p.local (survivors now p) in
    with-departures (with_entries (survivors now p) p) (keep q p.departures) (keeps p (stands p now) g)
    (kept-file shard_of GoodDeparture max_departures q p.departures g.departures)

prune-kept : (now room : ℕ) (p : Plain) → Good p → Good (after_prune now room p).ledger
unfolding after_prune
prune-kept now room p g = unless-good Good (prune_refusal now room p) p _ g λ e. pruned-kept now p g

-- Bundle: each of its items keeps it.
pub item-good : (i : Item) (p : Plain) → OfWordsItem i → Good p → Good (with_item i p)
item-good i p v g =
    by_item (λ c f. Good (f p).ledger) i
    (terminal-kept (word 0 ws) (word 1 ws) (word 2 ws) (word 3 ws) p g)
    (abandonment-kept ws p v g)
    (finalization-kept ws p g)
    (admission-kept ws p v g)
    (absence-kept (transaction_at 0 ws) (record { shard = word transaction_size ws; key = word (transaction_size + 1) ws }) p (words-at (transaction_size + 1) ws v) g)
    (finalization-kept [] p g)
  where
    ws : List ℕ
    ws = i.words

pub bundle_kept : (ws : List ℕ) (p : Plain) → Every (Holds is_word) ws → Good p → Good (after_bundle ws p).ledger
unfolding after_bundle
bundle_kept ws p v g =
    unless-good Good (bundle_refusal ws p) p _ g
    (λ _. through_keeps with_item OfWordsItem Good item-good (bundle_items ws) (items-words ws v) p g)

-- every step keeps a good ledger good
pub step-good : (c : Call) → OfWords c → (p : Plain) → Good p → Good (step c p).ledger
step-good (admission ws) w p g = admission-kept ws p w g
step-good (absence t shard key) w p g = absence-kept t (record { shard = shard; key = key }) p w g
step-good (certify t code) w p g = certify-kept t code p g
step-good (abandonment ws) w p g = abandonment-kept ws p w g
step-good (settled r t) w p g = mark_kept r t false p g
step-good (returned r t) w p g = mark_kept r t true p g
step-good (closes room) w p g = closes_kept room p g
step-good (fated t) w p g = fated-kept t p g
step-good (finalization ws) w p g = finalization-kept ws p g
step-good (forget t) w p g = forget-kept t p g
step-good (terminal shard cut is_stamped until) w p g = terminal-kept shard cut is_stamped until p g
step-good (stamp shard until) w p g = stamp-kept shard until p g
step-good (prune now room) w p g = prune-kept now room p g
step-good (bundle ws) w p g = bundle_kept ws p w g

pub run-good : (cs : List Call) → Every OfWords cs → (p : Plain) → Good p → Good (run cs p)
run-good [] v p g = g
run-good (c ∷ cs) v p g = run-good cs v.1 (step c p).ledger (step-good c v.0 p g)

empty-good : (local v c l : ℕ) → is_shard local ≡ true → is_span v ≡ true → is_span c ≡ true → is_span l ≡ true → Good (empty local v c l)
empty-good local v c l s hv hc hl =
    record {
      frame = record { local = s; validity = hv; core_span = hc; leg_span = hl };
      entries = record { count = omega arith; rows = record { each = tt; order = tt } };
      departures = record { count = omega arith; rows = record { each = tt; order = tt } };
      counts = record { count = omega arith; rows = record { each = tt; order = tt } };
    }

-- what a making hands back is good, a refused one's too
pub making-good : (local v c l : ℕ) → Good (making local v c l).ledger
unfolding making
making-good local v c l =
    unless-good Good (making_refusal local v c l) (empty 1 1 1 1) _ (empty-good 1 1 1 1 refl refl refl refl) λ e.
    let s = tested (is_shard local) 0 _ e in
    let spans = each_of (is_span v ∷ is_span c ∷ is_span l ∷ []) (tested (all_of (is_span v ∷ is_span c ∷ is_span l ∷ [])) 1 0 s.1).0 in
    empty-good local v c l s.0 spans.0 spans.1.0 spans.1.1.0

-- Calls of many items that stay apart from what a prune takes: a finalization line by line, an abandonment record group by group.
-- Assumes nothing.
use Prim.Native.Nat.{ℕ}
use mathlib.Core.Path.{◌≡◌, refl, sym, ap, ◌∙◌}
use mathlib.Core.Bool.{Bool, true, false, cond, not, false≢true}
use mathlib.Core.List.{List, [], ◌∷◌, map}
use lib.Dec.{eqb, ltb}
use borrow.Author.Tests.{ne_eqb}
use Rattle.lists.specs.Lists.{any, Every, Ascending, at, has, change, include}
use Rattle.lists.proofs.Tests.{and_false, by_cond}
use Rattle.lists.proofs.Keep.{every_unmap, every_keep, every_change_if}
use Rattle.lists.proofs.Order.{ascending-change_if, ascending-include, every_include}
use Rattle.lists.proofs.Change.{has-change, has-include}
use Rattle.lists.proofs.Distinct.{or_neither, or_not_right}
use Rattle.lists.proofs.Items.{through_keeps, through_same, through-part, tally-part}
use Rattle.lists.proofs.Parted.{kept_passes, every_two, get-keep, has-keep, keep-change, change_beside, keep-without, without_beside, keep-put, put_beside}
use Rattle.rules.specs.Numbers.{is_shard}
use Rattle.rules.specs.Plain.{remainder, Terms, Entry, Plain, transaction_of, shard_of, remote, owed}
use Rattle.rules.specs.Words.{record_shard, record_groups, record_formed, record_timed, finalization_lines, deciding, Line}
use Rattle.rules.specs.Entries.{rebuilt, with_part, with_departed_by, with_group, rebuilt_of, with_groups, Ruling, skip, resolve, release, ruling, ruled, is_release, ruling_in, with_line, released_of, with_lines}
use Rattle.rules.specs.Over.{over}
use Rattle.rules.specs.Prune.{is_of_departed_by, holds}
use Rattle.rules.specs.Outcome.{◌gives◌then◌}
use Rattle.rules.specs.Calls.{no_room_for, abandonment_refusal, after_abandonment, finalization_refusal, after_finalization, no_count_for, rebuilds}
use Rattle.rules.specs.Good.{Good}
use Rattle.rules.specs.LeftOut.{Taking, less, Omitted, dropped_in, is_for_room, Clear}
use Rattle.rules.proofs.Less.{is_left, Felled, Beside}
use Rattle.rules.proofs.Kept.{unless-refused}
use Rattle.rules.proofs.Moved.{table_same, Paired, unless_paired, done_paired, stays, goes, counted_moved, entries_moved, owed_same, room-less}

module _ (o : Omitted) (fell : Felled) (p : Plain) (b : Beside o fell p) where
  abbrev k : Taking
  k = o.taken

  abbrev left : List Entry → List Entry
  left es = stays o fell p b es

  abbrev gone : List Entry → List Entry
  gone es = goes o fell p b es

  -- Finalization.
  ruled-left : (r : Ruling) (x : ℕ) (es : List Entry) → left (ruled r x es) ≡ ruled r x (left es)
  ruled-left skip x es = refl
  ruled-left resolve x es = keep-change transaction_of (is_left k) (with_part remainder) (λ e. refl) x es
  ruled-left release x es = keep-without transaction_of (is_left k) x es

  ruled-gone : (r : Ruling) (x : ℕ) → k.is_fallen x ≡ false → (es : List Entry) → gone (ruled r x es) ≡ gone es
  ruled-gone skip x n es = refl
  ruled-gone resolve x n es = change_beside transaction_of k.is_fallen (with_part remainder) (λ e. refl) x n es
  ruled-gone release x n es = without_beside transaction_of k.is_fallen x n es

  ruled-clear : (r : Ruling) (x : ℕ) (es : List Entry) → Every (Clear k p) es → Every (Clear k p) (ruled r x es)
  ruled-clear skip x es c = c
  ruled-clear resolve x es c = every_change_if (Clear k p) (at transaction_of x) (with_part remainder) es (λ e h. h) c
  ruled-clear release x es c = every_keep (Clear k p) (λ e. not (eqb (transaction_of e) x)) es c

  module _ (ds : List ℕ) where
    abbrev line : Line → List Entry → List Entry
    line l es = with_line p.local ds l es

    abbrev Left : Line → Type 0
    Left l = k.is_fallen l.transaction ≡ false

    abbrev Any : List Entry → Type 0
    Any es = Unit {0}

    ruling-left : (l : Line) (es : List Entry) → Left l → ruling_in p.local ds l (left es) ≡ ruling_in p.local ds l es
    ruling-left l es n = ap (ruling p.local ds l) (get-keep transaction_of (is_left k) l.transaction (ap not n) es)

    line-left : (l : Line) (es : List Entry) → Left l → Any es → left (line l es) ≡ line l (left es)
    line-left l es n _ =
        ruled-left (ruling_in p.local ds l es) l.transaction es ∙ ap (λ r. ruled r l.transaction (left es)) (sym (ruling-left l es n))

    line-gone : (l : Line) (es : List Entry) → Left l → Any es → gone (line l es) ≡ gone es
    line-gone l es n _ = ruled-gone (ruling_in p.local ds l es) l.transaction n es

    line_clear : (l : Line) (es : List Entry) → Left l → Every (Clear k p) es → Every (Clear k p) (line l es)
    line_clear l es n c = ruled-clear (ruling_in p.local ds l es) l.transaction es c

    released_left : (l : Line) (es : List Entry) → Left l → Any es → released_of p.local ds l (left es) ≡ released_of p.local ds l es
    released_left l es n _ = ap is_release (ruling-left l es n)

  pub finalization_paired : (ws : List ℕ) → Every (λ x. k.is_fallen x ≡ false) (map (λ (l : Line). l.transaction) (finalization_lines ws)) →
      Good (after_finalization ws p).ledger → Paired o fell (after_finalization ws (less k p)) (after_finalization ws p)
  unfolding after_finalization
  finalization_paired ws v g =
      let ls = finalization_lines ws in
      let ds = deciding ws in
      let w : Every (Left ds) ls = every_unmap (λ (l : Line). l.transaction) _ ls v in
      unless_paired o fell (finalization_refusal ws) p _ _ b g
      (λ e h. done_paired o fell _ _ _ _
      (ap (λ n. n ∷ []) (tally-part (line ds) (Left ds) (Any ds) (λ x s _ _. tt) left (line-left ds) (released_of p.local ds) (released_left ds) ls w p.entries tt))
      (entries_moved o fell p b (with_lines p.local ds ls p.entries) (with_lines p.local ds ls (left p.entries)) h
      (through-part (line ds) (Left ds) (Any ds) (λ x s _ _. tt) left (line-left ds) ls w p.entries tt)
      (through_same (line ds) (Left ds) (Any ds) (λ x s _ _. tt) gone (line-gone ds) ls w p.entries tt)
      (through_keeps (line ds) (Left ds) (Every (Clear k p)) (line_clear ds) ls w (left p.entries) b.clear)))

  -- Abandonment record.
  named-clear : (shard : ℕ) → k.is_dropped shard ≡ false → (e : Entry) → Clear k p e → Clear k p (with_departed_by shard e)
  named-clear shard n e h =
      every_two _ _ (λ d. holds p.local d (with_departed_by shard e) ≡ false)
      (λ d x y. or_neither (is_of_departed_by (with_departed_by shard e) d) (any (λ r. over e r d) (remote p.local e.terms))
      (rw (ne_eqb shard (shard_of d) (λ q. false≢true (sym n ∙ ap k.is_dropped q ∙ x))) (and_false (ltb 0 shard)))
      (or_not_right (is_of_departed_by e d) _ y)) (dropped_in k p) (kept_passes (λ d. k.is_dropped (shard_of d)) p.departures) h

  module _ (shard : ℕ) where
    abbrev group : Terms → List Entry → List Entry
    group g es = with_group shard g es

    abbrev Stays : Terms → Type 0
    Stays g = k.is_fallen g.transaction ≡ false

    group_rises : (g : Terms) (es : List Entry) → Stays g → Ascending transaction_of es → Ascending transaction_of (group g es)
    group_rises g es n a =
        by_cond (Ascending transaction_of) (has transaction_of g.transaction es) _ _
        (λ _. ascending-change_if transaction_of (at transaction_of g.transaction) (with_departed_by shard) (λ e. refl) es a)
        (λ _. ascending-include transaction_of (rebuilt shard g) es a)

    group_left : (g : Terms) (es : List Entry) → Stays g → Ascending transaction_of es → left (group g es) ≡ group g (left es)
    group_left g es n a =
        rw (has-keep transaction_of (is_left k) g.transaction (ap not n) es) (go (has transaction_of g.transaction es))
      where
        go : (c : Bool) →
            left (cond c (change transaction_of g.transaction (with_departed_by shard) es) (include transaction_of (rebuilt shard g) es))
            ≡ cond c (change transaction_of g.transaction (with_departed_by shard) (left es)) (include transaction_of (rebuilt shard g) (left es))
        go true = keep-change transaction_of (is_left k) (with_departed_by shard) (λ e. refl) g.transaction es
        go false = keep-put transaction_of (is_left k) (rebuilt shard g) (ap not n) es a

    group_gone : (g : Terms) (es : List Entry) → Stays g → Ascending transaction_of es → gone (group g es) ≡ gone es
    group_gone g es n a =
        by_cond (λ l. gone l ≡ gone es) (has transaction_of g.transaction es) _ _
        (λ _. change_beside transaction_of k.is_fallen (with_departed_by shard) (λ e. refl) g.transaction n es)
        (λ _. put_beside transaction_of k.is_fallen (rebuilt shard g) n es a)

    rebuilt-left : (g : Terms) (es : List Entry) → Stays g → Ascending transaction_of es → rebuilt_of g (left es) ≡ rebuilt_of g es
    rebuilt-left g es n a = ap (λ c. cond c 0 1) (has-keep transaction_of (is_left k) g.transaction (ap not n) es)

    -- what is owed stays so, and the entries are clear
    record Filling (es₀ es : List Entry) : Type 0 where
      known : (x : ℕ) → has transaction_of x es ≡ false → has transaction_of x es₀ ≡ false
      clear : Every (Clear k p) es

    group_filling : k.is_dropped shard ≡ false → (es₀ : List Entry) (g : Terms) (es : List Entry) →
        (has transaction_of g.transaction es₀ ≡ false → Clear k p (rebuilt shard g)) → Filling es₀ es → Filling es₀ (group g es)
    group_filling n es₀ g es c f =
        record {
          known = λ x q. f.known x (by_cond (λ l. has transaction_of x l ≡ false → has transaction_of x es ≡ false) (has transaction_of g.transaction es) _ _
              (λ _ q. sym (has-change transaction_of x g.transaction (with_departed_by shard) es (λ e. refl)) ∙ q)
              (λ _ q. or_not_right (eqb g.transaction x) _ (sym (has-include transaction_of x (rebuilt shard g) es) ∙ q)) q);
          clear =
              by_cond (Every (Clear k p)) (has transaction_of g.transaction es) _ _
              (λ _. every_change_if (Clear k p) (at transaction_of g.transaction) (with_departed_by shard) es (named-clear shard n) f.clear)
              (λ q. every_include transaction_of (Clear k p) (rebuilt shard g) es (c (f.known g.transaction q)) f.clear);
        }

  -- it rebuilds as many on both ledgers
  rebuilds-same : (ws : List ℕ) → Every (λ x. k.is_fallen x ≡ false) (map (λ (g : Terms). g.transaction) (record_groups ws)) → rebuilds ws (less k p) ≡ rebuilds ws p
  rebuilds-same ws v =
      let shard = record_shard ws in
      let gs = record_groups ws in
      tally-part (group shard) (Stays shard) (Ascending transaction_of) (group_rises shard) left (group_left shard) rebuilt_of (rebuilt-left shard) gs
      (every_unmap (λ (g : Terms). g.transaction) _ gs v) p.entries b.good.entries.rows.order

  abandonment-table : (ws : List ℕ) → Every (λ x. k.is_fallen x ≡ false) (map (λ (g : Terms). g.transaction) (record_groups ws)) →
      is_for_room (after_abandonment ws p).refused ≡ false → abandonment_refusal ws (less k p) ≡ abandonment_refusal ws p
  unfolding after_abandonment
  abandonment-table ws v r =
      let xs = map (λ (g : Terms). g.transaction) (record_groups ws) in
      rw (rebuilds-same ws v)
      (table_same 5 (no_count_for (record_shard ws) (rebuilds ws p) p.counts gives 14 then 0) refl (not (record_formed ws)) (not (record_timed ws)) (not (is_shard (record_shard ws))) (no_room_for xs p) (no_room_for xs (less k p))
      (room-less o fell p b xs v) (ap is_for_room (sym (unless-refused (abandonment_refusal ws p) p _ refl)) ∙ r))

  pub abandonment_paired : (ws : List ℕ) → Every (λ x. k.is_fallen x ≡ false) (map (λ (g : Terms). g.transaction) (record_groups ws)) →
      Every (λ e. owed (transaction_of e) p ≡ false → Clear k p e) (map (rebuilt (record_shard ws)) (record_groups ws)) → k.is_dropped (record_shard ws) ≡ false →
      is_for_room (after_abandonment ws p).refused ≡ false → Good (after_abandonment ws p).ledger →
      Paired o fell (after_abandonment ws (less k p)) (after_abandonment ws p)
  unfolding after_abandonment
  abandonment_paired ws v c n r g =
      let shard = record_shard ws in
      let gs = record_groups ws in
      let order = b.good.entries.rows.order in
      let w : Every (Stays shard) gs = every_unmap (λ (g : Terms). g.transaction) _ gs v in
      let d : Every (λ g. has transaction_of g.transaction (left p.entries) ≡ false → Clear k p (rebuilt shard g)) gs =
      every_two _ _ _ (λ g i m q. i (sym (owed_same o fell p b g.transaction m) ∙ q)) gs (every_unmap (rebuilt shard) _ gs c) w in
      rw (abandonment-table ws v r, rebuilds-same ws v)
      (unless_paired o fell (abandonment_refusal ws p) p _ _ b g
      (λ e h. done_paired o fell _ _ _ _ refl
      (counted_moved o fell p b _ (with_groups shard gs p.entries) (with_groups shard gs (left p.entries)) h
      (through-part (group shard) (Stays shard) (Ascending transaction_of) (group_rises shard) left (group_left shard) gs w p.entries order)
      (through_same (group shard) (Stays shard) (Ascending transaction_of) (group_rises shard) gone (group_gone shard) gs w p.entries order)
      (through_keeps (group shard) _ (Filling shard (left p.entries)) (group_filling shard n (left p.entries)) gs d (left p.entries)
      (record { known = λ x q. q; clear = b.clear })).clear)))

-- A making filled with what a snapshot's words say: counts, departures, entries.
-- Assumes nothing.
use Prim.Native.Nat.{ℕ, ◌+◌, ◌-◌, ◌*◌, ◌≤◌}
use mathlib.Core.Path.{◌≡◌, sym, ap, ap₂, ◌∙◌}
use mathlib.Core.Bool.{Bool, true, false, ◌&&◌, true≢false}
use mathlib.Core.List.{List, [], map}
use native.Mathlib.Omega.{arith}
use borrow.Author.Tests.{leb-true, le-leb, eqb-true}
use lib.ListN.{length, drop, length-drop}
use Rattle.lists.specs.Lists.{all, Every, ascending, cut, rows}
use Rattle.lists.proofs.Tests.{and_left, and_right}
use Rattle.lists.proofs.Keep.{each_of}
use Rattle.lists.proofs.Parts.{every_drop}
use Rattle.lists.proofs.Cuts.{part_length}
use Rattle.rules.specs.Numbers.{is_word}
use Rattle.rules.specs.Plain.{Plain, Departure, Count, shard_of, counted_shard, empty, with_entries, with_departures, with_counts}
use Rattle.rules.specs.Words.{word}
use Rattle.rules.specs.Good.{Holds}
use Rattle.rules.specs.Snapshot.{shard_count, sizes_at, entry_count, departure_count, entry_lengths, entries_at, departures_at, count_parts, entry_parts, departure_parts, count_in, count_sound, departure_in, departure_sound, entry_formed, entry_in, snapshot_formed, ledger_in}
use Rattle.rules.proofs.Kept.{with-departures}
use Rattle.rules.proofs.SnapshotWhole.{form_tests}
use Rattle.rules.proofs.SnapshotBack.{departures-good, counts-good}
use Rattle.store.specs.declared.counts.Counts.{Counts}
use Rattle.store.specs.declared.departures.Departures.{Departures}
use Rattle.ledger.specs.declared.Ledger.{Ledger}
use Rattle.ledger.specs.Contents.{contents, with_parts, counting}
use Rattle.ledger.proofs.Lift.{filed, counted}
use Rattle.snapshots.specs.Restore.{departures_sound, counts_sound, entries_sound, Counted, Files, Empty, Takes, TakesCounts, TakesDepartures, Ready, Made, Fills}

-- what the form says
pub record Formed (ws : List ℕ) : Type 0 where
  pub few_counts : shard_count ws ≤ 32
  pub few : entry_count ws ≤ 48
  pub few_gone : departure_count ws ≤ 32
  pub exact : length ws ≡ departures_at ws + 4 * departure_count ws
  pub each : all entry_formed (entry_parts ws) ≡ true

pub formed_of : (ws : List ℕ) → snapshot_formed ws ≡ true → Formed ws
unfolding snapshot_formed
formed_of ws f =
    let t = each_of (form_tests ws) f in
    record {
      few_counts = leb-true (shard_count ws) 32 t.0;
      few = leb-true (entry_count ws) 48 t.1.0;
      few_gone = leb-true (departure_count ws) 32 t.1.1.0;
      exact = eqb-true (length ws) (departures_at ws + 4 * departure_count ws) t.1.1.1.0;
      each = t.1.1.1.1.0;
    }

module _ (ws : List ℕ) where
  abbrev cs : List Count
  cs = map count_in (count_parts ws)

  abbrev ds : List Departure
  ds = map departure_in (departure_parts ws)

  -- the counts' words and the departures'
  pub counts_at : (k : ℕ) (l : List ℕ) → k ≡ shard_count ws → l ≡ drop 5 ws → rows 2 k l ≡ count_parts ws
  counts_at k l e h = ap₂ (rows 2) e h

  pub gone_at : snapshot_formed ws ≡ true → (n : ℕ) (l : List ℕ) → n ≡ departure_count ws → l ≡ drop (length ws - 4 * n) ws → rows 4 n l ≡ departure_parts ws
  gone_at f n l e h =
      ap₂ (rows 4) e
      (h ∙ ap (λ k. drop k ws) (let z : length ws - 4 * n ≡ departures_at ws = omega (arith, e, (formed_of ws f).exact) in z))

  -- put into a ledger in use
  module _ (l : Ledger) (m : Ready ws l) (s : length l.entries ≡ 48) where
    f : Formed ws
    f = formed_of ws m.formed

    pub counts_put : Every (Holds is_word) ws → (x : Counts) (b : Bool) → Counted (count_parts ws) x b → TakesCounts (count_parts ws) l (counting l x s) b
    counts_put v x b h =
        record {
          said = h.said;
          became = λ q.
              let sound = sym h.said ∙ q in
              counted l m.held cs x (h.filed q)
              (counts-good (shard_count ws) (drop 5 ws) (every_drop (Holds is_word) 5 ws v) (le-leb (shard_count ws) 32 f.few_counts)
              (and_left (all count_sound (count_parts ws)) (ascending counted_shard cs) sound)
              (and_right (all count_sound (count_parts ws)) (ascending counted_shard cs) sound))
              s;
        }

    pub departures_put : (x : Departures) (b : Bool) → Files (departure_parts ws) x b → TakesDepartures (departure_parts ws) l (with_parts l l.counts l.roster l.entries l.issuers x s) b
    departures_put x b h =
        record {
          said = h.said;
          became = λ q.
              let sound = sym h.said ∙ q in
              filed l m.held ds x (h.filed q)
              (with-departures (contents l) ds m.held.good
              (departures-good (departure_count ws) (drop (departures_at ws) ws) (le-leb (departure_count ws) 32 f.few_gone)
              (and_left (all departure_sound (departure_parts ws)) (ascending shard_of ds) sound)
              (and_right (all departure_sound (departure_parts ws)) (ascending shard_of ds) sound)))
              s;
        }

-- A making filled in turn: what stands before each step, and what is said where one of them is not sound.
module _ (ws : List ℕ) (l : Ledger) (m : Made ws l) where
  abbrev start : Plain
  start = empty (word 0 ws) (word 1 ws) (word 2 ws) (word 3 ws)

  pub ready_counts : Ready ws l × ((contents l).counts ≡ [])
  ready_counts = (record { formed = m.formed; held = m.made.held }, ap (λ (p : Plain). p.counts) m.made.holds)

  module _ (one : Ledger) (b : Bool) (h : TakesCounts (count_parts ws) l one b) where
    pub not_counted : b ≡ false → (r : Ledger) → Fills ws r false
    not_counted e r =
        record {
          said = sym (ap (λ c. c && (departures_sound (departure_parts ws) && entries_sound (word 0 ws) (entry_parts ws))) (sym h.said ∙ e));
          became = λ q. absurd (true≢false (sym q));
        }

    module _ (e : b ≡ true) where
      with_cs : contents one ≡ with_counts (cs ws) start
      with_cs = (h.became e).holds ∙ ap (with_counts (cs ws)) m.made.holds

      pub ready_departures : Ready ws one × ((contents one).departures ≡ [])
      ready_departures = (record { formed = m.formed; held = (h.became e).held }, ap (λ (p : Plain). p.departures) with_cs)

      module _ (two : Ledger) (c : Bool) (k : TakesDepartures (departure_parts ws) one two c) where
        -- what is left to be asked once the counts are sound
        counts-sound : counts_sound (count_parts ws) ≡ true
        counts-sound = sym h.said ∙ e

        pub not_filed : c ≡ false → (r : Ledger) → Fills ws r false
        not_filed q r =
            record {
              said = sym (ap₂ (λ i j. i && (j && entries_sound (word 0 ws) (entry_parts ws))) counts-sound (sym k.said ∙ q));
              became = λ z. absurd (true≢false (sym z));
            }

        module _ (q : c ≡ true) where
          abbrev so_far : Plain
          so_far = with_departures (ds ws) (with_counts (cs ws) start)

          with_ds : contents two ≡ so_far
          with_ds = (k.became q).holds ∙ ap (with_departures (ds ws)) with_cs

          pub ready_entries : (ls js : List ℕ) → ls ≡ entry_lengths ws → js ≡ drop (entries_at ws) ws → Empty ls js two
          ready_entries ls js i j =
              let f : Formed ws = formed_of ws m.formed in
              rw (i, j) (record {
                held = (k.became q).held;
                none = ap (λ (p : Plain). p.entries) with_ds;
                few = omega (arith, f.few, part_length (sizes_at ws + 2) (entry_count ws) ws (omega (arith, f.exact)));
                room = omega (arith, f.exact, length-drop (entries_at ws) ws);
                formed = f.each;
              })

          home : two.local.0 ≡ word 0 ws
          unfolding contents
          home = ap (λ (p : Plain). p.local) with_ds

          pub filled : (ls js : List ℕ) → ls ≡ entry_lengths ws → js ≡ drop (entries_at ws) ws → (r : Ledger) (d : Bool) → Takes (cut ls js) two r d → Fills ws r d
          unfolding ledger_in
          filled ls js i j r d t =
              let parts : cut ls js ≡ entry_parts ws = ap₂ (λ u v. cut u v) i j in
              record {
                said = t.said ∙ ap₂ entries_sound home parts ∙ sym (ap₂ (λ u v. u && (v && entries_sound (word 0 ws) (entry_parts ws))) counts-sound (sym k.said ∙ q));
                became = λ y.
                    let z = t.became y in
                    record { held = z.held; holds = z.holds ∙ ap₂ (λ (u : List (List ℕ)) (v : Plain). with_entries (map entry_in u) v) parts with_ds };
              }

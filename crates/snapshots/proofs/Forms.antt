-- The form of an entry's words, from that of its admission and that of its history.
-- Assumes nothing.
use Prim.Native.Nat.{ℕ, ◌+◌, ◌-◌, ◌*◌, ◌≤◌, ◌<◌}
use mathlib.Core.Path.{◌≡◌, sym, ap, ap₂, ◌∙◌}
use mathlib.Core.Bool.{Bool, true, false, ◌&&◌, true≢false}
use mathlib.Core.List.{List, [], ◌∷◌}
use native.Mathlib.Omega.{arith}
use lib.Dec.{eqb, leb}
use lib.ListN.{length, drop, length-drop}
use borrow.Author.Tests.{leb-true, le-leb, eqb-true, eq-eqb}
use Rattle.lists.specs.Lists.{all, total, self, part}
use Rattle.lists.proofs.Tests.{and_left, and_right, and_both, and_true, same_test}
use Rattle.lists.proofs.Keep.{each_of}
use Rattle.lists.proofs.Cuts.{fails}
use Rattle.rules.specs.Words.{word, within, route_count, core_count, edge_count, sizes, destinations_at}
use Rattle.rules.specs.Snapshot.{admission_length, history_of, absence_count, mark_count, history_length, entry_formed, shard_count, sizes_at, entry_count, departure_count, entry_lengths, entries_at, departures_at, entry_parts, snapshot_formed}
use Rattle.rules.proofs.SnapshotWhole.{form_tests}
use Rattle.words.specs.Admission.{Split}
use Rattle.snapshots.specs.Form.{Measured, history_formed, counted}

-- an admission's words taken apart: whether its end can be told, and where it is
module _ (ws us r c i f k n t : List ℕ) (s : Split us r c i f k n t) (e : us ≡ ws) where
  pub sizes_over : all (λ m. leb m 4) n ≡ false → Measured ws → ⊥
  sizes_over h m = true≢false (sym (rw s.sizes (rw e m.few)) ∙ h)

  pub ends_early : length t < total self n → Measured ws → ⊥
  ends_early h m =
      let r : admission_length us ≤ length us = rw e m.room in
      omega (arith, h, r, ap length s.to, length-drop (destinations_at us) us, ap (total self) s.sizes, s.sized.room)

  pub measured : all (λ m. leb m 4) n ≡ true → total self n ≤ length t → Measured ws × (length ws - length t + total self n ≡ admission_length ws)
  measured h b =
      let many : total self n ≡ total self (sizes us) = ap (total self) s.sizes in
      let room : length t + destinations_at us ≡ length us = omega (arith, ap length s.to, length-drop (destinations_at us) us, s.sized.room) in
      rw (← e) (
        record { sized = s.sized; few = rw s.sizes at h; room = omega (arith, many, room) },
        omega (arith, many, room),
      )

pub entry_measured : (ws : List ℕ) → entry_formed ws ≡ true → Measured ws
unfolding entry_formed
entry_measured ws h =
    let hs = history_of ws in
    let t = each_of (
    leb (route_count ws) 8 ∷ leb (core_count ws) 8 ∷ leb (edge_count ws) 8 ∷ within 4 (sizes ws) ∷ leb (absence_count hs) 8 ∷ leb (mark_count hs) 8 ∷ eqb (length ws) (admission_length ws + history_length hs) ∷ []
    ) h in
    let exact = eqb-true (length ws) (admission_length ws + history_length hs) t.1.1.1.1.1.1.0 in
    record {
      sized =
          record {
            counted =
                record {
                  figures = omega (arith, exact);
                  routes = leb-true (route_count ws) 8 t.0;
                  core = leb-true (core_count ws) 8 t.1.0;
                  edges = leb-true (edge_count ws) 8 t.1.1.0;
                };
            room = omega (arith, exact);
          };
      few = t.1.1.1.0;
      room = omega (arith, exact);
    }

pub unmeasured : (ws : List ℕ) → (Measured ws → ⊥) → false ≡ entry_formed ws
unmeasured ws h = fails (entry_formed ws) (λ t. h (entry_measured ws t))

pub entry_rows : (ws : List ℕ) → Measured ws → history_formed (history_of ws) ≡ entry_formed ws
unfolding entry_formed
entry_rows ws m =
    let hs = history_of ws in
    let c = m.sized.counted in
    let size : length hs + admission_length ws ≡ length ws = omega (arith, length-drop (admission_length ws) ws, m.room) in
    let long : eqb (length hs) (history_length hs) ≡ eqb (length ws) (admission_length ws + history_length hs) =
    same_test _ _
    (λ q. eq-eqb _ _ (omega (arith, eqb-true (length hs) (history_length hs) q)))
    (λ q. eq-eqb _ _ (omega (arith, eqb-true (length ws) (admission_length ws + history_length hs) q))) in
    rw (le-leb (route_count ws) 8 c.routes, le-leb (core_count ws) 8 c.core, le-leb (edge_count ws) 8 c.edges, m.few, long)

-- the whole's numbers are within their limits, and what they require is there
pub record Within (ws : List ℕ) : Type 0 where
  pub counts : shard_count ws ≤ 32
  pub entries : entry_count ws ≤ 48
  pub departures : departure_count ws ≤ 32
  pub room : entries_at ws + 4 * departure_count ws ≤ length ws

module _ (ws : List ℕ) where
  pub counted_of : counted ws ≡ true → Within ws
  counted_of h =
      let room : Bool = leb (entries_at ws + 4 * departure_count ws) (length ws) in
      let rest = and_right (leb (shard_count ws) 32) (leb (entry_count ws) 48 && (leb (departure_count ws) 32 && room)) h in
      let more = and_right (leb (entry_count ws) 48) (leb (departure_count ws) 32 && room) rest in
      record {
        counts = leb-true (shard_count ws) 32 (and_left (leb (shard_count ws) 32) _ h);
        entries = leb-true (entry_count ws) 48 (and_left (leb (entry_count ws) 48) _ rest);
        departures = leb-true (departure_count ws) 32 (and_left (leb (departure_count ws) 32) _ more);
        room = leb-true (entries_at ws + 4 * departure_count ws) (length ws) (and_right (leb (departure_count ws) 32) room more);
      }

  pub uncounted : counted ws ≡ false → false ≡ snapshot_formed ws
  unfolding snapshot_formed
  uncounted h =
      fails (snapshot_formed ws) (λ f.
      let t = each_of (form_tests ws) f in
      let exact = eqb-true (length ws) (departures_at ws + 4 * departure_count ws) t.1.1.1.0 in
      true≢false (sym (and_both _ _ t.0 (and_both _ _ t.1.0 (and_both _ _ t.1.1.0 (le-leb (entries_at ws + 4 * departure_count ws) (length ws) (omega (arith, exact)))))) ∙ h))

  pub counted_rows : counted ws ≡ true → eqb (length ws - (entries_at ws + 4 * departure_count ws)) (total self (entry_lengths ws)) && all entry_formed (entry_parts ws) ≡ snapshot_formed ws
  unfolding snapshot_formed
  counted_rows h =
      let c = counted_of h in
      let long : eqb (length ws - (entries_at ws + 4 * departure_count ws)) (total self (entry_lengths ws)) ≡ eqb (length ws) (departures_at ws + 4 * departure_count ws) =
      same_test _ _
      (λ q. eq-eqb _ _ (omega (arith, c.room, eqb-true _ _ q)))
      (λ q. eq-eqb _ _ (omega (arith, c.room, eqb-true _ _ q))) in
      rw (le-leb (shard_count ws) 32 c.counts, le-leb (entry_count ws) 48 c.entries, le-leb (departure_count ws) 32 c.departures, long, and_true (all entry_formed (entry_parts ws)))

-- the numbers read from where they stand, and what is cut out by them
module _ (ws : List ℕ) (at n : ℕ) (a : at ≡ sizes_at ws) where
  pub departures_told : n ≡ word (at + 1) ws → n ≡ departure_count ws
  departures_told e = e ∙ ap (λ i. word (i + 1) ws) a

  pub entries_told : n ≡ word at ws → n ≡ entry_count ws
  entries_told e = e ∙ ap (λ i. word i ws) a

  pub lengths-are : (ls : List ℕ) → n ≡ word at ws → ls ≡ part (at + 2) n ws → ls ≡ entry_lengths ws
  lengths-are ls e h = h ∙ ap₂ (λ i k. part (i + 2) k ws) a (entries_told e)

  pub joined-are : (js : List ℕ) → n ≡ word at ws → js ≡ drop (at + 2 + n) ws → js ≡ drop (entries_at ws) ws
  joined-are js e h = h ∙ ap₂ (λ i k. drop (i + 2 + k) ws) a (entries_told e)

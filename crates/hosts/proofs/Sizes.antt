-- A snapshot's form bounds its length: words past that are refused by their form.
-- Assumes nothing.
use Prim.Native.Nat.{ℕ, ◌+◌, ◌*◌, ◌≤◌, ◌<◌}
use mathlib.Core.Path.{◌≡◌, refl}
use mathlib.Core.Bool.{Bool, true, false, not}
use mathlib.Core.List.{List, [], ◌∷◌}
use native.Mathlib.Omega.{arith}
use lib.ListN.{length, take, drop, length-drop}
use lib.Seq.{length-take-le}
use borrow.Author.Tests.{leb-true, eqb-true}
use Rattle.lists.specs.Lists.{all, total, self, cut}
use Rattle.lists.proofs.Tests.{and_left, and_right}
use Rattle.lists.proofs.Keep.{each_of}
use Rattle.lists.proofs.Cuts.{total-within}
use Rattle.lists.proofs.Parts.{length_part}
use Rattle.rules.specs.Widths.{entry_room, snapshot_room}
use Rattle.rules.specs.Outcome.{◌gives◌then◌}
use Rattle.rules.specs.Words.{route_count, core_count, edge_count, edges_at, sizes}
use Rattle.rules.specs.Snapshot.{admission_length, history_of, absence_count, mark_count, history_length, shard_count, sizes_at, entry_count, departure_count, entry_lengths, entries_at, departures_at, entry_formed, snapshot_formed, snapshot_sound, snapshot_refusal}
use Rattle.rules.proofs.SnapshotEntry.{form_passed}
use Rattle.rules.proofs.SnapshotWhole.{form_tests}

entry_few : (ws : List ℕ) → entry_formed ws ≡ true → length ws ≤ entry_room
entry_few ws h =
    let t = form_passed ws h in
    omega (
      arith,
      eqb-true (length ws) (admission_length ws + history_length (history_of ws)) t.1.1.1.1.1.1.0,
      leb-true (route_count ws) 8 t.0,
      leb-true (core_count ws) 8 t.1.0,
      leb-true (edge_count ws) 8 t.1.1.0,
      total-within 4 (sizes ws) t.1.1.1.0,
      length_part (edges_at ws + 3 * edge_count ws) (edge_count ws) ws,
      leb-true (absence_count (history_of ws)) 8 t.1.1.1.1.0,
      leb-true (mark_count (history_of ws)) 8 t.1.1.1.1.1.0,
    )

entries_few : (ns l : List ℕ) → total self ns ≤ length l → all entry_formed (cut ns l) ≡ true → total self ns ≤ entry_room * length ns
entries_few [] l h t = omega arith
entries_few (n ∷ ns) l h t =
    let first = and_left (entry_formed (take n l)) (all entry_formed (cut ns (drop n l))) t in
    let others = and_right (entry_formed (take n l)) (all entry_formed (cut ns (drop n l))) t in
    omega (
      arith,
      entry_few (take n l) first,
      length-take-le n l (omega (arith, h)),
      entries_few ns (drop n l) (omega (arith, h, length-drop n l)) others,
    )

pub snapshot_few : (ws : List ℕ) → snapshot_formed ws ≡ true → length ws ≤ snapshot_room
unfolding snapshot_formed
snapshot_few ws h =
    let t = each_of (form_tests ws) h in
    let size = eqb-true (length ws) (departures_at ws + 4 * departure_count ws) t.1.1.1.0 in
    omega (
      arith,
      size,
      leb-true (shard_count ws) 32 t.0,
      leb-true (entry_count ws) 48 t.1.0,
      leb-true (departure_count ws) 32 t.1.1.0,
      length_part (sizes_at ws + 2) (entry_count ws) ws,
      entries_few (entry_lengths ws) (drop (entries_at ws) ws) (omega (arith, size, length-drop (entries_at ws) ws)) t.1.1.1.1.0,
    )

-- longer words are refused by 12
pub too_many : (ws : List ℕ) → snapshot_room < length ws → snapshot_refusal ws ≡ 12
too_many ws h = go (snapshot_formed ws) refl
  where
    go : (b : Bool) → snapshot_formed ws ≡ b → (not b gives 12 then not (snapshot_sound ws) gives 13 then 0) ≡ 12
    go true e = absurd (omega (arith, h, snapshot_few ws e))
    go false e = refl

-- A snapshot written to a list that each has room in: how many words it has, and that these are all.
-- Assumes nothing.
use Prim.Native.Nat.{ℕ, ◌≤◌}
use mathlib.Core.Path.{◌≡◌, refl, ap₂, ◌∙◌}
use mathlib.Core.Bool.{false}
use mathlib.Core.List.{List}
use native.Mathlib.Omega.{arith}
use borrow.Author.Tests.{le-ltb}
use lib.ListN.{length, take, drop}
use lib.Seq.{take-append_seam}
use Rattle.std.specs.Prelude.{Result, Ok, Err}
use Rattle.std.specs.Result.{result_unwrap_or}
use Rattle.lists.proofs.Sets.{concat_map-single}
use Rattle.lists.specs.Lists.{concat_map}
use Rattle.rules.specs.Outcome.{too_short}
use Rattle.rules.specs.Readings.{single, read, take_snapshot}
use Rattle.rules.specs.Widths.{snapshot_room}
use Rattle.rules.specs.Snapshot.{snapshot_words}
use Rattle.rules.proofs.SnapshotWords.{snapshot-few}
use Rattle.types.specs.declared.refusal.Refusal.{Refusal}
use Rattle.ledger.specs.declared.Ledger.{Ledger}
use Rattle.ledger.specs.Contents.{contents, Held}
use Rattle.readings.specs.Reads.{answer_in, Reads}
use Rattle.snapshots.specs.Whole.{Whole}
use Rattle.snapshots.proofs.Writing.{snapshot-size}

unwrapped : (r : Result ℕ Refusal) → result_unwrap_or r 0 ≡ answer_in r
unwrapped (Ok n) = refl
unwrapped (Err e) = refl

pub whole : (l : Ledger) (was now : List ℕ) (r : Result ℕ Refusal) (n : ℕ) → Held l → length was ≡ snapshot_room → Reads (read (take_snapshot (length was)) (contents l)) was now r →
    n ≡ result_unwrap_or r 0 → Whole l now n
unfolding contents
whole l was now r n h e reads u =
    let ws : List ℕ = snapshot_words (contents l) in
    let few : length ws ≤ snapshot_room = snapshot-few (contents l) h.good in
    let short : too_short (length was) (concat_map single ws) ≡ false = rw (concat_map-single ws) (le-ltb (length was) (length ws) (omega (arith, few, e))) in
    let said = rw short at reads in
    let size : n ≡ length ws = u ∙ unwrapped r ∙ said.answer in
    record {
      few = omega (arith, size, few);
      count = size;
      many = omega (arith, size, snapshot-size l h);
      snapshot = ap₂ take size (rw (concat_map-single ws) at said.wrote) ∙ take-append_seam ws (drop (length ws) was);
    }

-- Rows read one after the other, each asked whether it is sound and whether it comes behind those before it: what is said at each turn, of
-- departures and of counts.
-- Assumes nothing.
use Prim.Native.Nat.{ℕ, ◌+◌, ◌*◌, ◌≤◌, ◌<◌}
use mathlib.Core.Path.{◌≡◌, sym, ap, ◌∙◌}
use mathlib.Core.Bool.{Bool, true, false, true≢false}
use mathlib.Core.List.{List, [], ◌∷◌, ◌++◌, map}
use native.Mathlib.Omega.{arith}
use lib.ListN.{length, drop}
use Rattle.lists.specs.Lists.{Ascending, part, rows}
use Rattle.lists.proofs.Cuts.{rest-none}
use Rattle.lists.proofs.Rows.{row_read}
use Rattle.lists.proofs.Joined.{length_rows}
use Rattle.lists.proofs.Coming.{Coming, before, rises_with, room_left, unsound, unordered, one_came, all_come}
use Rattle.snapshots.specs.Restore.{Filed}

module _ {A X : Type 0} (key : A → ℕ) (sound : List ℕ → Bool) (read : List ℕ → A) (Holds : List A → X → Type 0) (k n : ℕ) (ws : List ℕ) where
  abbrev parts : List (List ℕ)
  parts = rows k n ws

  module _ {xs : List A} {i : ℕ} (c : Coming key sound read parts xs i) where
    -- a row stands there, and y is read of it
    module _ (h : i < n) (row : List ℕ) (e : row ≡ part (k * i) k ws) where
      abbrev r : drop i parts ≡ row ∷ drop (i + 1) parts
      r = row_read k n i ws row h e

      pub stops_unsound : sound row ≡ false → (x : X) → Filed key sound read Holds parts x false
      stops_unsound q x = record { said = unsound key sound read parts c row r q; filed = λ z. absurd (true≢false (sym z)) }

      module _ (y : A) (s : y ≡ read row) where
        pub stops_unordered : before key y xs ≡ false → (x : X) → Filed key sound read Holds parts x false
        stops_unordered q x =
            record { said = unordered key sound read parts c row r (sym (ap (λ z. before key z xs) s) ∙ q); filed = λ z. absurd (true≢false (sym z)) }

        -- it may be put behind the others
        pub may_come : Ascending key xs → before key y xs ≡ true → (length xs < n) × Ascending key (xs ++ y ∷ [])
        may_come a q = (omega (arith, room_left key sound read parts c row r, length_rows k n ws), rises_with key y xs a q)

        pub came : sound row ≡ true → (ys : List A) → ys ≡ xs ++ y ∷ [] → Coming key sound read parts ys (i + 1)
        came q ys z = one_came key sound read parts c row r q ys (z ∙ ap (λ p. xs ++ p ∷ []) s)

    pub all_filed : n ≤ i → Ascending key xs → (x : X) → (xs ≡ map read parts → Holds (map read parts) x) → Filed key sound read Holds parts x true
    all_filed h a x f =
        let all = all_come key sound read parts c (rest-none parts i (omega (arith, h, length_rows k n ws))) a in
        record { said = all.0; filed = λ _. f all.1 }

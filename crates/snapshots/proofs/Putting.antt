-- Rows put down one behind the other are one row; a loop that puts them down.
-- Assumes nothing.
use Prim.Native.Nat.{ℕ, ◌+◌, ◌<◌, ◌≤◌}
use mathlib.Core.Path.{◌≡◌, refl, sym, ap, ◌∙◌}
use mathlib.Core.List.{List, [], ◌++◌, map}
use Rattle.std.proofs.lemmas.List.{append_assoc}
use native.Mathlib.Omega.{arith}
use lib.ListN.{length, take, drop, get_or, length-append}
use lib.Seq.{sets, sets-eq, length-sets}
use borrow.Rule.Slice.PartMut.{put_mid}
use Rattle.std.proofs.lemmas.Slice.{put_mid-paste}
use Rattle.std.proofs.lemmas.List.Edits.{paste_all}
use Rattle.lists.specs.Lists.{concat_map}
use Rattle.lists.proofs.Cuts.{rest_mapped}
use Rattle.lists.proofs.Listing.{sets_append}
use Rattle.snapshots.specs.Put.{Put}

-- a row that was put down by other means
pub as_row : (row l m : List ℕ) (at : ℕ) → m ≡ sets l at row → Put row l at m (at + length row)
as_row row l m at w = record { wrote = w; end = refl; size = ap length w ∙ length-sets l at row }

pub copied : (l ys row : List ℕ) (n k : ℕ) → ys ≡ row → n + length row ≤ length l → k ≡ length row → Put row l n (put_mid n k l ys) (n + length row)
copied l ys row n k e b q =
    let w : put_mid n k l ys ≡ sets l n row =
    put_mid-paste n k l ys row k e refl q
    ∙ paste_all l n row k q
    ∙ ap (λ i. take n l ++ (row ++ drop (n + i) l)) q
    ∙ sym (append_assoc (take n l) row (drop (n + length row) l))
    ∙ sym (sets-eq row l n b) in
    as_row row l (put_mid n k l ys) n w

pub both : {a b l m r : List ℕ} {at to end : ℕ} → Put a l at m to → Put b m to r end → Put (a ++ b) l at r end
both {a} {b} {l} {m} {r} {at} {to} {end} p q =
    record {
      wrote = q.wrote ∙ ap (λ i. sets m i b) p.end ∙ ap (λ x. sets x (at + length a) b) p.wrote ∙ sets_append l at a b;
      end = omega (arith, p.end, q.end, length-append a b);
      size = q.size ∙ p.size;
    }

-- what is put down, with what is still to come, is the whole row
pub record Going (whole before : List ℕ) (at : ℕ) (rest now : List ℕ) (end : ℕ) : Type 0 where
  pub same : sets now end rest ≡ sets before at whole
  pub place : end + length rest ≡ at + length whole
  pub size : length now ≡ length before

pub none_yet : (whole before : List ℕ) (at : ℕ) → Going whole before at whole before at
none_yet whole before at = record { same = refl; place = refl; size = refl }

module _ {whole before now : List ℕ} {at end : ℕ} where
  pub one_put : (old row new : List ℕ) (after : List ℕ) (to : ℕ) → old ≡ row ++ new → Put row now end after to → Going whole before at old now end → Going whole before at new after to
  one_put old row new after to e p g =
      record {
        same = ap (λ i. sets after i new) p.end ∙ ap (λ x. sets x (end + length row) new) p.wrote ∙ sets_append now end row new ∙ ap (sets now end) (sym e) ∙ g.same;
        place = omega (arith, g.place, p.end, ap length e, length-append row new);
        size = p.size ∙ g.size;
      }

  pub all_put : (rest : List ℕ) → rest ≡ [] → Going whole before at rest now end → Put whole before at now end
  all_put rest e g = record { wrote = sym (ap (sets now end) e) ∙ g.same; end = omega (arith, g.place, ap length e); size = g.size }

  -- a row that is next has room
  pub room : (old row new : List ℕ) → old ≡ row ++ new → at + length whole ≤ length before → Going whole before at old now end → end + length row ≤ length now
  room old row new e b g = omega (arith, g.place, g.size, b, ap length e, length-append row new)

-- what is said of the next of some, and of those behind it
pub next_row : {A B : Type 0} (f : A → B) (g : B → List ℕ) (xs : List A) (i : ℕ) (d : A) → i < length xs →
    concat_map g (drop i (map f xs)) ≡ g (f (get_or xs i d)) ++ concat_map g (drop (i + 1) (map f xs))
next_row f g xs i d h = ap (concat_map g) (rest_mapped f d xs i h)

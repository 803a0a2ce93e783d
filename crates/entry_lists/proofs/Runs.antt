-- A loop that writes items one behind the other: what is written, with the items still to come, is the whole run.
-- Assumes nothing.
use Prim.Native.Nat.{ℕ, ◌+◌, ◌*◌, ◌≤◌, ◌<◌}
use mathlib.Core.Path.{◌≡◌, refl, sym, ap, ◌∙◌}
use mathlib.Core.Bool.{Bool, true, false}
use mathlib.Core.List.{List, [], ◌∷◌, ◌++◌, append-nil}
use native.Mathlib.Omega.{arith}
use borrow.Author.Tests.{lt-ltb, le-ltb}
use lib.ListN.{length, take, drop, length-append}
use Rattle.std.proofs.Math.Nat.{mul-le-mul_left}
use lib.Seq.{sets, length-sets, take_all, take-append-le}
use Rattle.lists.specs.Lists.{concat_map}
use Rattle.lists.proofs.Keep.{concat_map-append}
use Rattle.lists.proofs.Listing.{length-words, sets_append, sets_front}
use Rattle.rules.specs.Plain.{Plain}
use Rattle.rules.specs.Outcome.{too_short}
use Rattle.rules.specs.Readings.{listing}
use Rattle.std.specs.Prelude.{Result, Ok, Err, Option}
use Rattle.std.specs.Bool.{then_some}
use Rattle.std.specs.Option.{MatchOption}
use Rattle.types.specs.declared.refusal.Refusal.{Refusal}
use Rattle.types.specs.declared.refusal.Refusal.TheVariants.{ListShort}
use Rattle.readings.specs.Reads.{Reads, Lists}
use Rattle.readings.proofs.Written.{reads_list}
use Rattle.entry_lists.specs.Runs.{Ran}

module _ {A : Type 0} (words : A → List ℕ) (k : ℕ) (each : (x : A) → length (words x) ≡ k) where
  -- rest: the items still to come; most: what the count is at most
  pub record Sofar (items : List A) (before : List ℕ) (from : ℕ) (rest : List A) (now : List ℕ) (count most : ℕ) : Type 0 where
    pub size : length now ≡ length before
    pub few : count ≤ most
    pub some : count + length rest ≡ from + length items
    pub same : sets now (k * count) (concat_map words rest) ≡ sets before (k * from) (concat_map words items)

  pub none_yet_lem : (items : List A) (before : List ℕ) (from : ℕ) → Sofar items before from items before from from
  none_yet_lem items before from = record { size = refl; few = omega arith; some = refl; same = refl }

  module _ {items : List A} {before : List ℕ} {from : ℕ} where
    pub passed_by : {now : List ℕ} {count most : ℕ} (old new : List A) (m : ℕ) → old ≡ new → most ≤ m → Sofar items before from old now count most →
        Sofar items before from new now count m
    passed_by old new m e b h = record { size = h.size; few = omega (arith, h.few); some = rw e at h.some; same = rw e at h.same }

    put_all : {now : List ℕ} {count most : ℕ} (a old new : List A) (j m : ℕ) (after : List ℕ) (to : ℕ) → old ≡ a ++ new → length a ≤ j → most + j ≤ m →
        after ≡ sets now (k * count) (concat_map words a) → to ≡ count + length a → Sofar items before from old now count most →
        Sofar items before from new after to m
    put_all {now} {count} {most} a old new j m after to e s b w q h =
        let ahead : k * to ≡ k * count + length (concat_map words a) = rw (q, length-words words k each a) (omega arith) in
        record {
          size = ap length w ∙ length-sets now (k * count) (concat_map words a) ∙ h.size;
          few = omega (arith, h.few);
          some = omega (arith, rw (e, length-append a new) at h.some);
          same =
              rw (w, ahead) (sets_append now (k * count) (concat_map words a) (concat_map words new))
              ∙ ap (sets now (k * count)) (sym (concat_map-append words a new) ∙ ap (concat_map words) (sym e))
              ∙ h.same;
        }

    pub put-run : {now : List ℕ} {count most : ℕ} (a old new : List A) (j m : ℕ) (after : List ℕ) (to : ℕ) → Ran words k a now count after to → old ≡ a ++ new →
        length a ≤ j → most + j ≤ m → Sofar items before from old now count most → Sofar items before from new after to m
    put-run a old new j m after to r e s b h = put_all a old new j m after to e s b r.wrote r.end h

    pub put_one : {now : List ℕ} {count most : ℕ} (x : A) (old new : List A) (m : ℕ) (after : List ℕ) → old ≡ x ∷ new → most + 1 ≤ m →
        after ≡ sets now (k * count) (words x) → Sofar items before from old now count most → Sofar items before from new after (count + 1) m
    put_one {now} {count} x old new m after e b w h = put_all (x ∷ []) old new 1 m after (count + 1) e (omega arith) b (rw (append-nil (words x)) w) refl h

    pub ended : {now : List ℕ} {count most : ℕ} (rest : List A) → rest ≡ [] → k * count ≤ length before → Sofar items before from rest now count most →
        Ran words k items before from now count
    ended rest e b h = record { wrote = rw e at h.same; end = omega (arith, rw e at h.some); room = b }

  -- a run from the front, written out
  front : (items : List A) (before after : List ℕ) (n : ℕ) → Ran words k items before 0 after n → take (k * n) after ≡ concat_map words items
  front items before after n h =
      let all = concat_map words items in
      let count : k * n ≡ length all = rw (h.end, length-words words k each items) (omega arith) in
      let start : k * 0 ≡ 0 = omega arith in
      ap (λ i. take i after) count
      ∙ ap (take (length all)) (h.wrote ∙ ap (λ i. sets before i all) start ∙ sets_front before all (omega (arith, h.room, count)))
      ∙ take-append-le (length all) all (drop (length all) before) (omega arith)
      ∙ take_all (length all) all (omega arith)

  pub reads-run : (items : List A) (before after : List ℕ) (n : ℕ) (p : Plain) (m : ℕ) (lent out : List ℕ) (r : Result ℕ Refusal) → m ≡ 0 → Ran words k items before 0 after n →
      Lists (take (k * n) after) n lent out r → Reads (listing m (length lent) words items p) lent out r
  reads-run items before after n p m lent out r z h w =
      let count : n ≡ length items = omega (arith, h.end) in
      reads_list words items p m lent out r z (rw count at (rw (front items before after n h) at w))

  -- a lent list that is too short for so many items, and one that was run into from its front
  pub reads_none : (items : List A) (p : Plain) (lent : List ℕ) → length lent < k * length items → Reads (listing 0 (length lent) words items p) lent lent (Err ListShort)
  reads_none items p lent h =
      let t : too_short (length lent) (concat_map words items) ≡ true = rw (length-words words k each items) (lt-ltb (length lent) (k * length items) h) in
      reads_list words items p 0 lent lent (Err ListShort) refl (record { refused = rw t; answer = rw t; wrote = rw t })

  pub reads_all : (items : List A) (p : Plain) (lent after : List ℕ) (n : ℕ) → Ran words k items lent 0 after n →
      Reads (listing 0 (length lent) words items p) lent after (Ok n)
  reads_all items p lent after n h =
      let all = concat_map words items in
      let size : length all ≤ length lent = omega (arith, h.room, h.end, ap (λ i. k * i) h.end, length-words words k each items) in
      let t : too_short (length lent) all ≡ false = le-ltb (length lent) (length all) size in
      let start : k * 0 ≡ 0 = omega arith in
      reads_list words items p 0 lent after (Ok n) refl
      (record {
        refused = rw t;
        answer = rw t (omega (arith, h.end));
        wrote = rw t (h.wrote ∙ ap (λ i. sets lent i all) start ∙ sets_front lent all size);
      })

-- so many items of one size are within the room for forty-eight
pub within : (k n m : ℕ) → n ≤ 48 → 48 * k ≤ m → k * n ≤ m
within k n m h b = omega (arith, mul-le-mul_left k h, b)

-- what a closure says by a test, of a row
pub picked : (b : Bool) (x : List ℕ) (r : Option (List ℕ)) → r ≡ then_some b x → MatchOption r (b ≡ false) (λ y. (b ≡ true) × (y ≡ x))
picked true x r e = rw e (refl, refl)
picked false x r e = rw e refl

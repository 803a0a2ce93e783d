-- The shards of the departures that pass a test, gathered one by one.
-- Assumes nothing.
use Prim.Native.Nat.{ℕ, ◌+◌, ◌≤◌, ◌<◌}
use mathlib.Core.Path.{◌≡◌, refl, sym, ap, ◌∙◌}
use mathlib.Core.Bool.{Bool, true, false, not}
use mathlib.Core.List.{List, [], ◌∷◌, ◌++◌, append-nil, map}
use native.Mathlib.Omega.{arith}
use lib.ListN.{length, take, get_or, get_or-map, length-append}
use lib.Seq.{take_all}
use Rattle.std.proofs.lemmas.List.{take_more, map-append}
use Rattle.lists.specs.Lists.{Ascending, self, keep_by, cons_if}
use Rattle.lists.specs.Front.{held}
use Rattle.lists.proofs.Held.{held-length}
use Rattle.lists.proofs.Distinct.{keep_by-more, keep_by_test}
use Rattle.lists.proofs.Order.{ascending-map}
use Rattle.rules.specs.Plain as plain
use Rattle.rules.specs.Plain.{shard_of}
use Rattle.store.specs.declared.departures.Departure.{Departure}
use Rattle.store.specs.declared.departures.Departures.{Departures}
use Rattle.std.specs.Prelude.{Option, Some, None, is_some}
use Rattle.types.specs.declared.Time.{Time}
use Rattle.rules.specs.Readings.{is_unstamped}
use Rattle.store.specs.Departures.{plain_departure, stamp_of, on_file}
use Rattle.store.proofs.Filed.{file-length}
use Rattle.store.proofs.Kept.{kept_rises}
use Rattle.shard_lists.specs.declared.set.Set.{Set}
use Rattle.shard_lists.specs.Sets.{front, Holds, shards_of}
use Rattle.shard_lists.proofs.Gather.{front_length}

-- Says is what is said of a departure that is asked about; what was said of the first i is flags, and the shards of those whose flag is up stand
-- in front. They rise as the departures do, whichever they are, and are those that pass any test that what is said is.
module _ (Says : Departure → Bool → Type 0) (x : Departures) where
  abbrev pub Is : (plain.Departure → Bool) → Type 0
  Is p = (d : Departure) (b : Bool) → Says d b → b ≡ p (plain_departure d)

  pub record Picked (i : ℕ) (s : Set) : Type 0 where
    pub flags : List Bool
    pub long : length flags ≡ i
    pub few : s.shards.len ≤ i
    pub picks : front s ≡ map shard_of (keep_by flags (on_file x))
    pub by : (p : plain.Departure → Bool) → Is p → flags ≡ map p (take i (on_file x))

  pub none-picked : (s : Set) → Holds [] s → Picked 0 s
  none-picked s h = record { flags = []; long = refl; few = omega (arith, front_length s, ap length h.holds); picks = h.holds; by = λ p q. refl }

  -- the one at a place, read from a slice of them
  module _ (items : List Departure) (e : items ≡ held x.front) (d : Departure) (i : ℕ) (s : Set) (b : Bool) (k : i < length items) (a : Says (get_or items i d) b) (q : Picked i s) where
    abbrev here : Departure
    here = get_or items i d

    abbrev flags : List Bool
    flags = q.flags ++ b ∷ []

    one-is : get_or (on_file x) i (plain_departure d) ≡ plain_departure here
    one-is = ap (λ l. get_or (map plain_departure l) i (plain_departure d)) (sym e) ∙ get_or-map plain_departure items i d

    within : i < length (on_file x)
    within = omega (arith, file-length x, ap length e, held-length x.front)

    said : (p : plain.Departure → Bool) → Is p → flags ≡ map p (take (i + 1) (on_file x))
    said p h =
        ap (λ l. l ++ b ∷ []) (q.by p h)
        ∙ ap (λ c. map p (take i (on_file x)) ++ c ∷ []) (h here b a ∙ ap p (sym one-is))
        ∙ sym (map-append p (take i (on_file x)) (get_or (on_file x) i (plain_departure d) ∷ []))
        ∙ ap (map p) (sym (take_more (on_file x) i (plain_departure d) within))

    long : length flags ≡ i + 1
    long = length-append q.flags (b ∷ []) ∙ ap (λ m. m + 1) q.long

    kept : keep_by flags (on_file x) ≡ keep_by q.flags (on_file x) ++ cons_if b (plain_departure here) []
    kept =
        keep_by-more q.flags b (on_file x) (plain_departure d) (omega (arith, q.long, within))
        ∙ ap (λ j. keep_by q.flags (on_file x) ++ cons_if b (get_or (on_file x) j (plain_departure d)) []) q.long
        ∙ ap (λ e. keep_by q.flags (on_file x) ++ cons_if b e []) one-is

    pub passed-by : b ≡ false → Picked (i + 1) s
    passed-by t =
        record {
          flags = flags;
          long = long;
          few = omega (arith, q.few);
          picks = q.picks ∙ ap (map shard_of) (sym (append-nil (keep_by q.flags (on_file x)))) ∙ ap (λ c. map shard_of (keep_by q.flags (on_file x) ++ cons_if c (plain_departure here) [])) (sym t) ∙ ap (map shard_of) (sym kept);
          by = said;
        }

    -- with the shard of one that passes put behind
    grows : b ≡ true → front s ++ here.shard.0 ∷ [] ≡ map shard_of (keep_by flags (on_file x))
    grows t =
        ap (λ l. l ++ here.shard.0 ∷ []) q.picks
        ∙ sym (map-append shard_of (keep_by q.flags (on_file x)) (plain_departure here ∷ []))
        ∙ ap (λ c. map shard_of (keep_by q.flags (on_file x) ++ cons_if c (plain_departure here) [])) (sym t) ∙ ap (map shard_of) (sym kept)

    pub may-push : b ≡ true → (s.shards.len < 40) × Ascending self (front s ++ here.shard.0 ∷ [])
    may-push t = (
      omega (arith, q.few, x.front.room, ap length e, held-length x.front),
      rw (grows t) (ascending-map shard_of self shard_of (λ d. refl) (keep_by flags (on_file x)) (kept_rises shard_of flags (on_file x) x.rising)),
    )

    pub picked : b ≡ true → (r : Set) → Holds (front s ++ here.shard.0 ∷ []) r → Picked (i + 1) r
    picked t r h =
        record {
          flags = flags;
          long = long;
          few = omega (arith, q.few, front_length r, front_length s, ap length h.holds, length-append (front s) (here.shard.0 ∷ []));
          picks = h.holds ∙ grows t;
          by = said;
        }

  pub all-picked : (items : List Departure) → items ≡ held x.front → (i : ℕ) (s : Set) → length items ≤ i → Picked i s → (p : plain.Departure → Bool) → Is p → Holds (shards_of p (on_file x)) s
  all-picked items e i s k q p h =
      record {
        holds =
            q.picks ∙ ap (λ fs. map shard_of (keep_by fs (on_file x))) (q.by p h ∙ ap (map p) (take_all i (on_file x) (omega (arith, file-length x, ap length e, held-length x.front))))
            ∙ ap (map shard_of) (keep_by_test p (on_file x));
      }

-- a departure without a stamp, as the rules have it
pub lacking : (s : Option Time) (b : Bool) → is_some s ≡ not b → b ≡ is_unstamped (stamp_of s)
lacking None true e = refl
lacking None false e = e
lacking (Some t) true e = e
lacking (Some t) false e = refl

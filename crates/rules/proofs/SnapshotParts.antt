-- The part of an entry in a snapshot and what goes with it: the reader's tests ask of them what is good, and the numbers that are written of
-- them are read back.
-- Assumes nothing.
use Prim.Native.Nat.{ℕ, ◌≤◌}
use mathlib.Core.Path.{◌≡◌, refl, ap}
use mathlib.Core.Bool.{Bool, true, false, not, ◌&&◌, ◌||◌, false≢true}
use mathlib.Core.List.{List, ◌∷◌, []}
use native.Mathlib.Omega.{arith}
use borrow.Author.Tests.{not-true}
use lib.Dec.{eqb, leb}
use lib.ListN.{length, length-map}
use Rattle.lists.specs.Lists.{all, filled, has, ascending, self}
use Rattle.lists.proofs.Tests.{and_both, and_left, and_right}
use Rattle.lists.proofs.Keep.{length-keep, all_every, every_all}
use Rattle.lists.proofs.Order.{test_ascending, ascending_test}
use Rattle.lists.proofs.Room.{rising-within}
use Rattle.rules.specs.Numbers.{record_key}
use Rattle.rules.specs.Plain.{Part, whole, leg, core, remainder, part_number, Edge, Terms, edges_from, issued, issues, owes}
use Rattle.rules.specs.Outcome.{yes_no}
use Rattle.rules.specs.Good.{GoodTerms, Unmarked, Marked, GoodPart}
use Rattle.rules.specs.Snapshot.{decomposed_word, part_named, part_fits, are_issued, marks_fit}

-- nothing is listed
bare : {A : Type 0} (l : List A) → not (filled l) ≡ true → l ≡ []
bare [] h = refl
bare (x ∷ l) h = absurd (false≢true h)

-- the parts
none_marked : (marks : List ℕ) (b : Bool) → not (filled marks) && not b ≡ true → Unmarked marks b
none_marked marks b h = record { none = bare marks (and_left (not (filled marks)) (not b) h); returned = not-true b (and_right (not (filled marks)) (not b) h) }

some_marked : (local : ℕ) (t : Terms) (marks : List ℕ) (b : Bool) → are_issued local t marks b ≡ true → Marked local t marks b
some_marked local t marks b h =
    let rest : all (λ r. issues local r t) marks && (not b || filled marks) ≡ true = and_right (ascending self marks) _ h in
    record {
      rising = ascending_test self marks (and_left (ascending self marks) _ h);
      among = every_all (λ r. issues local r t) marks (and_left (all (λ r. issues local r t) marks) _ rest);
      returned = go b (and_right (all (λ r. issues local r t) marks) _ rest);
    }
  where
    go : (c : Bool) → not c || filled marks ≡ true → c ≡ true → filled marks ≡ true
    go true q e = q
    go false q e = absurd (false≢true e)

pub part-good : (q : Part) (local d : ℕ) (t : Terms) (marks : List ℕ) (b : Bool) → part_fits q local d t ≡ true → marks_fit q local t marks b ≡ true → GoodPart q local t marks b
part-good whole local d t marks b h k =
    let rest = and_right (eqb d 0) _ h in
    (bare t.core_shards (and_left (not (filled t.core_shards)) _ rest), bare t.edges (and_right (not (filled t.core_shards)) _ rest), none_marked marks b k)
part-good leg local d t marks b h k = (not-true (has self local t.core_shards) (and_right (eqb d 1) _ h), some_marked local t marks b k)
part-good core local d t marks b h k = (and_right (eqb d 1) _ h, none_marked marks b k)
part-good remainder local d t marks b h k =
    let rest = and_right (eqb d 1) _ h in
    (and_left (has self local t.core_shards) _ rest, and_right (has self local t.core_shards) _ rest, some_marked local t marks b k)

-- The other way: what is good passes.
pub part-read : (q : Part) → part_named (part_number q) ≡ q
part-read whole = refl
part-read leg = refl
part-read core = refl
part-read remainder = refl

pub part-number : (q : Part) → leb (part_number q) 3 ≡ true
part-number whole = refl
part-number leg = refl
part-number core = refl
part-number remainder = refl

pub flag-read : (b : Bool) → eqb (yes_no b) 1 ≡ b
flag-read true = refl
flag-read false = refl

pub flag-number : (b : Bool) → leb (yes_no b) 1 ≡ true
flag-number true = refl
flag-number false = refl

-- no more records are marked than are issued
pub few_marks : (local : ℕ) (q : Part) (t : Terms) (marks : List ℕ) (b : Bool) → GoodTerms t → GoodPart q local t marks b → length marks ≤ 8
few_marks local q t marks b g h = go q h
  where
    among : Marked local t marks b → length marks ≤ 8
    among m =
        omega (
          arith,
          g.edge_count,
          rising-within marks (issued local t) m.rising m.among,
          length-map (edges_from local t) (λ (g : Edge). record_key g.id),
          length-keep (λ (g : Edge). eqb g.from local) t.edges,
        )

    unmarked : Unmarked marks b → length marks ≤ 8
    unmarked u = omega (arith, ap length u.none)

    go : (q : Part) → GoodPart q local t marks b → length marks ≤ 8
    go whole h = unmarked h.2
    go leg h = among h.1
    go core h = unmarked h.1
    go remainder h = among h.2

pub decomposed-number : (q : Part) → leb (decomposed_word q) 1 ≡ true
decomposed-number whole = refl
decomposed-number leg = refl
decomposed-number core = refl
decomposed-number remainder = refl

-- a part that goes with an entry passes
unmarked_fit : (marks : List ℕ) (b : Bool) → Unmarked marks b → not (filled marks) && not b ≡ true
unmarked_fit marks b u = rw (u.none, u.returned)

issued-fit : (local : ℕ) (t : Terms) (marks : List ℕ) (b : Bool) → Marked local t marks b → are_issued local t marks b ≡ true
issued-fit local t marks b m =
    rw (test_ascending self marks m.rising, all_every (λ r. issues local r t) marks m.among) (go b m.returned)
  where
    go : (c : Bool) → (c ≡ true → filled marks ≡ true) → not c || filled marks ≡ true
    go true f = f refl
    go false f = refl

pub marks-fit : (local : ℕ) (q : Part) (t : Terms) (marks : List ℕ) (b : Bool) → GoodPart q local t marks b → marks_fit q local t marks b ≡ true
marks-fit local whole t marks b h = unmarked_fit marks b h.2
marks-fit local leg t marks b h = issued-fit local t marks b h.1
marks-fit local core t marks b h = unmarked_fit marks b h.1
marks-fit local remainder t marks b h = issued-fit local t marks b h.2

pub part-fits : (local : ℕ) (q : Part) (t : Terms) (marks : List ℕ) (b : Bool) → GoodPart q local t marks b → part_fits q local (decomposed_word q) t ≡ true
part-fits local whole t marks b h = rw (h.0, h.1)
part-fits local leg t marks b h = rw h.0
part-fits local core t marks b h = h.0
part-fits local remainder t marks b h = and_both (has self local t.core_shards) (owes local t) h.0 h.1

-- What the three steps leave of the departures on file, which are those that a view shows.
use Rattle.std.specs.Prelude.{ℕ, ◌≡◌, ◌<◌, Bool, true, List, map, get_or, Option, Some, None}
use Rattle.std.proofs.Math.Option.{none}
use Rattle.lists.specs.Lists.{Every}
use Rattle.lists.specs.Front.{held}
use Rattle.rules.specs.Plain.{Departure}
use Rattle.rules.specs.Over.{counts_before, owners, cuts_after, smallest_cut, counting, left_by, OwnersLeft, CutsLeft, OverLeft, SmallestLeft, CountingLeft}
use Rattle.judge.specs.View.{Shows}
use Rattle.judge.specs.declared.over.Left.{Left}
use Rattle.judge.specs.declared.views.View.{View}

-- the departure at a place; past the end of the file one that no call files
abbrev pub nobody : Departure
nobody = record { shard = 0; cut = 0; stamp = none }

abbrev pub at_place : List Departure → ℕ → Departure
at_place ds j = get_or ds j nobody

-- the departures that are left
abbrev pub left_of : List Departure → Left → List Departure
left_of ds x = map (at_place ds) (held x.places)

-- each place is one on file
abbrev pub OnFile : View → Left → Type 0
OnFile v x = Every (λ j. j < v.seen.len) (held x.places)

-- whether a departure counts before the one at a place, if there is one
abbrev pub counts_first : List Departure → Departure → Option ℕ → Bool
counts_first ds d None = true
counts_first ds d (Some j) = counts_before d (at_place ds j)

abbrev pub SaysFirst : View → ℕ → Option ℕ → Bool → Type 0
SaysFirst v place other r = (ds : List Departure) (now : ℕ) → Shows ds now v → r ≡ counts_first ds (at_place ds place) other

-- What is left is the definition's list, so each departure once and in the order of the file; besides it is said in words.

-- The first step: a departure is left if and only if it is on file and owns the route.
pub record LeavesOwners (v : View) (route : ℕ) (x : Left) : Type 0 where
  pub on_file : OnFile v x
  pub list : (ds : List Departure) (now : ℕ) → Shows ds now v → left_of ds x ≡ owners route ds
  pub left : (ds : List Departure) (now : ℕ) → Shows ds now v → OwnersLeft route ds (left_of ds x)

-- The second: if and only if it was left and its cut is after the anchor; of the owners of a route, if and only if it is on file, owns the route and
-- its cut is after the anchor.
pub record LeavesCuts (v : View) (anchor : ℕ) (owners x : Left) : Type 0 where
  pub on_file : OnFile v x
  pub list : (ds : List Departure) (now : ℕ) → Shows ds now v → left_of ds x ≡ cuts_after anchor (left_of ds owners)
  pub left : (ds : List Departure) (now : ℕ) → Shows ds now v → CutsLeft anchor (left_of ds owners) (left_of ds x)
  pub over : (ds : List Departure) (now route : ℕ) → Shows ds now v → OwnersLeft route ds (left_of ds owners) → OverLeft anchor route ds (left_of ds x)

-- The third: if and only if it was left and no other that was counts before it; of those over a route, if and only if it is on file, over the route, and no
-- other over the route counts before it. One is left at most, and none only where none was, or none is over the route.
pub record LeavesSmallest (v : View) (cuts x : Left) : Type 0 where
  pub on_file : OnFile v x
  pub list : (ds : List Departure) (now : ℕ) → Shows ds now v → left_of ds x ≡ left_by (smallest_cut (left_of ds cuts))
  pub left : (ds : List Departure) (now : ℕ) → Shows ds now v → SmallestLeft (left_of ds cuts) (left_of ds x)
  pub counts : (ds : List Departure) (now anchor route : ℕ) → Shows ds now v → OverLeft anchor route ds (left_of ds cuts) → CountingLeft anchor route ds (left_of ds x)

-- All three: if and only if it is on file, over the route, and no other over the route counts before it.
pub record LeavesCounting (v : View) (route anchor : ℕ) (x : Left) : Type 0 where
  pub on_file : OnFile v x
  pub list : (ds : List Departure) (now : ℕ) → Shows ds now v → left_of ds x ≡ left_by (counting anchor route ds)
  pub left : (ds : List Departure) (now : ℕ) → Shows ds now v → CountingLeft anchor route ds (left_of ds x)

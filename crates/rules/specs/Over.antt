-- Paper, 'Departures, then prune': which departures on file are over a route of an entry, and which of them counts. It is found in three steps, in
-- the order of the text: the owners of the route, of these the cuts after the anchor, of these the smallest. Rule 4, what remains of the
-- departures after a prune, and counterparts read ownership and 'over' by these names.
use Rattle.std.specs.Prelude.{ℕ, ◌≡◌, ◌↔◌, ◌≤◌, Bool, true, false, cond, ◌&&◌, ◌||◌, List, [], ◌∷◌, ltb, leb, eqb, length, Contains}
use Rattle.std.proofs.Math.Option.{Option, none, some}
use Rattle.lists.specs.Lists.{keep}
use Rattle.rules.specs.Numbers.{owns}
use Rattle.rules.specs.Plain.{Entry, Departure}

-- the departed shard owns the route
abbrev pub is_owner : ℕ → Departure → Bool
is_owner route d = owns d.shard route

-- the cut is after the anchor
abbrev pub is_after : ℕ → Departure → Bool
is_after anchor d = ltb anchor d.cut

-- over a route, for an entry with this anchor: both
abbrev pub is_over : (anchor route : ℕ) → Departure → Bool
is_over anchor route d = is_owner route d && is_after anchor d

abbrev pub over : Entry → ℕ → Departure → Bool
over e route d = is_over e.terms.anchor route d

-- the smallest cut counts, the lower shard on equal cuts
abbrev pub counts_before : Departure → Departure → Bool
counts_before d b = ltb d.cut b.cut || (eqb d.cut b.cut && leb d.shard b.shard)

abbrev pub earlier : Departure → Option Departure → Option Departure
earlier d none = some d
earlier d (some b) = cond (counts_before d b) (some d) (some b)

-- The first step leaves, of the departures on file, those whose shard owns the route.
abbrev pub owners : ℕ → List Departure → List Departure
owners route ds = keep (is_owner route) ds

-- The second leaves, of these, those whose cut is after the anchor.
abbrev pub cuts_after : ℕ → List Departure → List Departure
cuts_after anchor ds = keep (is_after anchor) ds

-- The third leaves, of these, the one with the smallest cut, the lower shard on equal cuts.
abbrev pub smallest_cut : List Departure → Option Departure
smallest_cut [] = none
smallest_cut (d ∷ l) = earlier d (smallest_cut l)

-- the departure that counts over a route: for an entry with this anchor, and of an entry
abbrev pub counting : (anchor route : ℕ) → List Departure → Option Departure
counting anchor route ds = smallest_cut (cuts_after anchor (owners route ds))

abbrev pub departure_over : List Departure → Entry → ℕ → Option Departure
departure_over ds e route = counting e.terms.anchor route ds

-- the one of these as a list of those left
abbrev pub left_by : Option Departure → List Departure
left_by none = []
left_by (some d) = d ∷ []

-- What each step leaves, in words, of the departures that it is handed. That the definitions leave it is proved in `proofs/Over`, and so is what
-- that makes of a step after the ones before it. The functions of `judge::over` have these as their contracts.

-- The first: a departure is left if and only if it is on file and owns the route.
abbrev pub OwnersLeft : (route : ℕ) (file left : List Departure) → Type 0
OwnersLeft route file left = (d : Departure) → Contains left d ↔ (Contains file d × (is_owner route d ≡ true))

-- The second: if and only if it was left and its cut is after the anchor.
abbrev pub CutsLeft : (anchor : ℕ) (owners left : List Departure) → Type 0
CutsLeft anchor owners left = (d : Departure) → Contains left d ↔ (Contains owners d × (is_after anchor d ≡ true))

-- Of the owners of a route: if and only if it is on file, owns the route and its cut is after the anchor.
abbrev pub OverLeft : (anchor route : ℕ) (file left : List Departure) → Type 0
OverLeft anchor route file left = (d : Departure) → Contains left d ↔ (Contains file d × (is_over anchor route d ≡ true))

-- no other of them counts before it
abbrev pub NoneBefore : List Departure → Departure → Type 0
NoneBefore cuts d = (x : Departure) → Contains cuts x → (x.shard ≡ d.shard → ⊥) → counts_before x d ≡ false

-- The third: if and only if it was left and no other that was counts before it. One is left at most, and none only where none was.
pub record SmallestLeft (cuts left : List Departure) : Type 0 where
  pub which : (d : Departure) → Contains left d ↔ (Contains cuts d × NoneBefore cuts d)
  pub one : length left ≤ 1
  pub none : left ≡ [] → cuts ≡ []

-- it is on file, over the route, and no other over the route counts before it
pub record Counts (anchor route : ℕ) (file : List Departure) (d : Departure) : Type 0 where
  pub on_file : Contains file d
  pub over : is_over anchor route d ≡ true
  pub first : (x : Departure) → Contains file x → is_over anchor route x ≡ true → (x.shard ≡ d.shard → ⊥) → counts_before x d ≡ false

-- Of those over a route: if and only if it counts. One is left at most, and none only where none is over the route.
pub record CountingLeft (anchor route : ℕ) (file left : List Departure) : Type 0 where
  pub which : (d : Departure) → Contains left d ↔ Counts anchor route file d
  pub one : length left ≤ 1
  pub none : left ≡ [] → (d : Departure) → Contains file d → is_over anchor route d ≡ false

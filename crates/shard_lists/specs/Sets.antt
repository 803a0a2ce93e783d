-- What a set of numbers holds, and what shards are gathered.
use Rattle.std.specs.Prelude.{ℕ, ◌≡◌, Bool, List, ◌∷◌, map, length, Result}
use Rattle.lists.specs.Lists.{keep, any, concat_map, include_all, self, set_of}
use Rattle.lists.specs.Front.{held}
use Rattle.types.specs.declared.Shard.{Shard}
use Rattle.types.specs.declared.refusal.Refusal.{Refusal}
use Rattle.readings.specs.Reads.{Reads}
use Rattle.rules.specs.Over.{is_over}
use Rattle.rules.specs.Plain as plain
use Rattle.rules.specs.Plain.{Plain, shard_of, remote}
use Rattle.rules.specs.Readings.{is_unstamped, listing, single, counterparts}
use Rattle.shard_lists.specs.declared.set.Set.{Set}
use Rattle.store.specs.declared.departures.Departure.{Departure}
use Rattle.store.specs.declared.departures.Departures.{Departures}
use Rattle.store.specs.Departures.{on_file, plain_departure}

abbrev pub front : Set → List ℕ
front s = held s.shards

-- a set that holds just these
pub record Holds (l : List ℕ) (s : Set) : Type 0 where
  pub holds : front s ≡ l

-- By whatever test of departures the answers are given, the set holds the shards of those that pass: Says is what is said of a departure that is
-- asked about.
abbrev pub shards_of : (plain.Departure → Bool) → List plain.Departure → List ℕ
shards_of p ds = map shard_of (keep p ds)

abbrev pub Gathers : (Departure → Bool → Type 0) → Departures → Set → Type 0
Gathers Says x s = (p : plain.Departure → Bool) → ((d : Departure) (b : Bool) → Says d b → b ≡ p (plain_departure d)) → Holds (shards_of p (on_file x)) s

-- what is gathered: departed shards, over a route or over one of some routes of an entry with an anchor; those without a stamp; an entry's
-- counterparts
abbrev pub shards_over : ℕ → ℕ → List plain.Departure → List ℕ
shards_over anchor route ds = shards_of (is_over anchor route) ds

abbrev pub is_over_some : ℕ → List ℕ → plain.Departure → Bool
is_over_some anchor routes d = any (λ r. is_over anchor r d) routes

abbrev pub departed_over : ℕ → List ℕ → List plain.Departure → List ℕ
departed_over anchor routes ds = shards_of (is_over_some anchor routes) ds

abbrev pub lacks_stamp : plain.Departure → Bool
lacks_stamp d = is_unstamped d.stamp

abbrev pub unstamped_on : List plain.Departure → List ℕ
unstamped_on ds = shards_of lacks_stamp ds

abbrev pub counterparts_at : (shard_for : ℕ → ℕ) → ℕ → List plain.Departure → plain.Entry → List ℕ
counterparts_at shard_for local ds e =
    set_of (concat_map (λ (r : ℕ). shard_for r ∷ shards_over e.terms.anchor r ds) (remote local e.terms))

-- By whatever trie the answers are given: Says is what is said of a route that is asked about.
abbrev pub BySay : (ℕ → Shard → Type 0) → (ℕ → ℕ) → Type 0
BySay Says shard_for = (route : ℕ) (s : Shard) → Says route s → s.0 ≡ shard_for route

-- the trie's shards of some routes are put in; an entry's counterparts by it
abbrev pub Tries : (ℕ → Shard → Type 0) → (far stand : List ℕ) → Set → Type 0
Tries Says far stand s = (f : ℕ → ℕ) → BySay Says f → Holds (include_all self (map f far) stand) s

abbrev pub LiesBeyond : (ℕ → Shard → Type 0) → ℕ → List plain.Departure → plain.Entry → Set → Type 0
LiesBeyond Says local ds e s = (f : ℕ → ℕ) → BySay Says f → Holds (counterparts_at f local ds e) s

-- a transaction's counterparts by it, written out where nothing is refused
abbrev pub ListsBeyond : (ℕ → Shard → Type 0) → ℕ → Plain → (lent after : List ℕ) → Result ℕ Refusal → Type 0
ListsBeyond Says t p lent after r =
    (f : ℕ → ℕ) → BySay Says f → (m : ℕ) → m ≡ 0 → Reads (listing m (length lent) single (counterparts f t p) p) lent after r

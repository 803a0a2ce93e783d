-- What every ledger that calls reach has, and nothing that need not be so.
use Rattle.std.specs.Prelude.{ℕ, zero, suc, ◌≤◌, ◌≡◌, Bool, true, false, List, [], length}
use Rattle.std.proofs.Math.Option.{Option, none, some}
use Rattle.lists.specs.Lists.{Every, Ascending, has, filled, self}
use Rattle.rules.specs.Numbers.{is_word, is_time, is_shard, is_span, max_entries, max_departures, max_routes, max_core, max_edges, max_destinations, max_absences, max_counts, max_count}
use Rattle.rules.specs.Plain.{Part, whole, leg, core, remainder, Edge, Terms, Absence, Entry, Departure, Count, Plain, transaction_of, absence_key, shard_of, counted_shard, issues, owes}
use Rattle.rules.specs.Calls.{Call, admission, absence, certify, abandonment, settled, returned, closes, fated, finalization, forget, terminal, stamp, prune, bundle}

abbrev pub Holds : (ℕ → Bool) → ℕ → Type 0
Holds test n = test n ≡ true

-- at most a number of elements, each of which passes the test
pub record Within (limit : ℕ) (test : ℕ → Bool) (l : List ℕ) : Type 0 where
  pub size : length l ≤ limit
  pub each : Every (Holds test) l

pub record GoodEdge (g : Edge) : Type 0 where
  pub id : is_word g.id ≡ true
  pub from : is_shard g.from ≡ true
  pub kind : g.kind ≤ 1
  pub to : Within max_destinations is_shard g.to
  pub rising : Ascending self g.to

pub record GoodTerms (t : Terms) : Type 0 where
  pub transaction : is_word t.transaction ≡ true
  pub at : is_time t.at ≡ true
  pub end : is_time t.end ≡ true
  pub anchor : is_time t.anchor ≡ true
  pub charge : is_word t.charge ≡ true
  pub routes : Within max_routes is_word t.routes
  pub core_shards : Within max_core is_shard t.core_shards
  pub rising : Ascending self t.core_shards
  pub edge_count : length t.edges ≤ max_edges
  pub edges : Every GoodEdge t.edges

pub record GoodAbsence (a : Absence) : Type 0 where
  pub shard : is_shard a.shard ≡ true
  pub key : is_word a.key ≡ true

-- nothing is marked
pub record Unmarked (marks : List ℕ) (is_returned : Bool) : Type 0 where
  pub none : marks ≡ []
  pub returned : is_returned ≡ false

-- the marks rise and are among the issued records; a return is a mark
pub record Marked (local : ℕ) (t : Terms) (marks : List ℕ) (is_returned : Bool) : Type 0 where
  pub rising : Ascending self marks
  pub among : Every (λ r. issues local r t ≡ true) marks
  pub returned : is_returned ≡ true → filled marks ≡ true

-- what each part goes with: a whole entry holds no core and no edges, a core or remainder has local in its core, a leg has
-- not, and a remainder has an owed edge from local
abbrev pub GoodPart : Part → ℕ → Terms → List ℕ → Bool → Type 0
GoodPart whole local t marks is_returned = (t.core_shards ≡ []) × (t.edges ≡ []) × Unmarked marks is_returned
GoodPart leg local t marks is_returned = (has self local t.core_shards ≡ false) × Marked local t marks is_returned
GoodPart core local t marks is_returned = (has self local t.core_shards ≡ true) × Unmarked marks is_returned
GoodPart remainder local t marks is_returned =
    (has self local t.core_shards ≡ true) × (owes local t ≡ true) × Marked local t marks is_returned

-- no record names the entry, or a shard's does
abbrev pub is_departed_by : ℕ → Bool
is_departed_by zero = true
is_departed_by (suc n) = is_shard (suc n)

pub record GoodEntry (local : ℕ) (e : Entry) : Type 0 where
  pub terms : GoodTerms e.terms
  pub certificate : e.certificate ≤ 2
  pub departed_by : is_departed_by e.departed_by ≡ true
  pub absence_count : length e.absences ≤ max_absences
  pub absences : Every GoodAbsence e.absences
  pub absence_order : Ascending absence_key e.absences
  pub part : GoodPart e.part local e.terms e.marks e.returned

abbrev pub GoodStamp : Option ℕ → Type 0
GoodStamp none = Unit {0}
GoodStamp (some until) = is_time until ≡ true

pub record GoodDeparture (d : Departure) : Type 0 where
  pub shard : is_shard d.shard ≡ true
  pub cut : is_time d.cut ≡ true
  pub stamp : GoodStamp d.stamp

-- a count stands only once an entry was rebuilt
pub record GoodCount (c : Count) : Type 0 where
  pub shard : is_shard c.shard ≡ true
  pub some : 1 ≤ c.rebuilt
  pub few : c.rebuilt ≤ max_count

-- rows of a file: each is good, and they lie by rising key, none twice
pub record GoodRows {A : Type 0} (key_of : A → ℕ) (Each : A → Type 0) (l : List A) : Type 0 where
  pub each : Every Each l
  pub order : Ascending key_of l

-- and there are no more than a limit
pub record GoodFile {A : Type 0} (key_of : A → ℕ) (Each : A → Type 0) (limit : ℕ) (l : List A) : Type 0 where
  pub count : length l ≤ limit
  pub rows : GoodRows key_of Each l

abbrev pub GoodEntries : ℕ → List Entry → Type 0
GoodEntries local es = GoodFile transaction_of (GoodEntry local) max_entries es

abbrev pub GoodDepartures : List Departure → Type 0
GoodDepartures ds = GoodFile shard_of GoodDeparture max_departures ds

abbrev pub GoodCounts : List Count → Type 0
GoodCounts cs = GoodFile counted_shard GoodCount max_counts cs

-- what a making sets and no call changes
pub record GoodFrame (home v c l : ℕ) : Type 0 where
  pub local : is_shard home ≡ true
  pub validity : is_span v ≡ true
  pub core_span : is_span c ≡ true
  pub leg_span : is_span l ≡ true

-- in groups, so that a change of one part proves that part
pub record Good (p : Plain) : Type 0 where
  pub frame : GoodFrame p.local p.validity p.core_span p.leg_span
  pub entries : GoodEntries p.local p.entries
  pub departures : GoodDepartures p.departures
  pub counts : GoodCounts p.counts

-- of a call's numbers, those that the ledger keeps and the table does not check are words
abbrev pub OfWords : Call → Type 0
OfWords (admission ws) = Every (Holds is_word) ws
OfWords (absence t shard key) = is_word key ≡ true
OfWords (certify t code) = Unit {0}
OfWords (abandonment ws) = Every (Holds is_word) ws
OfWords (settled r t) = Unit {0}
OfWords (returned r t) = Unit {0}
OfWords (closes room) = Unit {0}
OfWords (fated t) = Unit {0}
OfWords (finalization ws) = Unit {0}
OfWords (forget t) = Unit {0}
OfWords (terminal shard cut is_stamped until) = Unit {0}
OfWords (stamp shard until) = Unit {0}
OfWords (prune now room) = Unit {0}
OfWords (bundle ws) = Every (Holds is_word) ws

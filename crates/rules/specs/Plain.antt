-- Paper, 'What demand 3 compares': the plain ledger and what it holds of each entry and each departure.
use Rattle.std.specs.Prelude.{ℕ, ◌+◌, ◌*◌, ◌^◌, Bool, true, false, not, ◌||◌, List, [], map, eqb, ltb}
use Rattle.std.proofs.Math.Option.{Option}
use Rattle.lists.specs.Lists.{keep, any, filled, has, get, self}
use Rattle.rules.specs.Numbers.{record_key, owns}

-- what of a transaction an entry stands for
pub data Part : Type 0 where
  whole leg core remainder : Part

-- the number that the paper gives each part
abbrev pub part_number : Part → ℕ
part_number whole = 0
part_number leg = 1
part_number core = 2
part_number remainder = 3

abbrev pub is_core : Part → Bool
is_core core = true
is_core whole = false
is_core leg = false
is_core remainder = false

abbrev pub is_leg : Part → Bool
is_leg leg = true
is_leg whole = false
is_leg core = false
is_leg remainder = false

-- leg or remainder: held for the settlement of what it issued
abbrev pub is_settling : Part → Bool
is_settling leg = true
is_settling remainder = true
is_settling whole = false
is_settling core = false

-- a crossing: its id, the shard it starts from, its kind (1 owed, 0 other) and its destinations
pub record Edge : Type 0 where
  pub id : ℕ
  pub from : ℕ
  pub kind : ℕ
  pub to : List ℕ

-- an entry's words as taken in
pub record Terms : Type 0 where
  pub transaction : ℕ
  pub at : ℕ
  pub end : ℕ
  pub anchor : ℕ
  pub charge : ℕ
  pub routes : List ℕ
  pub core_shards : List ℕ
  pub edges : List Edge

-- a cell read absent on a shard
pub record Absence : Type 0 where
  pub shard : ℕ
  pub key : ℕ

-- certificate: 0 none, 1 by abandonment, 2 by execution; departed_by: the shard whose record names the entry, 0 for none;
-- marks: the issued records that were settled or returned, rising; returned: whether a mark was a return
pub record Entry : Type 0 where
  pub terms : Terms
  pub part : Part
  pub certificate : ℕ
  pub departed_by : ℕ
  pub absences : List Absence
  pub marks : List ℕ
  pub returned : Bool

-- stamp: until when what the shard left is readable, none while it is unstamped
pub record Departure : Type 0 where
  pub shard : ℕ
  pub cut : ℕ
  pub stamp : Option ℕ

-- how many entries the records of a shard rebuilt
pub record Count : Type 0 where
  pub shard : ℕ
  pub rebuilt : ℕ

-- validity, core_span and leg_span are V, C and L; entries by rising transaction, departures and counts by rising shard
pub record Plain : Type 0 where
  pub local : ℕ
  pub validity : ℕ
  pub core_span : ℕ
  pub leg_span : ℕ
  pub entries : List Entry
  pub departures : List Departure
  pub counts : List Count

-- Each kind of list has its key, by which it rises.
abbrev pub transaction_of : Entry → ℕ
transaction_of e = e.terms.transaction

-- by shard, then key
abbrev pub absence_key : Absence → ℕ
absence_key a = a.shard * 2 ^ 64 + a.key

abbrev pub shard_of : Departure → ℕ
shard_of d = d.shard

abbrev pub counted_shard : Count → ℕ
counted_shard c = c.shard

-- the ledger that a making hands back
abbrev pub empty : ℕ → ℕ → ℕ → ℕ → Plain
empty local v c l =
    record { local = local; validity = v; core_span = c; leg_span = l; entries = []; departures = []; counts = [] }

abbrev pub with_entries : List Entry → Plain → Plain
with_entries es p =
    record {
      local = p.local;
      validity = p.validity;
      core_span = p.core_span;
      leg_span = p.leg_span;
      entries = es;
      departures = p.departures;
      counts = p.counts;
    }

abbrev pub with_departures : List Departure → Plain → Plain
with_departures ds p =
    record {
      local = p.local;
      validity = p.validity;
      core_span = p.core_span;
      leg_span = p.leg_span;
      entries = p.entries;
      departures = ds;
      counts = p.counts;
    }

abbrev pub with_counts : List Count → Plain → Plain
with_counts cs p =
    record {
      local = p.local;
      validity = p.validity;
      core_span = p.core_span;
      leg_span = p.leg_span;
      entries = p.entries;
      departures = p.departures;
      counts = cs;
    }

-- a transaction is owed while it has an entry
abbrev pub owed : ℕ → Plain → Bool
owed t p = has transaction_of t p.entries

abbrev pub entry_of : ℕ → Plain → Option Entry
entry_of t p = get transaction_of t p.entries

-- the edges that start from local, in edge order; the keys of the records issued by them
abbrev pub edges_from : ℕ → Terms → List Edge
edges_from local t = keep (λ g. eqb g.from local) t.edges

abbrev pub issued : ℕ → Terms → List ℕ
issued local t = map (λ (g : Edge). record_key g.id) (edges_from local t)

abbrev pub issues : ℕ → ℕ → Terms → Bool
issues local r t = has self r (issued local t)

-- an owed edge from local
abbrev pub owes : ℕ → Terms → Bool
owes local t = any (λ g. eqb g.kind 1) (edges_from local t)

-- a record names the entry
abbrev pub is_named : Entry → Bool
is_named e = ltb 0 e.departed_by

-- covered: a record names it or it has an absence
abbrev pub is_covered : Entry → Bool
is_covered e = is_named e || filled e.absences

-- a remote route is one that local does not own
abbrev pub is_remote : ℕ → ℕ → Bool
is_remote local route = not (owns local route)

abbrev pub remote : ℕ → Terms → List ℕ
remote local t = keep (is_remote local) t.routes

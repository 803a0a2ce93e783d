-- What an entry's fields mean, as an entry of the plain ledger, and that they fit their arrays.
use Rattle.std.specs.Prelude.{ℕ, ◌≤◌, ◌≡◌, Bool, false, List, map, ltb, length, take}
use Rattle.lists.specs.Lists.{Every, Ascending, any, has, include, self, zip_by, cut}
use Rattle.rules.specs.Plain as plain
use Rattle.rules.specs.Words.{edge, with}
use Rattle.types.specs.Transactions.{number_of}
use Rattle.types.specs.declared.Shard.{Shard}
use Rattle.entry.specs.declared.Part.{Part}
use Rattle.entry.specs.declared.Part.TheVariants.{Whole, Leg, Core, Remainder}
use Rattle.entry.specs.declared.Certificate.{Certificate}
use Rattle.entry.specs.declared.Certificate.TheVariants.{Missing, ByAbandonment, ByExecution}
use Rattle.entry.specs.declared.Absence.{Absence}
use Rattle.entry.specs.declared.Entry.{Entry}

abbrev pub plain_part : Part → plain.Part
plain_part Whole = plain.whole
plain_part Leg = plain.leg
plain_part Core = plain.core
plain_part Remainder = plain.remainder

-- the destinations lie joined, one edge's after the other's
abbrev pub edges_of : Entry → List plain.Edge
edges_of e =
    let n : ℕ = e.edges_len in
    zip_by with (zip_by with (zip_by edge (take n e.ids) (take n e.froms)) (take n e.kinds)) (cut (take n e.sizes) e.to)

abbrev pub terms_of : Entry → plain.Terms
terms_of e =
    record {
      transaction = number_of e.tx;
      at = e.at.0;
      end = e.end.0;
      anchor = e.anchor.0;
      charge = e.charge;
      routes = take e.routes_len e.routes;
      core_shards = take e.core_len e.core;
      edges = edges_of e;
    }

abbrev pub absence : ℕ → ℕ → plain.Absence
absence shard key = record { shard = shard; key = key }

abbrev pub plain_absence : Absence → plain.Absence
plain_absence a = absence a.shard.0 a.key

abbrev pub absences_of : Entry → List plain.Absence
absences_of e = map plain_absence (take e.absences_len e.absences)

abbrev pub certificate_number : Certificate → ℕ
certificate_number Missing = 0
certificate_number ByAbandonment = 1
certificate_number ByExecution = 2

unfoldable pub plain_entry : Entry → plain.Entry
plain_entry e =
    record {
      terms = terms_of e;
      part = plain_part e.part;
      certificate = certificate_number e.certified;
      departed_by = e.departed_by.0;
      absences = absences_of e;
      marks = take e.marks_len e.marks;
      returned = e.returned;
    }

-- lengths within their arrays: the type says so of each entry
pub record Fits (e : Entry) : Type 0 where
  pub routes_len : e.routes_len ≤ 8
  pub core_len : e.core_len ≤ 8
  pub edges_len : e.edges_len ≤ 8
  pub absences_len : e.absences_len ≤ 8
  pub marks_len : e.marks_len ≤ 8
  pub few : Every (λ n. n ≤ 4) (take e.edges_len e.sizes)
  pub routes : length e.routes ≡ 8
  pub core : length e.core ≡ 8
  pub ids : length e.ids ≡ 8
  pub froms : length e.froms ≡ 8
  pub kinds : length e.kinds ≡ 8
  pub sizes : length e.sizes ≡ 8
  pub to : length e.to ≡ 32
  pub absences : length e.absences ≡ 8
  pub marks : length e.marks ≡ 8

-- e holds no core, edges, absences and marks
pub record Blank (e : Entry) : Type 0 where
  pub core_len : e.core_len ≡ 0
  pub edges_len : e.edges_len ≡ 0
  pub absences_len : e.absences_len ≡ 0
  pub marks_len : e.marks_len ≡ 0
  pub returned : e.returned ≡ false

-- e means this entry of the plain ledger
pub record Means (p : plain.Entry) (e : Entry) : Type 0 where
  pub plain : plain_entry e ≡ p

-- lower by shard and then key
abbrev pub below : plain.Absence → plain.Absence → Bool
below a b = ltb (plain.absence_key b) (plain.absence_key a)

-- By whatever test of from-shard, id and kind the answers are given, r says whether some edge passes: Says is what is said of an edge that is
-- asked about.
abbrev pub FindsEdge : (Shard → ℕ → ℕ → Bool → Type 0) → Entry → Bool → Type 0
FindsEdge Says e r =
    (q : ℕ → ℕ → ℕ → Bool) → ((from : Shard) (id kind : ℕ) (b : Bool) → Says from id kind b → b ≡ q from.0 id kind) →
    r ≡ any (λ (g : plain.Edge). q g.from g.id g.kind) (edges_of e)

abbrev pub is_marked : Entry → ℕ → Bool
is_marked e r = has self r (take e.marks_len e.marks)

-- with the absence put in, the absences still fit
pub record RoomForAbsence (a : plain.Absence) (e : Entry) : Type 0 where
  pub rising : Ascending plain.absence_key (absences_of e)
  pub room : length (include plain.absence_key a (absences_of e)) ≤ 8

-- with the record marked, the marks still fit
pub record RoomForMark (r : ℕ) (e : Entry) : Type 0 where
  pub rising : Ascending self (take e.marks_len e.marks)
  pub room : length (include self r (take e.marks_len e.marks)) ≤ 8

-- Paper, 'Entries, parts, index': how an entry comes to be and what each kind of call changes of it.
use Rattle.std.specs.Prelude.{ℕ, Bool, false, cond, not, ◌&&◌, ◌||◌, List, [], eqb, ltb}
use Rattle.std.proofs.Math.Option.{Option, none, some}
use Rattle.lists.specs.Lists.{all, filled, has, get, include, without, change, through, tally, self}
use Rattle.rules.specs.Plain.{Part, whole, leg, core, remainder, Terms, Absence, Entry, is_core, is_settling, transaction_of, absence_key, issued, issues, owes}
use Rattle.rules.specs.Words.{decomposed, core_in, admission_terms, Line}

abbrev pub entry : Part → Terms → ℕ → ℕ → Entry
entry part terms certificate departed_by =
    record {
      terms = terms;
      part = part;
      certificate = certificate;
      departed_by = departed_by;
      absences = [];
      marks = [];
      returned = false;
    }

-- of a whole entry no core and no edges are held
abbrev pub whole_terms : Terms → Terms
whole_terms t =
    record {
      transaction = t.transaction;
      at = t.at;
      end = t.end;
      anchor = t.anchor;
      charge = t.charge;
      routes = t.routes;
      core_shards = [];
      edges = [];
    }

-- Not decomposed gives whole. Decomposed gives core if local is a core shard, else leg. Certificate 0.
unfoldable pub admitted : ℕ → List ℕ → Entry
unfolding admission_terms
admitted local ws =
    cond (eqb (decomposed ws) 0)
    (entry whole (whole_terms (admission_terms ws)) 0 0)
    (entry (cond (has self local (core_in ws)) core leg) (admission_terms ws) 0 0)

-- an entry that an abandonment record brings back: whole, code 2, departed by the shard
abbrev pub rebuilt : ℕ → Terms → Entry
rebuilt shard t = entry whole t 2 shard

-- an entry with another part, its marks none
abbrev pub with_part : Part → Entry → Entry
with_part part e =
    record {
      terms = e.terms;
      part = part;
      certificate = e.certificate;
      departed_by = e.departed_by;
      absences = e.absences;
      marks = [];
      returned = false;
    }

abbrev pub with_certificate : ℕ → Entry → Entry
with_certificate code e =
    record {
      terms = e.terms;
      part = e.part;
      certificate = code;
      departed_by = e.departed_by;
      absences = e.absences;
      marks = e.marks;
      returned = e.returned;
    }

abbrev pub with_departed_by : ℕ → Entry → Entry
with_departed_by shard e =
    record {
      terms = e.terms;
      part = e.part;
      certificate = e.certificate;
      departed_by = shard;
      absences = e.absences;
      marks = e.marks;
      returned = e.returned;
    }

abbrev pub with_absences : List Absence → Entry → Entry
with_absences l e =
    record {
      terms = e.terms;
      part = e.part;
      certificate = e.certificate;
      departed_by = e.departed_by;
      absences = l;
      marks = e.marks;
      returned = e.returned;
    }

abbrev pub with_marks : List ℕ → Bool → Entry → Entry
with_marks l b e =
    record {
      terms = e.terms;
      part = e.part;
      certificate = e.certificate;
      departed_by = e.departed_by;
      absences = e.absences;
      marks = l;
      returned = b;
    }

-- Absence: the pair of shard and key stands on the entry; it is put in
abbrev pub is_read : Absence → Entry → Bool
is_read a e = has absence_key (absence_key a) e.absences

abbrev pub read_absent : Absence → Entry → Entry
read_absent a e = with_absences (include absence_key a e.absences) e

-- Certify keeps the greater code.
abbrev pub certified : ℕ → Entry → Entry
certified code e = with_certificate (cond (ltb e.certificate code) code e.certificate) e

-- Settled and returned mark the record; they act only where the entry issued it and the part is leg or remainder.
abbrev pub marked : ℕ → ℕ → Bool → Entry → Entry
marked local r is_return e =
    cond (is_settling e.part && issues local r e.terms)
    (with_marks (include self r e.marks) (e.returned || is_return) e)
    e

-- Closes: leg and remainder entries with at least one issued record, all marked
abbrev pub is_closed : ℕ → Entry → Bool
is_closed local e =
    is_settling e.part
    && (filled (issued local e.terms) && all (λ r. has self r e.marks) (issued local e.terms))

-- Aborted (2) if any mark was a return, else Accept (1)
abbrev pub closing_decision : Entry → ℕ
closing_decision e = cond e.returned 2 1

-- Abandonment record, a group: an owed entry takes the new shard, over any older one; others are rebuilt
abbrev pub with_group : ℕ → Terms → List Entry → List Entry
with_group shard g es =
    cond (has transaction_of g.transaction es)
    (change transaction_of g.transaction (with_departed_by shard) es)
    (include transaction_of (rebuilt shard g) es)

-- how many it rebuilds
abbrev pub rebuilt_of : Terms → List Entry → ℕ
rebuilt_of g es = cond (has transaction_of g.transaction es) 0 1

-- group by group; and how many are rebuilt
abbrev pub with_groups : ℕ → List Terms → List Entry → List Entry
with_groups shard gs es = through (with_group shard) gs es

abbrev pub rebuilt_by : ℕ → List Terms → List Entry → ℕ
rebuilt_by shard gs es = tally (with_group shard) rebuilt_of gs es

-- Finalization, a line: what is done with the entry that it names
pub data Ruling : Type 0 where
  skip resolve release : Ruling

-- a leg or remainder not among the deciding is skipped; Accept (1) on a core entry with an owed edge from local turns it to
-- remainder; all else is released
abbrev pub ruling_on : ℕ → List ℕ → Line → Entry → Ruling
ruling_on local deciding line e =
    cond (is_settling e.part && not (has self line.transaction deciding)) skip
    (cond (eqb line.decision 1 && (is_core e.part && owes local e.terms)) resolve
    release)

-- unknown is skipped
abbrev pub ruling : ℕ → List ℕ → Line → Option Entry → Ruling
ruling local deciding line none = skip
ruling local deciding line (some e) = ruling_on local deciding line e

abbrev pub ruled : Ruling → ℕ → List Entry → List Entry
ruled skip t es = es
ruled resolve t es = change transaction_of t (with_part remainder) es
ruled release t es = without transaction_of t es

abbrev pub is_release : Ruling → ℕ
is_release skip = 0
is_release resolve = 0
is_release release = 1

-- the ruling of a line on the entry that it names, what it makes of the entries, and how many it releases
abbrev pub ruling_in : ℕ → List ℕ → Line → List Entry → Ruling
ruling_in local deciding l es = ruling local deciding l (get transaction_of l.transaction es)

abbrev pub with_line : ℕ → List ℕ → Line → List Entry → List Entry
with_line local deciding l es = ruled (ruling_in local deciding l es) l.transaction es

abbrev pub released_of : ℕ → List ℕ → Line → List Entry → ℕ
released_of local deciding l es = is_release (ruling_in local deciding l es)

-- line by line; and how many are released
abbrev pub with_lines : ℕ → List ℕ → List Line → List Entry → List Entry
with_lines local deciding ls es = through (with_line local deciding) ls es

abbrev pub released_by : ℕ → List ℕ → List Line → List Entry → ℕ
released_by local deciding ls es = tally (with_line local deciding) (released_of local deciding) ls es

-- Paper, 'Departures, then prune': the five rules, one prune, and prunes at a list of clocks.
use Rattle.std.specs.Prelude.{ℕ, ◌+◌, ◌≤◌, ◌≡◌, Bool, true, false, cond, not, ◌&&◌, ◌||◌, List, [], ◌∷◌, ◌++◌, map, ltb, leb, eqb, length}
use Rattle.std.proofs.Math.Option.{Option, none, some}
use Rattle.lists.specs.Lists.{keep, any, filled}
use Rattle.rules.specs.Plain.{Entry, Departure, Plain, is_core, is_settling, is_named, remote, transaction_of, with_entries, with_departures}
use Rattle.rules.specs.Words.{transaction_words}
use Rattle.rules.specs.Over.{over, departure_over}

-- the first stamp holds: readable unstamped, or while now ≤ until
abbrev pub readable_until : ℕ → Option ℕ → Bool
readable_until now none = true
readable_until now (some until) = leb now until

abbrev pub readable : ℕ → Departure → Bool
readable now d = readable_until now d.stamp

-- a departure of the shard that names the entry
abbrev pub is_of_departed_by : Entry → Departure → Bool
is_of_departed_by e d = is_named e && eqb e.departed_by d.shard

-- no departure over the route, or a readable one
abbrev pub answerable : ℕ → Option Departure → Bool
answerable now none = true
answerable now (some d) = readable now d

-- the ends of the windows by which rules 2 and 5 judge: [end, end + L) counts from the end of the validity, [at, at + V) from the deadline
abbrev pub leg_horizon : Plain → Entry → ℕ
leg_horizon p e = e.terms.end + p.leg_span

abbrev pub validity_horizon : Plain → Entry → ℕ
validity_horizon p e = e.terms.at + p.validity

-- the five rules, in the paper's order
pub data Rule : Type 0 where
  awaiting settling recorded answering expiring : Rule

-- the first rule that fits
unfoldable pub rule_of : ℕ → Entry → Rule
rule_of local e =
    cond (is_core e.part && ltb e.certificate 2) awaiting
    (cond (is_settling e.part || filled e.absences) settling
    (cond (is_named e) recorded
    (cond (ltb 0 e.certificate && filled (remote local e.terms)) answering
    expiring)))

-- whether an entry stands by a rule
abbrev pub stands_by : Rule → Plain → ℕ → Entry → Bool
stands_by awaiting p now e = true
stands_by settling p now e = ltb now (leg_horizon p e)
stands_by recorded p now e = any (readable now) (keep (is_of_departed_by e) p.departures)
stands_by answering p now e = any (λ r. answerable now (departure_over p.departures e r)) (remote p.local e.terms)
stands_by expiring p now e = ltb now (validity_horizon p e)

abbrev pub stands : Plain → ℕ → Entry → Bool
stands p now e = stands_by (rule_of p.local e) p now e

-- whether a fall by a rule is reported, and what covered then says
abbrev pub is_reported : Rule → Bool
is_reported awaiting = false
is_reported settling = false
is_reported recorded = true
is_reported answering = true
is_reported expiring = false

abbrev pub covered_by : Rule → ℕ
covered_by awaiting = 0
covered_by settling = 0
covered_by recorded = 1
covered_by answering = 0
covered_by expiring = 0

pub record Report : Type 0 where
  pub transaction : ℕ
  pub covered : ℕ
  pub charge : ℕ

abbrev pub report_of : ℕ → Entry → Report
report_of local e =
    record { transaction = transaction_of e; covered = covered_by (rule_of local e); charge = e.terms.charge }

abbrev pub report_words : Report → List ℕ
report_words r = transaction_words r.transaction ++ (r.covered ∷ r.charge ∷ [])

-- One prune: the entries that stand, those that fall, the reports of these, the departures that remain.
unfoldable pub survivors : ℕ → Plain → List Entry
survivors now p = keep (stands p now) p.entries

unfoldable pub fallen : ℕ → Plain → List Entry
fallen now p = keep (λ e. not (stands p now e)) p.entries

unfoldable pub reports : ℕ → Plain → List Report
unfolding fallen
reports now p = map (report_of p.local) (keep (λ e. is_reported (rule_of p.local e)) (fallen now p))

-- the entry is named by the departure's shard, or the departure is over a remote route of it
abbrev pub holds : ℕ → Departure → Entry → Bool
holds local d e = is_of_departed_by e d || any (λ r. over e r d) (remote local e.terms)

-- a departure remains exactly if a surviving entry holds it
abbrev pub remains : ℕ → List Entry → Departure → Bool
remains local es d = any (holds local d) es

unfoldable pub pruned : ℕ → Plain → Plain
unfolding survivors
pruned now p =
    with_departures (keep (remains p.local (survivors now p)) p.departures) (with_entries (survivors now p) p)

-- Prunes at each clock in turn: the ledger left, the reports one after the other, how many fell.
abbrev pub prunes : List ℕ → Plain → Plain
prunes [] p = p
prunes (t ∷ ts) p = prunes ts (pruned t p)

abbrev pub all_reports : List ℕ → Plain → List Report
all_reports [] p = []
all_reports (t ∷ ts) p = reports t p ++ all_reports ts (pruned t p)

abbrev pub all_fallen : List ℕ → Plain → ℕ
all_fallen [] p = 0
all_fallen (t ∷ ts) p = length (fallen t p) + all_fallen ts (pruned t p)

-- reports in transaction order, by insertion
abbrev pub insert : Report → List Report → List Report
insert r [] = r ∷ []
insert r (s ∷ l) = cond (leb r.transaction s.transaction) (r ∷ s ∷ l) (s ∷ insert r l)

abbrev pub insert_all : List Report → List Report → List Report
insert_all [] l = l
insert_all (r ∷ rs) l = insert r (insert_all rs l)

abbrev pub in_order : List Report → List Report
in_order l = insert_all l []

-- clocks that never fall, and the last of them
abbrev pub Steady : ℕ → List ℕ → Type 0
Steady t [] = Unit {0}
Steady t (u ∷ us) = (t ≤ u) × Steady u us

abbrev pub last_of : ℕ → List ℕ → ℕ
last_of t [] = t
last_of t (u ∷ us) = last_of u us

-- What prunes at t and then at each of ts say of one prune at the last clock: the same ledger, the same reports in
-- transaction order, as many fallen and as many reports.
pub record AsOnce (t : ℕ) (ts : List ℕ) (p : Plain) : Type 0 where
  pub left : prunes (t ∷ ts) p ≡ pruned (last_of t ts) p
  pub told : in_order (all_reports (t ∷ ts) p) ≡ reports (last_of t ts) p
  pub gone : all_fallen (t ∷ ts) p ≡ length (fallen (last_of t ts) p)
  pub written : length (all_reports (t ∷ ts) p) ≡ length (reports (last_of t ts) p)

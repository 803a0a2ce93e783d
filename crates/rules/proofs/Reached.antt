-- Every good ledger is reached by calls, and every ledger that calls reach is good: what `Good` asks is exact. The counts
-- first, then departures, then entries, each list from its end, so that what comes goes to the front.
-- Assumes nothing.
use Prim.Native.Nat.{ℕ, zero, suc, ◌+◌, ◌-◌, ◌≤◌, ◌<◌, min}
use mathlib.Core.Path.{◌≡◌, refl, sym, ap, ◌∙◌, subst}
use mathlib.Core.Bool.{Bool, true, false, cond, not, ◌||◌, false≢true}
use mathlib.Core.List.{List, [], ◌∷◌, ◌++◌}
use mathlib.Core.Option.{Option, none, some}
use native.Mathlib.Omega.{arith}
use borrow.Author.Tests.{lt-ltb, le-ltb, lt-leb, eq-eqb}
use lib.Dec.{eqb, ltb, leb}
use lib.ListN.{length}
use Rattle.lists.specs.Lists.{Every, Above, Ascending, has, get, self}
use Rattle.lists.proofs.Tests.{and_false}
use Rattle.lists.proofs.Keep.{every_append}
use Rattle.lists.proofs.Order.{above_lacks, include-below}
use Rattle.lists.proofs.Change.{change_above, change-front}
use Rattle.rules.specs.Numbers.{is_word, is_time, is_shard, is_span, max_entries, max_departures, max_absences, max_count, max_counts}
use Rattle.rules.specs.Plain.{Part, whole, leg, core, remainder, Edge, Terms, Absence, Entry, Departure, Plain, transaction_of, absence_key, shard_of, empty, with_entries, with_departures, with_counts, issues, owes, is_settling, Count, counted_shard}
use Rattle.rules.specs.Calls.{Call, admission, absence, certify, abandonment, settled, returned, finalization, forget, terminal, step, run, making, stamped, terminal_refusal, after_terminal, certify_refusal, after_certify, absence_refusal, after_absence, abandonment_refusal, after_abandonment, after_mark, after_finalization, admission_refusal, after_admission, after_forget, opened, raised, counted, no_count_for}
use Rattle.rules.specs.Entries.{entry, admitted, certified, is_read, read_absent, with_departed_by, with_part, marked}
use Rattle.rules.specs.Words.{admission_words, record_formed, record_timed, record_groups, finalization_formed, finalization_lines, deciding}
use Rattle.rules.specs.Outcome.{Outcome, unless}
use Rattle.rules.specs.Good.{GoodTerms, GoodAbsence, Marked, GoodPart, is_departed_by, GoodEntry, GoodStamp, GoodDeparture, Good, OfWords, GoodCount}
use Rattle.rules.specs.Reached.{Leads, Reached}
use Rattle.rules.proofs.Kept.{run-good, making-good}
use Rattle.rules.proofs.Written.{shard-word, routes-read, terms-read, core-read, words_formed, words-timed, words_placed, words-words}

-- Lists of calls.
run-append : (a b : List Call) (p : Plain) → run (a ++ b) p ≡ run b (run a p)
run-append [] b p = refl
run-append (c ∷ a) b p = run-append a b (step c p).ledger

stay : (p : Plain) → Leads p p
stay p = record { calls = []; words = tt; leads = refl }

by : {p q : Plain} (c : Call) → OfWords c → (step c p).ledger ≡ q → Leads p q
by c w e = record { calls = c ∷ []; words = (w, tt); leads = e }

and_then : {p q r : Plain} → Leads p q → Leads q r → Leads p r
and_then {p} {q} {r} f g =
    record {
      calls = f.calls ++ g.calls;
      words = every_append OfWords f.calls g.calls f.words g.words;
      leads = run-append f.calls g.calls p ∙ ap (run g.calls) f.leads ∙ g.leads;
    }

-- a call that is not refused
accepted : (n : ℕ) (p : Plain) (o : Outcome) → n ≡ 0 → (unless n p o).ledger ≡ o.ledger
accepted n p o e = rw e

-- Departures.
module _ (p : Plain) (ds : List Departure) (shard cut : ℕ) (low : Above shard_of shard ds) (few : length ds < max_departures)
    (is_place : is_shard shard ≡ true) (is_moment : is_time cut ≡ true) where
  new : (is_stamped until : ℕ) → ltb 1 is_stamped ≡ false → (eqb is_stamped 0 || is_time until) ≡ true → terminal_refusal shard cut is_stamped until (with_departures ds p) ≡ 0
  new is_stamped until a b =
      rw (a, is_moment, b, is_place, above_lacks shard_of shard shard ds (omega arith) low, lt-leb max_departures (length ds) few)

  departs : (s : Option ℕ) → GoodStamp s → Leads (with_departures ds p) (with_departures (record { shard = shard; cut = cut; stamp = s } ∷ ds) p)
  unfolding after_terminal
  departs none g =
      by (terminal shard cut 0 0) tt
      (accepted (terminal_refusal shard cut 0 0 (with_departures ds p)) _ _ (new 0 0 refl refl)
      ∙ ap (λ m. with_departures m p) (include-below shard_of (record { shard = shard; cut = cut; stamp = none }) ds low))
  departs (some until) g =
      let d : Departure = record { shard = shard; cut = cut; stamp = none } in
      by (terminal shard cut 1 until) tt
      (accepted (terminal_refusal shard cut 1 until (with_departures ds p)) _ _ (new 1 until refl g)
      ∙ ap (λ m. with_departures m p) (rw (include-below shard_of d ds low) (change-front shard_of (stamped until) d ds low)))

all_depart : (p : Plain) (ds : List Departure) → length ds ≤ max_departures → Every GoodDeparture ds → Ascending shard_of ds → Leads (with_departures [] p) (with_departures ds p)
all_depart p [] n v a = stay (with_departures [] p)
all_depart p (d ∷ ds) n v a =
    and_then (all_depart p ds (omega arith) v.1 a.1)
    (departs p ds d.shard d.cut a.0 (omega arith) v.0.shard v.0.cut d.stamp v.0.stamp)

-- Entries. The entry at the front changes, those behind it stay.
module _ (p : Plain) (t : Terms) (es : List Entry) (low : Above transaction_of t.transaction es) where
  abbrev front : Entry → Plain
  front e = with_entries (e ∷ es) p

  abbrev tx : ℕ
  tx = t.transaction

  -- an entry with these terms
  abbrev made : Part → ℕ → ℕ → List Absence → List ℕ → Bool → Entry
  made part code departed_by cs ms is_returned =
      record {
        terms = t;
        part = part;
        certificate = code;
        departed_by = departed_by;
        absences = cs;
        marks = ms;
        returned = is_returned;
      }

  found : (part : Part) (code departed_by : ℕ) (cs : List Absence) (ms : List ℕ) (b : Bool) → get transaction_of tx (made part code departed_by cs ms b ∷ es) ≡ some (made part code departed_by cs ms b)
  found part code departed_by cs ms b = rw (eq-eqb tx tx refl)

  -- certify
  certifies : (part : Part) (code : ℕ) → code ≤ 2 → Leads (front (made part 0 0 [] [] false)) (front (made part code 0 [] [] false))
  unfolding after_certify
  certifies part code h =
      by (certify tx code) tt
      (accepted (certify_refusal code) _ _ (rw (le-ltb 2 code h))
      ∙ ap (λ m. with_entries m p) (change-front transaction_of (certified code) (made part 0 0 [] [] false) es low ∙ ap (λ n. made part n 0 [] [] false ∷ es) (greater code)))
    where
      greater : (code : ℕ) → cond (ltb 0 code) code 0 ≡ code
      greater zero = refl
      greater (suc n) = rw (lt-ltb 0 (suc n) (omega arith))

  -- absences, from the last
  module _ (part : Part) (code departed_by : ℕ) where
    reads : (a : Absence) (cs : List Absence) → GoodAbsence a → Above absence_key (absence_key a) cs → length cs < max_absences →
        Leads (front (made part code departed_by cs [] false)) (front (made part code departed_by (a ∷ cs) [] false))
    unfolding after_absence
    reads a cs g b n =
        by (absence tx a.shard a.key) g.key
        (accepted (absence_refusal tx a (front (made part code departed_by cs [] false))) _ _
        (rw (g.shard, found part code departed_by cs [] false, lt-leb max_absences (length cs) n, and_false (not (is_read a (made part code departed_by cs [] false)))))
        ∙ ap (λ m. with_entries m p) (change-front transaction_of (read_absent a) (made part code departed_by cs [] false) es low ∙ ap (λ m. made part code departed_by m [] false ∷ es) (include-below absence_key a cs b)))

    all_read : (cs : List Absence) → Every GoodAbsence cs → Ascending absence_key cs → length cs ≤ max_absences →
        Leads (front (made part code departed_by [] [] false)) (front (made part code departed_by cs [] false))
    all_read [] v a n = stay _
    all_read (x ∷ cs) v a n = and_then (all_read cs v.1 a.1 (omega arith)) (reads x cs v.0 a.0 (omega arith))

  -- a record names it
  module _ (part : Part) (code : ℕ) where
    abbrev groups : ℕ → List ℕ
    groups shard = 1 ∷ shard ∷ 0 ∷ tx ∷ 0 ∷ 0 ∷ 0 ∷ 0 ∷ []

    names : (is_good : is_word tx ≡ true) (departed_by : ℕ) → is_departed_by departed_by ≡ true → Leads (front (made part code 0 [] [] false)) (front (made part code departed_by [] [] false))
    unfolding after_abandonment record_formed record_timed record_groups
    names is_good zero g = stay _
    names is_good (suc n) g =
        by (abandonment (groups (suc n))) (refl, (shard-word (suc n) g, (refl, (is_good, (refl, (refl, (refl, (refl, tt))))))))
        (accepted (abandonment_refusal (groups (suc n)) (front (made part code 0 [] [] false))) _ _
        (rw (g, eq-eqb tx tx refl, le-ltb (max_entries - suc (length es)) 0 (omega arith)))
        ∙ rw (eq-eqb tx tx refl) (ap (λ m. with_entries (made part code (suc n) [] [] false ∷ m) p) (change_above transaction_of tx (with_departed_by (suc n)) es low)))

  -- records are marked, from the last
  module _ (part : Part) (code departed_by : ℕ) (cs : List Absence) (is_held : is_settling part ≡ true) where
    marks : (r : ℕ) (ms : List ℕ) (is_return : Bool) → issues p.local r t ≡ true → Above self r ms → (c : Call) → OfWords c →
        step c (front (made part code departed_by cs ms false)) ≡ after_mark r tx is_return (front (made part code departed_by cs ms false)) →
        Leads (front (made part code departed_by cs ms false)) (front (made part code departed_by cs (r ∷ ms) is_return))
    unfolding after_mark
    marks r ms is_return i b c w e =
        by c w
        (ap (λ (o : Outcome). o.ledger) e
        ∙ ap (λ m. with_entries m p)
        (change-front transaction_of (marked p.local r is_return) (made part code departed_by cs ms false) es low ∙ rw (is_held, i, include-below self r ms b)))

    all_settled : (ms : List ℕ) → Every (λ r. issues p.local r t ≡ true) ms → Ascending self ms →
        Leads (front (made part code departed_by cs [] false)) (front (made part code departed_by cs ms false))
    all_settled [] v a = stay _
    all_settled (r ∷ ms) v a = and_then (all_settled ms v.1 a.1) (marks r ms false v.0 a.0 (settled r tx) tt refl)

    all-marked : (ms : List ℕ) (is_returned : Bool) → Marked p.local t ms is_returned →
        Leads (front (made part code departed_by cs [] false)) (front (made part code departed_by cs ms is_returned))
    all-marked ms false m = all_settled ms m.among m.rising
    all-marked [] true m = absurd (false≢true (m.returned refl))
    all-marked (r ∷ ms) true m = and_then (all_settled ms m.among.1 m.rising.1) (marks r ms true m.among.0 m.rising.0 (returned r tx) tt refl)

  -- a core that owes is turned to remainder
  turns : owes p.local t ≡ true → Leads (front (made core 0 0 [] [] false)) (front (made remainder 0 0 [] [] false))
  unfolding after_finalization finalization_formed finalization_lines deciding
  turns o =
      by (finalization (1 ∷ 1 ∷ tx ∷ 1 ∷ tx ∷ [])) tt
      (rw (eq-eqb tx tx refl, o) (ap (λ m. with_entries m p) (change-front transaction_of (with_part remainder) (made core 0 0 [] [] false) es low)))

  -- it comes by an admission
  module _ (g : GoodTerms t) (few : length es < max_entries) where
    comes : (d : ℕ) → leb d 1 ≡ true → (part : Part) → admitted p.local (admission_words d t) ≡ made part 0 0 [] [] false → Leads (with_entries es p) (front (made part 0 0 [] [] false))
    unfolding after_admission
    comes d b part e =
        by (admission (admission_words d t)) (words-words d t g b)
        (accepted (admission_refusal (admission_words d t) (with_entries es p)) _ _
        (rw (words_formed d t g b, words-timed d t g b, words_placed d t g b, terms-read d t, above_lacks transaction_of tx tx es (omega arith) low, le-ltb (max_entries - length es) 1 (omega arith)))
        ∙ ap (λ m. with_entries m p) (rw e (include-below transaction_of (made part 0 0 [] [] false) es low)))

    abbrev bare : List ℕ → List Edge → Terms
    bare inside crossings =
        record {
          transaction = t.transaction;
          at = t.at;
          end = t.end;
          anchor = t.anchor;
          charge = t.charge;
          routes = t.routes;
          core_shards = inside;
          edges = crossings;
        }

    comes_whole : t.core_shards ≡ [] → t.edges ≡ [] → Leads (with_entries es p) (front (made whole 0 0 [] [] false))
    unfolding admitted
    comes_whole c e =
        comes 0 refl whole
        (rw (routes-read 0 t) (ap (λ (u : Terms). entry whole u 0 0) (ap (λ m. bare m []) (sym c) ∙ ap (bare t.core_shards) (sym e))))

    comes_leg : has self p.local t.core_shards ≡ false → Leads (with_entries es p) (front (made leg 0 0 [] [] false))
    unfolding admitted
    comes_leg h = comes 1 refl leg (rw (terms-read 1 t, core-read 1 t, h))

    comes_core : has self p.local t.core_shards ≡ true → Leads (with_entries es p) (front (made core 0 0 [] [] false))
    unfolding admitted
    comes_core h = comes 1 refl core (rw (terms-read 1 t, core-read 1 t, h))

    -- and is changed to what it is
    module _ (code departed_by : ℕ) (cs : List Absence) (small : code ≤ 2) (is_named : is_departed_by departed_by ≡ true)
        (v : Every GoodAbsence cs) (a : Ascending absence_key cs) (n : length cs ≤ max_absences) where
      dressed : (part : Part) → Leads (front (made part 0 0 [] [] false)) (front (made part code departed_by cs [] false))
      dressed part = and_then (certifies part code small) (and_then (names part code g.transaction departed_by is_named) (all_read part code departed_by cs v a n))

      enters : (part : Part) (ms : List ℕ) (is_returned : Bool) → GoodPart part p.local t ms is_returned → Leads (with_entries es p) (front (made part code departed_by cs ms is_returned))
      enters whole ms b q = rw (q.2.none, q.2.returned) (and_then (comes_whole q.0 q.1) (dressed whole))
      enters leg ms b q = and_then (comes_leg q.0) (and_then (dressed leg) (all-marked leg code departed_by cs refl ms b q.1))
      enters core ms b q = rw (q.1.none, q.1.returned) (and_then (comes_core q.0) (dressed core))
      enters remainder ms b q =
          and_then (comes_core q.0) (and_then (turns q.1) (and_then (dressed remainder) (all-marked remainder code departed_by cs refl ms b q.2)))

all_enter : (p : Plain) → (es : List Entry) → length es ≤ max_entries → Every (GoodEntry p.local) es → Ascending transaction_of es →
    Leads (with_entries [] p) (with_entries es p)
all_enter p [] n v a = stay (with_entries [] p)
all_enter p (e ∷ es) n v a =
    let g = v.0 in
    and_then (all_enter p es (omega arith) v.1 a.1)
    (enters p e.terms es a.0 g.terms (omega arith) e.certificate e.departed_by e.absences g.certificate g.departed_by g.absences g.absence_order g.absence_count e.part e.marks e.returned g.part)

-- Counts: an entry is rebuilt and forgotten, as often as it takes.
module _ (p : Plain) (bare : p.entries ≡ []) (shard : ℕ) (s : is_shard shard ≡ true) where
  rebuilds_one : (cs : List Count) → no_count_for shard 1 cs ≡ false → Leads (with_counts cs p) (with_counts (counted shard 1 cs) p)
  unfolding after_abandonment record_formed record_timed record_groups after_forget
  rebuilds_one cs room =
      let ws : List ℕ = 1 ∷ shard ∷ 0 ∷ 0 ∷ 0 ∷ 0 ∷ 0 ∷ 0 ∷ [] in
      record {
        calls = abandonment ws ∷ forget 0 ∷ [];
        words = ((refl, (shard-word shard s, (refl, (refl, (refl, (refl, (refl, (refl, tt)))))))), (tt, tt));
        leads =
            ap (λ q. (step (forget 0) q).ledger) (accepted (abandonment_refusal ws (with_counts cs p)) _ _ (rw (s, bare, room))) ∙ rw bare refl;
      }

  -- a shard below those that are counted
  module _ (cs : List Count) (low : Above counted_shard shard cs) (few : length cs < max_counts) where
    lacks : has counted_shard shard cs ≡ false
    lacks = above_lacks counted_shard shard shard cs (omega arith) low

    reaches : (n : ℕ) → 1 ≤ n → n ≤ max_count → Leads (with_counts cs p) (with_counts (record { shard = shard; rebuilt = n } ∷ cs) p)
    reaches zero l h = absurd (omega (arith, l))
    reaches (suc zero) l h =
        subst (λ ds. Leads (with_counts cs p) (with_counts ds p)) (rw lacks (include-below counted_shard (opened shard 1) cs low))
        (rebuilds_one cs (rw (lacks, lt-leb max_counts (length cs) few) refl))
    reaches (suc (suc n)) l h =
        let c : Count = record { shard = shard; rebuilt = suc n } in
        let more : min (suc n + 1) max_count ≡ suc (suc n) = omega (arith, h) in
        and_then (reaches (suc n) (omega arith) (omega (arith, h)))
        (subst (λ ds. Leads (with_counts (c ∷ cs) p) (with_counts ds p))
        (rw (eq-eqb shard shard refl, more) (ap (λ ds. record { shard = shard; rebuilt = suc (suc n) } ∷ ds) (change_above counted_shard shard (raised 1) cs low)))
        (rebuilds_one (c ∷ cs) (rw (eq-eqb shard shard refl) refl)))

all_counted : (p : Plain) → p.entries ≡ [] → (cs : List Count) → length cs ≤ max_counts → Every GoodCount cs → Ascending counted_shard cs →
    Leads (with_counts [] p) (with_counts cs p)
all_counted p bare [] n v a = stay (with_counts [] p)
all_counted p bare (c ∷ cs) n v a =
    and_then (all_counted p bare cs (omega (arith, n)) v.1 a.1) (reaches p bare c.shard v.0.shard cs a.0 (omega (arith, n)) c.rebuilt v.0.some v.0.few)

-- the ledger of an accepted making
made-empty : (local v c l : ℕ) → is_shard local ≡ true → is_span v ≡ true → is_span c ≡ true → is_span l ≡ true → (making local v c l).ledger ≡ empty local v c l
unfolding making
made-empty local v c l a b d e = rw (a, b, d, e)

pub good_reached : (p : Plain) → Good p → Reached p
good_reached p g =
    let p₀ = empty p.local p.validity p.core_span p.leg_span in
    let p₁ = with_counts p.counts p₀ in
    let p₂ = with_departures p.departures p₁ in
    rw (made-empty p.local p.validity p.core_span p.leg_span g.frame.local g.frame.validity g.frame.core_span g.frame.leg_span)
    (and_then (all_counted p₀ refl p.counts g.counts.count g.counts.rows.each g.counts.rows.order)
    (and_then (all_depart p₁ p.departures g.departures.count g.departures.rows.each g.departures.rows.order)
    (all_enter p₂ p.entries g.entries.count g.entries.rows.each g.entries.rows.order)))

pub reached_good : (p : Plain) → Reached p → Good p
reached_good p r = subst Good r.leads (run-good r.calls r.words _ (making-good p.local p.validity p.core_span p.leg_span))

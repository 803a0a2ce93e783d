-- Prune on a ledger: each verdict is one turn of the pass, and the branches give what the rules say, from what the parts did.
-- Assumes nothing.
use Prim.Native.Nat.{ℕ, ◌+◌, ◌*◌, ◌≤◌, ◌<◌}
use mathlib.Core.Path.{◌≡◌, refl, sym, ap, ◌∙◌, ap₂}
use mathlib.Core.Bool.{Bool, true, false, not}
use mathlib.Core.List.{List, [], ◌∷◌, ◌++◌, map}
use native.Mathlib.Omega.{arith}
use borrow.Author.Tests.{ltb-false}
use lib.Dec.{ltb}
use lib.ListN.{length, take, drop, set, length-map}
use lib.Seq.{sets}
use Rattle.lists.specs.Lists.{keep, keep_by, any, concat_map}
use Rattle.lists.proofs.Keep.{length-keep}
use Rattle.lists.proofs.Distinct.{keep_by_test}
use Rattle.rules.specs.Numbers.{is_time}
use Rattle.rules.specs.Plain as plain
use Rattle.rules.specs.Prune.{Report, stands, rule_of, is_reported, report_of, report_words, holds, remains, survivors, fallen, reports, pruned}
use Rattle.rules.specs.Outcome.{Outcome, ◌gives◌then◌}
use Rattle.rules.specs.Calls.{prune_refusal, after_prune}
use Rattle.rules.specs.Good.{GoodDepartures}
use Rattle.rules.proofs.Kept.{pruned-kept}
use Rattle.std.specs.Prelude.{Ok}
use Rattle.types.specs.declared.refusal.Refusal.{Refusal}
use Rattle.types.specs.Refusals.{refusal_number}
use Rattle.types.specs.Transactions.{number_of}
use Rattle.entry.specs.declared.Entry.{Entry}
use Rattle.entry.specs.Entry.{plain_entry}
use Rattle.store.specs.declared.roster.Roster.{Roster}
use Rattle.store.specs.declared.issuers.Issuers.{Issuers}
use Rattle.store.specs.declared.departures.Departures.{Departures}
use Rattle.store.specs.Roster.{keys_of, Retained}
use Rattle.store.specs.Issuers as issuers
use Rattle.store.specs.Issuers.{pairs_in}
use Rattle.store.specs.Departures as departures
use Rattle.store.specs.Departures.{on_file}
use Rattle.store.specs.Counts.{counts_in}
use Rattle.store.proofs.Filed.{file-length}
use Rattle.judge.specs.declared.views.View.{View}
use Rattle.judge.specs.declared.verdicts.Verdict.{Verdict}
use Rattle.judge.specs.declared.verdicts.Verdict.TheVariants.{Stands, Falls, Reported}
use Rattle.judge.specs.View.{Shows}
use Rattle.judge.specs.Verdict.{Says, Faces}
use Rattle.ledger.specs.declared.Ledger.{Ledger}
use Rattle.ledger.specs.Contents.{entries_of, contents, Held, with_parts, lying_at, Became}
use Rattle.ledger.specs.Meets.{Meets, saying, says_no}
use Rattle.ledger.proofs.Places.{entries-length, entry_at}
use Rattle.ledger.proofs.Lift.{became, kept-rows}
use Rattle.ledger.proofs.Meeting.{refuses, passes}
use Rattle.sweeps.specs.declared.prune.Pruning.{Pruning}
use Rattle.store.specs.Leaving.{unnamed_by}
use Rattle.sweeps.specs.Pruning.{Needed, begun, Judges, refusal_by}
use Rattle.sweeps.proofs.Several.{unnamed_index}
use Rattle.sweeps.proofs.Pruning.{Judging, judging_none, turn_stands, turn_idle, turn_falls, turn_reported, all_stay, all-needed, all-rows, all-count, all-gone}

-- The pass as the rules judge.
module _ (l : Ledger) (now : ℕ) where
  abbrev reporting : plain.Entry → Bool
  reporting e = is_reported (rule_of (contents l).local e)

  abbrev row_of : plain.Entry → List ℕ
  row_of e = report_words (report_of (contents l).local e)

  abbrev holding : plain.Departure → plain.Entry → Bool
  holding d e = holds (contents l).local d e

  abbrev pub JudgingIn : Pruning → ℕ → Type 0
  JudgingIn r i = Judging (stands (contents l) now) reporting row_of holding (entries_of l) (on_file l.departures) r i

-- what the rules say of a row is what they say of its report
rows-reports : (f : plain.Entry → Report) (es : List plain.Entry) → concat_map (λ e. report_words (f e)) es ≡ concat_map report_words (map f es)
rows-reports f [] = refl
rows-reports f (e ∷ es) = ap (λ m. report_words (f e) ++ m) (rows-reports f es)

rows-length : (rs : List Report) → length (concat_map report_words rs) ≡ 3 * length rs
rows-length [] = refl
rows-length (r ∷ rs) = omega (arith, rows-length rs)

-- a prune that is not turned away has room for its reports
pub enough_room : (now reports room : ℕ) → refusal_by now reports room ≡ 0 → 3 * reports ≤ room
enough_room now reports room q = ltb-false room (3 * reports) (go (is_time now) (ltb room (3 * reports)) q)
  where
    go : (t b : Bool) → not t gives 3 then b gives 9 then 0 ≡ 0 → b ≡ false
    go false b e = absurd (omega arith)
    go true true e = absurd (omega arith)
    go true false e = refl

module _ (l : Ledger) (h : Held l) (now : ℕ) where
  file-few : length (on_file l.departures) ≤ 32
  file-few = omega (arith, file-length l.departures, l.departures.front.room)

  entries-few : length (entries_of l) ≤ 48
  entries-few = omega (arith, entries-length l h, l.roster.room)

  pub pass_none : JudgingIn l now begun 0
  pass_none = judging_none (stands (contents l) now) (reporting l now) (row_of l now) (holding l now) (entries_of l) (on_file l.departures) file-few

  pub file-good : GoodDepartures (on_file l.departures)
  unfolding contents
  file-good = h.good.departures

  -- the entry at a place
  module _ (i : ℕ) (q : i < l.roster.len) (d : Entry) where
    abbrev here : Entry
    here = lying_at l i d

    cons : drop i (entries_of l) ≡ plain_entry here ∷ drop (i + 1) (entries_of l)
    cons = (entry_at l h i q).next d

    module _ (v : View) (s : Shows (on_file l.departures) now v) (x : Verdict)
        (said : (p : plain.Plain) → Faces p now l.local.0 l.validity l.leg_span v → Says x p now (plain_entry here)) (r : Pruning) (k : JudgingIn l now r i) where
      judgement : Says x (contents l) now (plain_entry here)
      unfolding contents
      judgement = said (contents l) (record { local = refl; validity = refl; leg_span = refl; view = s })

      pub pass_stands : x ≡ Stands → (needed : List Bool) (some_unneeded : Bool) → length needed ≡ 32 → some_unneeded ≡ any not (take v.seen.len needed) →
          Needed l.local.0 (plain_entry here) v r.needed needed →
          JudgingIn l now (record { stay = set r.stay i true; needed = needed; some_unneeded = some_unneeded; words = r.words; reports = r.reports; fallen = r.fallen }) (i + 1)
      unfolding contents
      pass_stands e needed some_unneeded size o n =
          turn_stands (stands (contents l) now) (reporting l now) (row_of l now) (holding l now) (entries_of l) (on_file l.departures) file-few r i k entries-few
          (plain_entry here) (omega (arith, entries-length l h)) cons needed some_unneeded size (λ z. rw s.count (sym o ∙ z)) (rw e at judgement)
          (rw s.count (n (on_file l.departures) now s))

      pub pass_idle : x ≡ Stands → r.some_unneeded ≡ false →
          JudgingIn l now (record { stay = set r.stay i true; needed = r.needed; some_unneeded = r.some_unneeded; words = r.words; reports = r.reports; fallen = r.fallen }) (i + 1)
      pass_idle e o =
          turn_idle (stands (contents l) now) (reporting l now) (row_of l now) (holding l now) (entries_of l) (on_file l.departures) file-few r i k entries-few
          (plain_entry here) (omega (arith, entries-length l h)) cons o (rw e at judgement)

      pub pass_falls : x ≡ Falls → JudgingIn l now (record { stay = r.stay; needed = r.needed; some_unneeded = r.some_unneeded; words = r.words; reports = r.reports; fallen = r.fallen + 1 }) (i + 1)
      pass_falls e =
          let j : Says Falls (contents l) now (plain_entry here) = rw e at judgement in
          turn_falls (stands (contents l) now) (reporting l now) (row_of l now) (holding l now) (entries_of l) (on_file l.departures) file-few r i k entries-few
          (plain_entry here) (omega (arith, entries-length l h)) cons j.0 j.1

      pub pass_reported : (covered : ℕ) (words : List ℕ) → x ≡ Reported covered →
          words ≡ sets r.words (3 * r.reports) (number_of here.tx ∷ covered ∷ here.charge ∷ []) →
          JudgingIn l now (record {
            stay = r.stay;
            needed = r.needed;
            some_unneeded = r.some_unneeded;
            words = words;
            reports = r.reports + 1;
            fallen = r.fallen + 1;
          }) (i + 1)
      unfolding plain_entry
      pass_reported covered words e w =
          let j : Says (Reported covered) (contents l) now (plain_entry here) = rw e at judgement in
          turn_reported (stands (contents l) now) (reporting l now) (row_of l now) (holding l now) (entries_of l) (on_file l.departures) file-few r i k entries-few
          (plain_entry here) (omega (arith, entries-length l h)) cons words j.0 j.1 refl
          (w ∙ ap (λ n. sets r.words (3 * r.reports) (number_of here.tx ∷ n ∷ here.charge ∷ [])) (sym j.2))

  pub passed : (r : Pruning) (i : ℕ) → JudgingIn l now r i → l.roster.len ≤ i → Judges l now r
  unfolding contents survivors fallen reports
  passed r i k q =
      let n = entries-length l h in
      let z : length (entries_of l) ≤ i = omega (arith, n) in
      let m = file-length l.departures in
      let reported = keep (reporting l now) (fallen now (contents l)) in
      record {
        stay = all_stay (stands (contents l) now) (reporting l now) (row_of l now) (holding l now) (entries_of l) (on_file l.departures) file-few r i k z l.roster.len n;
        needed = rw m at (all-needed (stands (contents l) now) (reporting l now) (row_of l now) (holding l now) (entries_of l) (on_file l.departures) file-few r i k z);
        words = all-rows (stands (contents l) now) (reporting l now) (row_of l now) (holding l now) (entries_of l) (on_file l.departures) file-few r i k z ∙ rows-reports (report_of l.local.0) reported;
        count = all-count (stands (contents l) now) (reporting l now) (row_of l now) (holding l now) (entries_of l) (on_file l.departures) file-few r i k z ∙ sym (length-map reported (report_of l.local.0));
        fallen = all-gone (stands (contents l) now) (reporting l now) (row_of l now) (holding l now) (entries_of l) (on_file l.departures) file-few r i k z;
      }

  -- The branches.
  module _ (lent : List ℕ) where
    module _ (c : Pruning) (j : Judges l now c) where
      reported_few : length (reports now (contents l)) ≤ 48
      unfolding contents fallen reports
      reported_few =
          omega (
            arith,
            length-map (keep (reporting l now) (fallen now (contents l))) (report_of l.local.0),
            length-keep (reporting l now) (fallen now (contents l)),
            length-keep (λ e. not (stands (contents l) now e)) (entries_of l),
            entries-few,
          )

      pub reports-few : c.reports ≤ 48
      reports-few = omega (arith, j.count, reported_few)

      words_size : length (concat_map report_words (reports now (contents l))) ≡ 3 * c.reports
      words_size = rows-length (reports now (contents l)) ∙ ap (λ n. 3 * n) (sym j.count)

      same_refusal : prune_refusal now (length lent) (contents l) ≡ refusal_by now c.reports (length lent)
      same_refusal = rw words_size

      pub prune-refused : (m : Refusal) → refusal_number m ≡ refusal_by now c.reports (length lent) → Meets (after_prune now (length lent) (contents l)) lent lent (says_no m l)
      unfolding after_prune
      prune-refused m e = refuses m l lent (prune_refusal now (length lent) (contents l)) _ h (same_refusal ∙ sym e)

      module _ (r : Roster) (k : Retained l.roster (take l.roster.len c.stay) r) (x : Issuers)
          (i : issuers.Holds (unnamed_by (take l.roster.len c.stay) (keys_of l.roster) (pairs_in l.issuers)) x) (f : Departures)
          (d : departures.Holds (keep_by (take l.departures.front.len c.needed) (on_file l.departures)) f) where
        abbrev left : List plain.Departure
        left = keep (remains (contents l).local (survivors now (contents l))) (contents l).departures

        -- those on file that remain
        left-file : departures.Holds left f
        unfolding contents
        left-file =
            record {
              file = d.file ∙ rw j.needed (keep_by_test (remains l.local.0 (survivors now (contents l))) (on_file l.departures));
            }

        remained : (z : length l.entries ≡ 48) → Became (pruned now (contents l)) (with_parts l l.counts r l.entries x f z)
        unfolding contents pruned survivors
        remained z =
            became l (keep (stands (contents l) now) (entries_of l)) left (counts_in l.counts) r l.entries x f l.counts
            (kept-rows l h (stands (contents l) now) (take l.roster.len c.stay) r x j.stay k
            (unnamed_index (stands (contents l) now) l h (take l.roster.len c.stay) x j.stay i))
            left-file (record { counts = refl }) (pruned-kept now (contents l) h.good) z

        pub prune-done : 0 ≡ refusal_by now c.reports (length lent) → (after : List ℕ) → after ≡ take (3 * c.reports) c.words ++ drop (3 * c.reports) lent → (z : length l.entries ≡ 48) →
            Meets (after_prune now (length lent) (contents l)) lent after
            (saying (Ok (c.reports ∷ c.fallen ∷ 0 ∷ [])) (with_parts l l.counts r l.entries x f z))
        unfolding after_prune
        prune-done q after w z =
            let p = contents l in
            let ws = concat_map report_words (reports now p) in
            let o : Outcome = record { refused = 0; answers = length (reports now p) ∷ length (fallen now p) ∷ []; ledger = pruned now p; words = ws } in
            let none : prune_refusal now (length lent) p ≡ 0 = same_refusal ∙ sym q in
            passes (prune_refusal now (length lent) p) p o lent after _ none
            (record {
              refused = refl;
              answers = ap₂ (λ m n. m ∷ n ∷ 0 ∷ []) j.count j.fallen;
              ledger = (remained z).holds;
              wrote = w ∙ ap₂ (λ a k. a ++ drop k lent) j.words (sym words_size);
              held = (remained z).held;
            })

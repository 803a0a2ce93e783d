-- The calls that look up one transaction: what each does where it is owed and where it is not, from what its parts did.
-- Assumes nothing.
use Rattle.std.specs.Prelude.{Option, Some, None}
use Rattle.std.proofs.Math.Option as maths
use Rattle.std.proofs.Math.Option.{none, some}
use Prim.Native.Nat.{ℕ, ◌≤◌, ◌<◌}
use mathlib.Core.Path.{◌≡◌, refl, ap, sym, ◌∙◌, subst}
use mathlib.Core.Bool.{Bool, true, false, cond, ◌&&◌}
use mathlib.Core.List.{List, [], ◌∷◌}
use native.Mathlib.Omega.{arith}
use lib.ListN.{length, get_or, set}
use borrow.Author.Tests.{lt-ltb, le-ltb, le-leb, lt-leb}
use Rattle.lists.specs.Lists.{keep, change, without, Ascending}
use Rattle.lists.specs.Arrays.{place}
use Rattle.lists.proofs.Tests.{by_cond}
use Rattle.lists.proofs.Order.{include-known, length-include}
use Rattle.lists.proofs.Change.{change_same}
use Rattle.rules.specs.Numbers.{is_word, is_shard}
use Rattle.rules.specs.Plain as plain
use Rattle.rules.specs.Plain.{Absence, transaction_of, absence_key, with_entries, entry_of, owed, is_leg, is_settling, issues}
use Rattle.rules.specs.Entries.{certified, with_absences, read_absent, is_read, marked}
use Rattle.rules.specs.Outcome.{Outcome, done, yes_no}
use Rattle.rules.specs.Calls.{forget, is_fated, certify, absence, settled, returned, after_forget, after_fated, certify_refusal, after_certify, is_new, absence_refusal, after_absence, after_mark}
use Rattle.rules.specs.Readings.{of_entry}
use Rattle.rules.specs.Good.{Good}
use Rattle.rules.proofs.Kept.{step-good}
use Rattle.types.specs.declared.refusal.Refusal.TheVariants.{NoShard, Malformed, AbsencesFull}
use Rattle.entry.specs.declared.Entry.{Entry}
use Rattle.entry.specs.Entry.{plain_entry, absences_of, Means, RoomForAbsence}
use Rattle.entry.proofs.Shape.{fits_of}
use Rattle.entry.proofs.Absent.{length-absences}
use Rattle.store.specs.declared.roster.Roster.{Roster}
use Rattle.store.specs.declared.issuers.Issuers.{Issuers}
use Rattle.store.specs.Roster.{keys_of, is, LiesIn, Removed}
use Rattle.store.specs.Issuers as issuers
use Rattle.store.specs.Issuers.{is_not, pairs_in}
use Rattle.ledger.specs.declared.Ledger.{Ledger}
use Rattle.ledger.specs.Contents.{contents, Held, with_parts, storing, lying_at}
use Rattle.ledger.specs.Meets.{Meets, says, says_no}
use Rattle.calls.specs.Release.{released}
use Rattle.ledger.proofs.Places.{Owed, owed_in, found_at, not_found}
use Rattle.ledger.proofs.Lift.{changed, let_go}
use Rattle.ledger.proofs.Meeting.{refuses, passes, answers, silent, good-after, stays}

-- what is said of the ledger with the entry stored at one slot, at the same slot by another name
stored : (o : Outcome) (n : ℕ) (l : Ledger) (x : Entry) {s k : ℕ} → s ≡ k → (z : length (set l.entries s x) ≡ 48) →
    ((u : length (set l.entries k x) ≡ 48) → Meets o [] [] (says n (storing l k x u))) → Meets o [] [] (says n (storing l s x z))
stored o n l x {s} {k} e = subst (λ y. (z : length (set l.entries y x) ≡ 48) → ((u : length (set l.entries k x) ≡ 48) → Meets o [] [] (says n (storing l k x u))) → Meets o [] [] (says n (storing l y x z))) (sym e) (λ z f. f z)

-- an entry, whichever: the first slot's
some_entry : (es : List Entry) → length es ≡ 48 → Entry
some_entry [] h = absurd (omega arith)
some_entry (e ∷ es) h = e

module _ (l : Ledger) (h : Held l) (t : ℕ) where
  -- Letting go, by a test of the entry.
  module _ (q : plain.Entry → Bool) (n : ℕ) where
    pub released_unknown : place (is t) 0 (keys_of l.roster) ≡ None → Meets (released q n t (contents l)) [] [] (says 0 l)
    released_unknown e = rw (not_found l h t e).got (answers 0 l (contents l) (says 0 l) (stays l h (contents l) refl) refl)

    pub released_other : (k : ℕ) (d : Entry) → place (is t) 0 (keys_of l.roster) ≡ Some k → q (plain_entry (lying_at l k d)) ≡ false →
        Meets (released q n t (contents l)) [] [] (says 0 l)
    released_other k d e w = rw ((found_at l h t k e).got d, w) (answers 0 l (contents l) (says 0 l) (stays l h (contents l) refl) refl)

    pub released-passing : (k : ℕ) (d : Entry) → place (is t) 0 (keys_of l.roster) ≡ Some k → q (plain_entry (lying_at l k d)) ≡ true →
        (r : Roster) (x : Issuers) → Removed l.roster k r → issuers.Holds (keep (is_not t) (pairs_in l.issuers)) x → (s : length l.entries ≡ 48) →
        Meets (released q n t (contents l)) [] [] (says n (with_parts l l.counts r l.entries x l.departures s))
    unfolding after_forget
    released-passing k d e w r x c i s =
        let b = let_go l h t k r x e c i (step-good (forget t) tt (contents l) h.good) s in
        rw ((found_at l h t k e).got d, w) (answers n (with_parts l l.counts r l.entries x l.departures s) _ _ b refl)

  -- forget asks nothing of the entry, and fated that it is a leg
  pub forget-is : released (λ e. true) 1 t (contents l) ≡ after_forget t (contents l)
  unfolding after_forget
  forget-is = go (place (is t) 0 (keys_of l.roster)) refl
    where
      go : (o : Option ℕ) → place (is t) 0 (keys_of l.roster) ≡ o → released (λ e. true) 1 t (contents l) ≡ done (yes_no (owed t (contents l)) ∷ []) (with_entries (without transaction_of t (contents l).entries) (contents l))
      go None e = let w = not_found l h t e in rw (w.got, w.known, w.gone) refl
      go (Some k) e = let a = found_at l h t k e in rw (a.got (some_entry l.entries l.slots), a.known) refl

  pub fated-is : released (λ e. is_leg e.part) 2 t (contents l) ≡ after_fated t (contents l)
  unfolding after_fated
  fated-is = go (entry_of t (contents l))
    where
      go : (o : maths.Option plain.Entry) → cond (of_entry (λ e. is_leg e.part) o) (done (2 ∷ []) (with_entries (without transaction_of t (contents l).entries) (contents l))) (done (0 ∷ []) (contents l))
          ≡ cond (is_fated o) (done (2 ∷ []) (with_entries (without transaction_of t (contents l).entries) (contents l))) (done (0 ∷ []) (contents l))
      go none = refl
      go (some e) = refl

  -- Certify.
  module _ (code : ℕ) where
    pub certify_code : 2 < code → Meets (after_certify t code (contents l)) [] [] (says_no Malformed l)
    unfolding after_certify
    certify_code q = refuses Malformed l [] (certify_refusal code) _ h (rw (lt-ltb 2 code q))

    coded : code ≤ 2 → certify_refusal code ≡ 0
    coded q = rw (le-ltb 2 code q)

    pub certify_unknown : code ≤ 2 → place (is t) 0 (keys_of l.roster) ≡ None → Meets (after_certify t code (contents l)) [] [] (says 0 l)
    unfolding after_certify
    certify_unknown q e =
        passes (certify_refusal code) (contents l) _ [] [] (says 0 l) (coded q)
        (rw ((not_found l h t e).changed (certified code)) (silent l (contents l) (says 0 l) (stays l h (contents l) refl) refl))

    pub certify-owed : code ≤ 2 → (s : ℕ) → LiesIn l.roster t s → (d x : Entry) → Means (certified code (plain_entry (get_or l.entries s d))) x →
        (z : length (set l.entries s x) ≡ 48) → Meets (after_certify t code (contents l)) [] [] (says 0 (storing l s x z))
    unfolding after_certify
    certify-owed q s w d x m z =
        let o = done [] (with_entries (change transaction_of t (certified code) (contents l).entries) (contents l)) in
        let good = good-after (certify_refusal code) (contents l) o (coded q) (step-good (certify t code) tt (contents l) h.good) in
        let there : plain_entry x ≡ certified code (plain_entry (lying_at l w.at d)) = m.plain ∙ ap (λ y. certified code (plain_entry (get_or l.entries y d))) w.slot in
        passes (certify_refusal code) (contents l) o [] [] _ (coded q)
        (stored o 0 l x w.slot z (λ u. silent _ _ _ (changed l h t w.at x d (certified code) w.found there (λ y. refl) good u) refl))

  -- Settled and returned.
  module _ (r : ℕ) (is_return : Bool) where
    pub mark_unknown : place (is t) 0 (keys_of l.roster) ≡ None → Meets (after_mark r t is_return (contents l)) [] [] (says 0 l)
    unfolding after_mark
    mark_unknown e =
        rw ((not_found l h t e).changed (marked (contents l).local r is_return)) (silent l (contents l) (says 0 l) (stays l h (contents l) refl) refl)

    pub mark_owed : (s : ℕ) → LiesIn l.roster t s → (d x : Entry) → Means (marked l.local.0 r is_return (plain_entry (get_or l.entries s d))) x →
        (z : length (set l.entries s x) ≡ 48) → Meets (after_mark r t is_return (contents l)) [] [] (says 0 (storing l s x z))
    unfolding after_mark contents
    mark_owed s w d x m z =
        let f = marked l.local.0 r is_return in
        let there : plain_entry x ≡ f (plain_entry (lying_at l w.at d)) = m.plain ∙ ap (λ y. f (plain_entry (get_or l.entries y d))) w.slot in
        let o = done [] (with_entries (change transaction_of t f (contents l).entries) (contents l)) in
        stored o 0 l x w.slot z
        (λ u. silent _ _ _
        (changed l h t w.at x d f w.found there
        (λ y. by_cond (λ z. z.terms ≡ y.terms) (is_settling y.part && issues l.local.0 r y.terms) _ y (λ _. refl) (λ _. refl))
        (marked-kept is_return) u)
        refl)
      where
        marked-kept : (b : Bool) → Good (with_entries (change transaction_of t (marked l.local.0 r b) (contents l).entries) (contents l))
        marked-kept true = step-good (returned r t) tt (contents l) h.good
        marked-kept false = step-good (settled r t) tt (contents l) h.good

  -- Absence.
  module _ (a : Absence) where
    pub absence-shard : is_shard a.shard ≡ false → Meets (after_absence t a (contents l)) [] [] (says_no NoShard l)
    unfolding after_absence
    absence-shard q = refuses NoShard l [] (absence_refusal t a (contents l)) _ h (rw q)

    pub absence_unknown : is_shard a.shard ≡ true → place (is t) 0 (keys_of l.roster) ≡ None → Meets (after_absence t a (contents l)) [] [] (says 0 l)
    unfolding after_absence
    absence_unknown q e =
        let w = not_found l h t e in
        rw (q, w.got, w.changed (read_absent a)) (answers 0 l (contents l) (says 0 l) (stays l h (contents l) refl) refl)

    module _ (s : ℕ) (lies : LiesIn l.roster t s) (d : Entry) (q : is_shard a.shard ≡ true) where
      abbrev old : Entry
      old = get_or l.entries s d

      there : Owed l t s
      there = owed_in l h t s lies

      pub absence-read : is_read a (plain_entry old) ≡ true → Meets (after_absence t a (contents l)) [] [] (says 0 l)
      unfolding after_absence
      absence-read i =
          let x = plain_entry old in
          let same : read_absent a x ≡ x = ap (λ m. with_absences m x) (include-known absence_key a x.absences (there.good d).absence_order i) in
          rw (q, there.got d, i, change_same transaction_of t (read_absent a) x (contents l).entries h.good.entries.rows.order (there.got d) same)
          (answers 0 l (contents l) (says 0 l) (stays l h (contents l) refl) refl)

      abbrev size : length (plain_entry old).absences ≡ old.absences_len
      unfolding plain_entry
      size = length-absences old (fits_of old)

      pub absence_full : is_read a (plain_entry old) ≡ false → 8 ≤ old.absences_len → Meets (after_absence t a (contents l)) [] [] (says_no AbsencesFull l)
      unfolding after_absence
      absence_full i f =
          refuses AbsencesFull l [] (absence_refusal t a (contents l)) _ h (rw (q, there.got d, i, le-leb 8 (length (plain_entry old).absences) (omega (arith, size))))

      pub absence_new : is_read a (plain_entry old) ≡ false → old.absences_len < 8 → is_word a.key ≡ true → (x : Entry) → Means (read_absent a (plain_entry old)) x →
          (z : length (set l.entries s x) ≡ 48) → Meets (after_absence t a (contents l)) [] [] (says 1 (storing l s x z))
      unfolding after_absence
      absence_new i f w x m z =
          let o = done (yes_no (is_new a (entry_of t (contents l))) ∷ []) (with_entries (change transaction_of t (read_absent a) (contents l).entries) (contents l)) in
          let none : absence_refusal t a (contents l) ≡ 0 = rw (q, there.got d, i, lt-leb 8 (length (plain_entry old).absences) (omega (arith, size))) in
          let g = good-after (absence_refusal t a (contents l)) (contents l) o none (step-good (absence t a.shard a.key) w (contents l) h.good) in
          let new : plain_entry x ≡ read_absent a (plain_entry (lying_at l lies.at d)) = m.plain ∙ ap (λ y. read_absent a (plain_entry (get_or l.entries y d))) lies.slot in
          passes (absence_refusal t a (contents l)) (contents l) o [] [] _ none
          (stored o 1 l x lies.slot z
          (λ u. rw (there.got d, i) (answers 1 _ _ _ (changed l h t lies.at x d (read_absent a) lies.found new (λ y. refl) g u) refl)))

-- there is room for one more absence
pub room_for : (e : Entry) (a : Absence) → Ascending absence_key (absences_of e) → e.absences_len < 8 → RoomForAbsence a e
unfolding plain_entry
room_for e a r b = record { rising = r; room = omega (arith, length-absences e (fits_of e), length-include absence_key a (absences_of e)) }

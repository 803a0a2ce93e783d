-- Calls on one entry that stay apart from what a prune takes: forget, fated, certify, absence, settled and returned, admission.
-- Assumes nothing.
use Prim.Native.Nat.{ℕ}
use mathlib.Core.Path.{◌≡◌, refl, sym, ap, ◌∙◌}
use mathlib.Core.Bool.{Bool, true, false, cond, not, ◌&&◌, ◌||◌}
use mathlib.Core.List.{List, [], ◌∷◌, map}
use Rattle.lists.specs.Lists.{keep, Every, Ascending, at, has, without, change, include, self}
use Rattle.lists.proofs.Tests.{by_cond}
use Rattle.lists.proofs.Keep.{every_more, every_change_if, length-change_if}
use Rattle.lists.proofs.Order.{ascending-keep, every_include, include-known}
use Rattle.lists.proofs.Parted.{keep-change_if, map-change_if, keep-change, keep-put, put_beside}
use Rattle.rules.specs.Plain.{Absence, Entry, Plain, is_settling, transaction_of, issues, with_entries, owed, entry_of}
use Rattle.rules.specs.Words.{admission_terms, admission_formed, admission_timed, admission_placed}
use Rattle.rules.specs.Entries.{admitted, with_marks, read_absent, certified, marked}
use Rattle.rules.specs.Prune.{Rule, awaiting, settling, recorded, answering, expiring, rule_of, stands_by, stands, report_of}
use Rattle.rules.specs.Outcome.{done, yes_no}
use Rattle.rules.specs.Calls.{no_room_for, admission_refusal, after_admission, is_new, absence_refusal, after_absence, certify_refusal, after_certify, after_mark, is_fated, after_fated, after_forget}
use Rattle.rules.specs.Good.{Good}
use Rattle.rules.specs.LeftOut.{Taking, less, Omitted, is_for_room, Clear}
use Rattle.rules.proofs.Kept.{unless-refused, admitted-transaction}
use Rattle.rules.proofs.Ordered.{told?}
use Rattle.rules.proofs.Less.{is_left, Felled, Beside}
use Rattle.rules.proofs.Verdicts.{stands_beside}
use Rattle.rules.proofs.Moved.{table_same, Moved, Paired, unless_paired, done_paired, stays, goes, entries_moved, change_moved, without_moved, entry_same, owed_same, room-less}

module _ (o : Omitted) (fell : Felled) (p : Plain) (b : Beside o fell p) where
  abbrev k : Taking
  k = o.taken

  pub forget_paired : (x : ℕ) → k.is_fallen x ≡ false → Good (after_forget x p).ledger → Paired o fell (after_forget x (less k p)) (after_forget x p)
  unfolding after_forget
  forget_paired x n g =
      done_paired o fell _ _ _ _ (ap (λ w. yes_no w ∷ []) (owed_same o fell p b x n)) (without_moved o fell p b x n g)

  pub fated_paired : (x : ℕ) → k.is_fallen x ≡ false → Good (after_fated x p).ledger → Paired o fell (after_fated x (less k p)) (after_fated x p)
  unfolding after_fated
  fated_paired x n g = rw (entry_same o fell p b x n) (go (is_fated (entry_of x p)) g)
    where
      go : (c : Bool) → Good (cond c (done (2 ∷ []) (with_entries (without transaction_of x p.entries) p)) (done (0 ∷ []) p)).ledger →
          Paired o fell
          (cond c (done (2 ∷ []) (with_entries (without transaction_of x (stays o fell p b p.entries)) (less k p))) (done (0 ∷ []) (less k p)))
          (cond c (done (2 ∷ []) (with_entries (without transaction_of x p.entries) p)) (done (0 ∷ []) p))
      go true h = done_paired o fell (2 ∷ []) (2 ∷ []) _ _ refl (without_moved o fell p b x n h)
      go false h = done_paired o fell (0 ∷ []) (0 ∷ []) _ _ refl (record { is = refl; beside = b })

  pub certify_paired : (x code : ℕ) → k.is_fallen x ≡ false → Good (after_certify x code p).ledger →
      Paired o fell (after_certify x code (less k p)) (after_certify x code p)
  unfolding after_certify
  certify_paired x code n g =
      unless_paired o fell (certify_refusal code) p _ _ b g
      (λ e h. done_paired o fell [] [] _ _ refl (change_moved o fell p b x (certified code) n (λ e. refl) (λ e c. c) h))

  pub absence_paired : (x : ℕ) (a : Absence) → k.is_fallen x ≡ false → Good (after_absence x a p).ledger →
      Paired o fell (after_absence x a (less k p)) (after_absence x a p)
  unfolding after_absence
  absence_paired x a n g =
      rw (entry_same o fell p b x n)
      (unless_paired o fell (absence_refusal x a p) p _ _ b g
      (λ e h. done_paired o fell (yes_no (is_new a (entry_of x p)) ∷ []) _ _ _ refl (change_moved o fell p b x (read_absent a) n (λ e. refl) (λ e c. c) h)))

  -- Settled and returned: a mark is read by no verdict and no report, so that it may be on a fallen entry.
  module _ (r x : ℕ) (is_return : Bool) where
    abbrev marks : Entry → Entry
    marks e = marked p.local r is_return e

    marks_alike : (P : Entry → Type 0) (e : Entry) → P (with_marks (include self r e.marks) (e.returned || is_return) e) → P e → P (marks e)
    marks_alike P e h g = by_cond P (is_settling e.part && issues p.local r e.terms) _ e (λ _. h) (λ _. g)

    marks_stand : (e : Entry) → stands p o.clock (marks e) ≡ stands p o.clock e
    unfolding rule_of
    marks_stand e = marks_alike (λ f. stands p o.clock f ≡ stands p o.clock e) e (by (rule_of p.local e)) refl
      where
        by : (q : Rule) → stands_by q p o.clock (with_marks (include self r e.marks) (e.returned || is_return) e) ≡ stands_by q p o.clock e
        by awaiting = refl
        by settling = refl
        by recorded = refl
        by answering = refl
        by expiring = refl

    marks-told : (e : Entry) → told? p (marks e) ≡ told? p e
    unfolding rule_of
    marks-told e = marks_alike (λ f. told? p f ≡ told? p e) e refl refl

    marks_reported : (e : Entry) → report_of p.local (marks e) ≡ report_of p.local e
    unfolding rule_of
    marks_reported e = marks_alike (λ f. report_of p.local f ≡ report_of p.local e) e refl refl

    marks-kept : (e : Entry) → transaction_of (marks e) ≡ transaction_of e
    marks-kept e = marks_alike (λ f. transaction_of f ≡ transaction_of e) e refl refl

    mark_moved : Good (with_entries (change transaction_of x marks p.entries) p) →
        Moved o fell (with_entries (change transaction_of x marks (stays o fell p b p.entries)) (less k p)) (with_entries (change transaction_of x marks p.entries) p)
    mark_moved g =
        let left = stays o fell p b p.entries in
        let gone = goes o fell p b p.entries in
        let es = change transaction_of x marks p.entries in
        let l : stays o fell p b es ≡ change transaction_of x marks left = keep-change transaction_of (is_left k) marks marks-kept x p.entries in
        let m : goes o fell p b es ≡ change transaction_of x marks gone = keep-change transaction_of k.is_fallen marks marks-kept x p.entries in
        record {
          is = ap (λ es. with_entries es (less k p)) (sym l);
          beside =
              record {
                good = g;
                clear = rw l (every_change_if (Clear k p) (at transaction_of x) marks left (λ e c. marks_alike (Clear k p) e c c) b.clear);
                fall =
                    rw m
                    (every_more _ _ (λ e h. stands_beside p es p.counts o.clock e ∙ h) (change transaction_of x marks gone)
                    (every_change_if (λ e. stands p o.clock e ≡ false) (at transaction_of x) marks gone (λ e h. marks_stand e ∙ h) b.fall));
                same =
                    rw m
                    (ap (map (report_of p.local)) (keep-change_if (told? p) (at transaction_of x) marks marks-told gone)
                    ∙ map-change_if (report_of p.local) (at transaction_of x) marks marks_reported (keep (told? p) gone)
                    ∙ b.same);
                many = rw m (length-change_if (at transaction_of x) marks gone ∙ b.many);
              };
        }

    pub mark_paired : Good (after_mark r x is_return p).ledger → Paired o fell (after_mark r x is_return (less k p)) (after_mark r x is_return p)
    unfolding after_mark
    mark_paired g = done_paired o fell [] [] _ _ refl (mark_moved g)

  -- Admission: an entry that is put in, if it is not there.
  include-clear : (e : Entry) (es : List Entry) → Ascending transaction_of es → (has transaction_of (transaction_of e) es ≡ false → Clear k p e) →
      Every (Clear k p) es → Every (Clear k p) (include transaction_of e es)
  include-clear e es a c h = go (has transaction_of (transaction_of e) es) refl
    where
      go : (x : Bool) → has transaction_of (transaction_of e) es ≡ x → Every (Clear k p) (include transaction_of e es)
      go true q = rw (include-known transaction_of e es a q) h
      go false q = every_include transaction_of (Clear k p) e es (c q) h

  admission-table : (ws : List ℕ) → k.is_fallen (admission_terms ws).transaction ≡ false → is_for_room (after_admission ws p).refused ≡ false →
      admission_refusal ws (less k p) ≡ admission_refusal ws p
  unfolding after_admission
  admission-table ws n r =
      let xs = (admission_terms ws).transaction ∷ [] in
      table_same 5 0 refl (not (admission_formed ws)) (not (admission_timed ws)) (not (admission_placed ws)) (no_room_for xs p) (no_room_for xs (less k p))
      (room-less o fell p b xs (n, tt)) (ap is_for_room (sym (unless-refused (admission_refusal ws p) p _ refl)) ∙ r)

  pub admission_paired : (ws : List ℕ) → k.is_fallen (admission_terms ws).transaction ≡ false →
      (owed (transaction_of (admitted p.local ws)) p ≡ false → Clear k p (admitted p.local ws)) →
      is_for_room (after_admission ws p).refused ≡ false → Good (after_admission ws p).ledger →
      Paired o fell (after_admission ws (less k p)) (after_admission ws p)
  unfolding after_admission
  admission_paired ws n c r g =
      let new = admitted p.local ws in
      let left = stays o fell p b p.entries in
      let order = b.good.entries.rows.order in
      let named : k.is_fallen (transaction_of new) ≡ false = ap k.is_fallen (admitted-transaction p.local ws) ∙ n in
      rw (admission-table ws n r)
      (unless_paired o fell (admission_refusal ws p) p _ _ b g
      (λ e h. done_paired o fell _ _ _ _ (ap (λ w. yes_no (not w) ∷ []) (owed_same o fell p b (admission_terms ws).transaction n))
      (entries_moved o fell p b (include transaction_of new p.entries) (include transaction_of new left) h
      (keep-put transaction_of (is_left k) new (ap not named) p.entries order)
      (put_beside transaction_of k.is_fallen new named p.entries order)
      (include-clear new left (ascending-keep transaction_of (λ e. is_left k (transaction_of e)) p.entries order)
      (λ h. c (sym (owed_same o fell p b (transaction_of new) named) ∙ h)) b.clear))))

-- What is read tells the entry, and each test that fails that the words are of none.
use Rattle.std.proofs.Common.{◌≡◌, ◌∙◌, refl, sym, ap, Bool, true, false, List, ℕ, take, drop, Some}
use Rattle.std.specs.Bool.{then_some}
use Rattle.std.specs.Option.{MatchOption}
use Rattle.std.specs.Result.{result_ok}
use Rattle.rules.specs.Plain as plain
use Rattle.rules.specs.Words.{decomposed, admission_terms}
use Rattle.rules.specs.Snapshot.{admission_of, history_of, part_fits, marks_fit, entry_in, entry_sound}
use Rattle.words.specs.declared.admission.Admission.{Admission}
use Rattle.entry.specs.Entry.{plain_part, plain_entry, Means}
use Rattle.calls.specs.Refusals.{words_refusal}
use Rattle.snapshots.specs.History.{history_sound, Tells}
use Rattle.snapshots.specs.Form.{history_formed}
use Rattle.snapshots.proofs.Forms.{entry_measured, entry_rows}
use Rattle.snapshots.proofs.Sound.{refused_by, passed_by, value_of, not_admitted, not_told, not_fit, not_marked, sound, fits-told, put-is}
use Rattle.snapshots.proofs.entries.read_entry.Goals as goal

pub returns-in_err-admission_length : goal.returns-in_err-admission_length
returns-in_err-admission_length c = absurd (c.in_err-admission_length.ensures (entry_measured c.args.words.now c.requires))

pub returns-in_err-admission : goal.returns-in_err-admission
returns-in_err-admission c =
    let ws = c.args.words.now in
    let front = c.split_at.ensures.front ∙ ap (λ n. take n ws) c.in_ok-admission_length.ensures.1 in
    let r = refused_by c.check.result _ c.check.ensures.refused (sym c.in_err-admission.was ∙ c.ok.ensures.value) in
    rw c.from_residual-in_err-admission.ensures (not_admitted c.args.local.0 ws r.0 (r.1 ∙ ap words_refusal front))

pub read-requires : goal.read-requires
read-requires c =
    let ws = c.args.words.now in
    let back = c.split_at.ensures.back ∙ ap (λ n. drop n ws) c.in_ok-admission_length.ensures.1 in
    ap history_formed back ∙ entry_rows ws c.in_ok-admission_length.ensures.0 ∙ c.requires

pub returns-in_err-history : goal.returns-in_err-history
returns-in_err-history c =
    let ws = c.args.words.now in
    let back = c.split_at.ensures.back ∙ ap (λ n. drop n ws) c.in_ok-admission_length.ensures.1 in
    rw c.from_residual-in_err-history.ensures (not_told c.args.local.0 ws (sym (ap history_sound back) ∙ c.in_err-history.ensures))

pub returns-then-not-part_fits : goal.returns-then-not-part_fits
returns-then-not-part_fits c =
    let ws = c.args.words.now in
    let front = c.split_at.ensures.front ∙ ap (λ n. take n ws) c.in_ok-admission_length.ensures.1 in
    let back = c.split_at.ensures.back ∙ ap (λ n. drop n ws) c.in_ok-admission_length.ensures.1 in
    let told : Tells _ c.in_ok-history.history = rw back at c.in_ok-history.ensures.1 in
    not_fit c.args.local.0 ws
    (sym (fits-told c.args.local.0 ws c.in_ok-history.history told)
    ∙ sym (ap (λ (l : List ℕ). part_fits (plain_part c.in_ok-history.history.part) c.args.local.0 (decomposed l) (admission_terms l)) front)
    ∙ sym c.part_fits.ensures
    ∙ c.if-not-part_fits.true)

-- the history put on the entry that the admission takes in
module _ (c : goal.After-then_some) where
  abbrev ws : List ℕ
  ws = c.args.words.now

  abbrev local : ℕ
  local = c.args.local.0

  front : c.split_at.result.0.now ≡ admission_of ws
  front = c.split_at.ensures.front ∙ ap (λ n. take n ws) c.in_ok-admission_length.ensures.1

  back : c.split_at.result.1.now ≡ history_of ws
  back = c.split_at.ensures.back ∙ ap (λ n. drop n ws) c.in_ok-admission_length.ensures.1

  told : Tells (history_of ws) c.in_ok-history.history
  told = rw back at c.in_ok-history.ensures.1

  fits : part_fits (entry_in ws).part local (decomposed (admission_of ws)) (entry_in ws).terms ≡ true
  fits =
      sym (fits-told local ws c.in_ok-history.history told)
      ∙ sym (ap (λ (l : List ℕ). part_fits (plain_part c.in_ok-history.history.part) local (decomposed l) (admission_terms l)) front)
      ∙ sym c.part_fits.ensures
      ∙ c.if-not-part_fits.false

  said : Some c.in_ok-admission.admission ≡ result_ok c.check.result
  said = sym c.in_ok-admission.was ∙ c.ok.ensures.value

  admits : c.in_ok-admission.admission.parts.words.now ≡ admission_of ws
  admits = value_of (λ (a : Admission). a.parts.words.now ≡ c.split_at.result.0.now) c.check.result c.in_ok-admission.admission said c.check.ensures.read ∙ front

  is : plain_entry c.put.new.e ≡ entry_in ws
  is = put-is local ws c.in_ok-history.history told c.entry-e.result c.put.new.e (rw admits at c.entry-e.ensures) c.put.ensures fits

  fit-marks : c.marks_fit.result ≡ marks_fit (entry_in ws).part local (entry_in ws).terms (entry_in ws).marks (entry_in ws).returned
  fit-marks = c.marks_fit.ensures ∙ ap (λ (e : plain.Entry). marks_fit e.part local e.terms e.marks e.returned) is

  passed : 0 ≡ words_refusal (admission_of ws)
  passed = passed_by c.check.result _ c.check.ensures.refused c.in_ok-admission.admission said ∙ ap words_refusal front

  handed : (b : Bool) → c.marks_fit.result ≡ b → MatchOption (then_some b c.put.new.e) (entry_sound local ws ≡ false) (λ e. (entry_sound local ws ≡ true) × Means (entry_in ws) e)
  handed true h = (sound local ws passed (sym (ap history_sound back) ∙ c.in_ok-history.ensures.0) fits (sym fit-marks ∙ h), record { plain = is })
  handed false h = not_marked local ws (sym fit-marks ∙ h)

pub returns : goal.returns
returns c = rw c.then_some.ensures (handed c c.marks_fit.result refl)

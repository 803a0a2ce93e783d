-- The reader of snapshots accepts the writings of the ledgers that calls reach, these alone, and each for its ledger alone.
-- Assumes nothing.
use Prim.Native.Nat.{ℕ, suc}
use mathlib.Core.Path.{◌≡◌, refl, sym, ap, ◌∙◌, subst}
use mathlib.Core.List.{List, []}
use Rattle.rules.specs.Plain.{Plain}
use Rattle.rules.specs.Outcome.{Outcome, done}
use Rattle.rules.specs.Calls.{making, not_made}
use Rattle.rules.specs.Good.{Good}
use Rattle.rules.specs.Snapshot.{snapshot_words, ledger_in, snapshot_refusal, restoring}
use Rattle.rules.specs.Reached.{Reached}
use Rattle.rules.specs.Restored.{Accepts, Exact}
use Rattle.rules.proofs.Kept.{unless-refused, unless-none, unless_some}
use Rattle.rules.proofs.Reached.{good_reached, reached_good}
use Rattle.rules.proofs.SnapshotWhole.{written_read}
use Rattle.rules.proofs.SnapshotBack.{read_written}
use Rattle.rules.proofs.SnapshotWords.{snapshot-few, snapshot_is_words}

-- what restoring says, by the table's number
refused-by : (ws : List ℕ) → (restoring ws).refused ≡ snapshot_refusal ws
unfolding restoring
refused-by ws = unless-refused (snapshot_refusal ws) not_made (done [] (ledger_in ws)) refl

left-by : (ws : List ℕ) → snapshot_refusal ws ≡ 0 → (restoring ws).ledger ≡ ledger_in ws
unfolding restoring
left-by ws e = ap (λ (o : Outcome). o.ledger) (unless-none (snapshot_refusal ws) not_made (done [] (ledger_in ws)) e)

module _ (ws : List ℕ) (a : Accepts ws) where
  none : snapshot_refusal ws ≡ 0
  none = sym (refused-by ws) ∙ a.1

  restored-good : Good (restoring ws).ledger
  restored-good = rw (left-by ws none) (read_written ws a.0 none).0

  back : snapshot_words (restoring ws).ledger ≡ ws
  back = ap snapshot_words (left-by ws none) ∙ (read_written ws a.0 none).1

-- what is written of a ledger that calls reach
module _ (p : Plain) (r : Reached p) where
  accepted : Accepts (snapshot_words p)
  accepted = (snapshot_is_words p (reached_good p r), refused-by (snapshot_words p) ∙ (written_read p (reached_good p r)).0)

  restored : (restoring (snapshot_words p)).ledger ≡ p
  restored =
      let w = written_read p (reached_good p r) in
      left-by (snapshot_words p) w.0 ∙ w.1

made_anew : (ws : List ℕ) (n : ℕ) → (restoring ws).refused ≡ suc n → (restoring ws).ledger ≡ (making 0 0 0 0).ledger
unfolding restoring making
made_anew ws n e = unless_some (snapshot_refusal ws) n not_made (done [] (ledger_in ws)) (sym (refused-by ws) ∙ e)

pub exact : Exact
exact =
    record {
      accepts = λ ws a. record { ledger = (restoring ws).ledger; reached = good_reached (restoring ws).ledger (restored-good ws a); words = back ws a };
      writes = λ ws w. subst Accepts w.words (accepted w.ledger w.reached);
      read_back = restored;
      written_back = back;
      lists_differ = λ ws vs a b e. sym (back ws a) ∙ ap snapshot_words e ∙ back vs b;
      ledgers_differ = λ p q r s e. sym (restored p r) ∙ ap (λ ws. (restoring ws).ledger) e ∙ restored q s;
      refused = made_anew;
      room = λ p r. snapshot-few p (reached_good p r);
    }

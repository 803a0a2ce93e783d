-- What the reader of snapshots accepts: the writings of the ledgers that calls reach, these alone, and each for its ledger alone.
use Rattle.std.specs.Prelude.{ℕ, suc, ◌≤◌, ◌≡◌, List, length}
use Rattle.lists.specs.Lists.{Every}
use Rattle.rules.specs.Numbers.{is_word}
use Rattle.rules.specs.Plain.{Plain}
use Rattle.rules.specs.Widths.{snapshot_room}
use Rattle.rules.specs.Calls.{making}
use Rattle.rules.specs.Good.{Holds}
use Rattle.rules.specs.Snapshot.{snapshot_words, restoring}
use Rattle.rules.specs.Reached.{Reached}

-- words that the reader accepts
abbrev pub Accepts : List ℕ → Type 0
Accepts ws = Every (Holds is_word) ws × ((restoring ws).refused ≡ 0)

-- words that are written of a ledger that calls reach
pub record WrittenOf (ws : List ℕ) : Type 0 where
  pub ledger : Plain
  pub reached : Reached ledger
  pub words : snapshot_words ledger ≡ ws

pub record Exact : Type 0 where
  -- it accepts exactly what is written of a ledger that calls reach
  pub accepts : (ws : List ℕ) → Accepts ws → WrittenOf ws
  pub writes : (ws : List ℕ) → WrittenOf ws → Accepts ws
  -- a ledger that calls reach is read back, and what is read would be written as it stands
  pub read_back : (p : Plain) → Reached p → (restoring (snapshot_words p)).ledger ≡ p
  pub written_back : (ws : List ℕ) → Accepts ws → snapshot_words (restoring ws).ledger ≡ ws
  -- no two lists are read as one ledger, and no two ledgers are written alike
  pub lists_differ : (ws vs : List ℕ) → Accepts ws → Accepts vs → (restoring ws).ledger ≡ (restoring vs).ledger → ws ≡ vs
  pub ledgers_differ : (p q : Plain) → Reached p → Reached q → snapshot_words p ≡ snapshot_words q → p ≡ q
  -- what is refused hands back the ledger of a refused making
  pub refused : (ws : List ℕ) (n : ℕ) → (restoring ws).refused ≡ suc n → (restoring ws).ledger ≡ (making 0 0 0 0).ledger
  -- so many words hold every snapshot
  pub room : (p : Plain) → Reached p → length (snapshot_words p) ≤ snapshot_room

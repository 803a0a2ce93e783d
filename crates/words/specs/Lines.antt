-- The lines of a finalization as they are read.
use Rattle.std.specs.Prelude.{ℕ, ◌+◌, ◌≡◌, true, ◌&&◌, List, ◌∷◌, leb, drop}
use Rattle.rules.specs.Words as rules
use Rattle.rules.specs.Words.{finalization_lines}
use Rattle.types.specs.Transactions.{number_of}
use Rattle.words.specs.declared.finalization.Line.{Line}

abbrev pub plain_line : Line → rules.Line
plain_line l = record { transaction = number_of l.tx; decision = l.code }

-- the i-th line: what the words say from it on begins with it, and its code is one of the three
pub record IsLine (ws : List ℕ) (i : ℕ) (l : Line) : Type 0 where
  pub next : drop i (finalization_lines ws) ≡ plain_line l ∷ drop (i + 1) (finalization_lines ws)
  pub coded : leb 1 l.code && leb l.code 3 ≡ true

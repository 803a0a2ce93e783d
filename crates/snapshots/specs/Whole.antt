-- A snapshot in a list that has room for every one.
use Rattle.std.specs.Prelude.{ℕ, ◌+◌, ◌*◌, ◌≤◌, ◌≡◌, List, length, take}
use Rattle.rules.specs.Widths.{snapshot_room}
use Rattle.rules.specs.Snapshot.{snapshot_words}
use Rattle.ledger.specs.declared.Ledger.{Ledger}
use Rattle.ledger.specs.Contents.{contents}

-- the first n words are the ledger's snapshot; its entries begin behind seven words, two for each count and the length of each
pub record Whole (l : Ledger) (words : List ℕ) (n : ℕ) : Type 0 where
  pub few : n ≤ snapshot_room
  pub count : n ≡ length (snapshot_words (contents l))
  pub many : 7 + 2 * l.counts.front.len + l.roster.len ≤ n
  pub snapshot : take n words ≡ snapshot_words (contents l)

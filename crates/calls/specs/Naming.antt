-- What naming an entry under the records that it issued asks of the index and does to it, and what putting an entry in asks of the ledger.
use Rattle.std.specs.Prelude.{ℕ, ◌≤◌, ◌≡◌, true, false, List, length}
use Rattle.lists.specs.Lists.{has, include, include_all}
use Rattle.rules.specs.Numbers.{is_word}
use Rattle.rules.specs.Plain.{transaction_of, with_entries}
use Rattle.rules.specs.Good.{Good}
use Rattle.rules.specs.Index.{Pair, pair_key, pairs_of}
use Rattle.entry.specs.declared.Entry.{Entry}
use Rattle.entry.specs.Entry.{plain_entry}
use Rattle.store.specs.declared.issuers.Issuers.{Issuers}
use Rattle.store.specs.Issuers.{pairs_in}
use Rattle.types.specs.Transactions.{number_of}
use Rattle.ledger.specs.declared.Ledger.{Ledger}
use Rattle.ledger.specs.Contents.{contents, Held}

-- the pairs that stand, and the entry's own put in
abbrev pub with_pairs : ℕ → Entry → Issuers → List Pair
with_pairs local e x = include_all pair_key (pairs_of local (plain_entry e)) (pairs_in x)

-- there is room for them
abbrev pub Nameable : Issuers → Entry → ℕ → Type 0
Nameable x e local = length (with_pairs local e x) ≤ 384

-- the entry's transaction, a word, is not owed, and the ledger is good with it
pub record Enters (e : Entry) (l : Ledger) : Type 0 where
  pub held : Held l
  pub word : is_word (number_of e.tx) ≡ true
  pub unknown : has transaction_of (number_of e.tx) (contents l).entries ≡ false
  pub good : Good (with_entries (include transaction_of (plain_entry e) (contents l).entries) (contents l))

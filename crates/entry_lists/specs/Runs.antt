-- Items written one behind the other, so many words each.
use Rattle.std.specs.Prelude.{ℕ, ◌+◌, ◌*◌, ◌≤◌, ◌≡◌, ◌++◌, Bool, true, false, Option, List, length}
use Rattle.std.specs.Option.{MatchOption}
use Rattle.std.proofs.lemmas.List.Edits.{sets}
use Rattle.lists.specs.Lists.{keep, concat_map}
use Rattle.rules.specs.Plain as plain
use Rattle.rules.specs.Plain.{transaction_of}
use Rattle.rules.specs.Words.{transaction_words}
use Rattle.rules.specs.Good.{GoodEntry}
use Rattle.entry.specs.declared.Entry.{Entry}
use Rattle.entry.specs.Entry.{plain_entry}
use Rattle.ledger.specs.declared.Ledger.{Ledger}
use Rattle.ledger.specs.Contents.{contents}

-- behind the first from items, of k words each, these stand too; they are then so many
pub record Ran {A : Type 0} (words : A → List ℕ) (k : ℕ) (items : List A) (before : List ℕ) (from : ℕ) (after : List ℕ) (to : ℕ) : Type 0 where
  pub wrote : after ≡ sets before (k * from) (concat_map words items)
  pub end : to ≡ from + length items
  pub room : k * to ≤ length before

-- an item of an entry: the words of its transaction, and then a row of others
abbrev pub item_words : (plain.Entry → List ℕ) → plain.Entry → List ℕ
item_words row e = transaction_words (transaction_of e) ++ row e

-- what is said of each entry that is good for a shard is its row, if it passes a test
abbrev pub Picks : {R : Type 0} → (R → List ℕ) → (Entry → Option R → Type 0) → ℕ → (plain.Entry → Bool) → (plain.Entry → List ℕ) → Type 0
Picks {R} items Says local p row =
    (e : Entry) (r : Option R) → GoodEntry local (plain_entry e) → Says e r →
    MatchOption r (p (plain_entry e) ≡ false) (λ x. (p (plain_entry e) ≡ true) × (items x ≡ row (plain_entry e)))

-- by whatever test and row those answers pick, the items of the entries that pass are written from the front on
abbrev pub Gathers : {R : Type 0} → (R → List ℕ) → (Entry → Option R → Type 0) → Ledger → ℕ → (before after : List ℕ) → ℕ → Type 0
Gathers items Says l size before after to =
    (p : plain.Entry → Bool) (row : plain.Entry → List ℕ) → ((x : plain.Entry) → length (item_words row x) ≡ size) → Picks items Says l.local.0 p row →
    Ran (item_words row) size (keep p (contents l).entries) before 0 after to

-- What items of a kind, done one after the other in a ledger that is lent, say and leave.
use Rattle.std.specs.Prelude.{ℕ, ◌≡◌, List, [], Result, IfOk}
use Rattle.rules.specs.Plain.{Plain}
use Rattle.rules.specs.Words.{Item}
use Rattle.rules.specs.Calls.{with_item, items_refusal, answered_by, after_bundle}
use Rattle.types.specs.declared.refusal.Refusal.{Refusal}
use Rattle.types.specs.Refusals.{refused_in}
use Rattle.lists.specs.Lists.{through}
use Rattle.ledger.specs.declared.Ledger.{Ledger}
use Rattle.ledger.specs.Contents.{contents, Held}
use Rattle.ledger.specs.Meets.{Meets, saying}

-- none was refused: what they answered in all, and the ledger after the last
pub record AllDone (kind : ℕ) (is : List Item) (p : Plain) (l : Ledger) (count : ℕ) : Type 0 where
  pub held : Held l
  pub holds : contents l ≡ through with_item is p
  pub counted : count ≡ answered_by kind is p

-- the first that is refused gives its number; what the ledger is then, nobody reads
pub record Did (kind : ℕ) (is : List Item) (p : Plain) (said : Result ℕ Refusal) (l : Ledger) : Type 0 where
  pub refused : refused_in said ≡ items_refusal is p
  pub done : IfOk said (AllDone kind is p l)

-- the same of all items of a bundle, which may be refused for its words: an outcome is met, but for the ledger after a refusal
pub record AllItems (ws : List ℕ) (p : Plain) (said : Result (List ℕ) Refusal) (l : Ledger) : Type 0 where
  pub refused : refused_in said ≡ (after_bundle ws p).refused
  pub done : IfOk said (λ ns. Meets (after_bundle ws p) [] [] (saying said l))

-- The ledgers that calls reach, and what a bundle does in terms of its calls.
use Rattle.std.specs.Prelude.{ℕ, ◌≡◌, cond, List, [], ◌∷◌, ◌++◌, map}
use Rattle.lists.specs.Lists.{Every, tally, total, self}
use Rattle.rules.specs.Plain.{Plain}
use Rattle.rules.specs.Words.{Item, is_kind, bundle_items}
use Rattle.rules.specs.Calls.{Call, making, step, run, after_bundle, item_call}
use Rattle.rules.specs.Good.{OfWords}

-- a list of calls, each of words, that leads from one ledger to another
pub record Leads (p q : Plain) : Type 0 where
  pub calls : List Call
  pub words : Every OfWords calls
  pub leads : run calls p ≡ q

-- from a making with its own local and spans
abbrev pub Reached : Plain → Type 0
Reached p = Leads (making p.local p.validity p.core_span p.leg_span).ledger p

-- calls of a list, none of which is refused
abbrev pub Accepted : List Call → Plain → Type 0
Accepted [] p = Unit {0}
Accepted (c ∷ cs) p = ((step c p).refused ≡ 0) × Accepted cs (step c p).ledger

-- what the calls of a kind answer, in all, made one after the other
abbrev pub calls_answer : ℕ → List Item → Plain → ℕ
calls_answer k is p =
    tally (λ i q. (step (item_call i) q).ledger) (λ i q. cond (is_kind k i) (total self (step (item_call i) q).answers) 0) is p

-- A bundle that is not refused: none of its calls is, one by one in their order, it leaves what they leave, and its three answers are theirs.
pub record AsItems (ws : List ℕ) (p : Plain) : Type 0 where
  pub accepted : Accepted (map item_call (bundle_items ws)) p
  pub left : (after_bundle ws p).ledger ≡ run (map item_call (bundle_items ws)) p
  pub answers : (after_bundle ws p).answers ≡ calls_answer 4 (bundle_items ws) p ∷ calls_answer 2 (bundle_items ws) p ∷ calls_answer 3 (bundle_items ws) p ∷ []

-- The first of the items that is refused: those before it are not, and it is by n, on the ledger that they leave.
pub record FirstRefused (n : ℕ) (is : List Item) (p : Plain) : Type 0 where
  pub before : List Item
  pub item : Item
  pub behind : List Item
  pub listed : is ≡ before ++ (item ∷ behind)
  pub accepted : Accepted (map item_call before) p
  pub refused : (step (item_call item) (run (map item_call before) p)).refused ≡ n

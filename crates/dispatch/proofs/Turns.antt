-- A call made several times: where it stands after some of its turns, and that one more goes on from there.
-- Assumes nothing.
use Prim.Native.Nat.{ℕ, zero, suc, ◌+◌, ◌≤◌, ◌<◌}
use mathlib.Core.Path.{◌≡◌, refl, ap, ap₂, ◌∙◌}
use mathlib.Core.Bool.{cond}
use mathlib.Core.List.{List, [], ◌∷◌, map}
use native.Mathlib.Omega.{arith}
use lib.Dec.{ltb}
use borrow.Author.Tests.{lt-ltb}
use lib.ListN.{length, get_or}
use Rattle.rules.specs.Calls.{Call, step}
use Rattle.ledger.specs.declared.Ledger.{Ledger}
use Rattle.ledger.specs.declared.Done.{Done}
use Rattle.ledger.specs.Contents.{contents, Held}
use Rattle.ledger.specs.Meets.{Meets, says}
use Rattle.dispatch.specs.Changing.{after, list_before, Turned}

-- lists of one length, filled with one word, are one
pub alike : (x : ℕ) (a b : List ℕ) → length a ≡ length b → map (λ w. x) a ≡ map (λ w. x) b
alike x [] [] e = refl
alike x [] (w ∷ b) e = absurd (omega (arith, e))
alike x (w ∷ a) [] e = absurd (omega (arith, e))
alike x (w ∷ a) (v ∷ b) e = ap (λ l. x ∷ l) (alike x a b (omega (arith, e)))

-- a list that has one word in every place
pub filled : (x : ℕ) (a b : List ℕ) → length a ≡ length b → ((k : ℕ) → k < length b → get_or a k 0 ≡ x) → a ≡ map (λ w. x) b
filled x [] [] e f = refl
filled x [] (w ∷ b) e f = absurd (omega (arith, e))
filled x (w ∷ a) [] e f = absurd (omega (arith, e))
filled x (w ∷ a) (v ∷ b) e f = ap₂ (λ y l. y ∷ l) (f 0 (omega arith)) (filled x a b (omega (arith, e)) (λ k h. f (suc k) (omega (arith, h))))

-- where the turns stand after k of them
pub record Going (blank : ℕ) (c : Call) (start : Ledger) (lent list : List ℕ) (r : Done) (k : ℕ) : Type 0 where
  pub same : length list ≡ length lent
  pub held : Held r.ledger
  pub holds : contents r.ledger ≡ after k c (contents start)
  pub said : Turned k blank c start lent list r

-- the list as the next turn gets it
before : (k blank : ℕ) (c : Call) (start : Ledger) (lent list next : List ℕ) (r : Done) →
    Turned k blank c start lent list r → length list ≡ length lent → next ≡ cond (ltb 0 k) (map (λ w. blank) list) list →
    next ≡ list_before k blank lent
before zero blank c start lent list next r t s n = n ∙ t.1
before (suc k) blank c start lent list next r t s n = n ∙ rw (lt-ltb 0 (suc k) (omega arith)) (alike blank list lent s)

pub going_on : (blank : ℕ) (c : Call) (start : Ledger) (lent list next later : List ℕ) (r s : Done) (k : ℕ) →
    Going blank c start lent list r k → next ≡ cond (ltb 0 k) (map (λ w. blank) list) list →
    Meets (step c (contents r.ledger)) next later s → length later ≡ length lent → Going blank c start lent later s (k + 1)
going_on blank c start lent list next later r s k g n m same =
    let one : k + 1 ≡ suc k = omega arith in
    let made = rw (g.holds, before k blank c start lent list next r g.said g.same n) at m in
    record {
      same = same;
      held = m.held;
      holds = rw one made.ledger;
      said = rw one made;
    }

-- before the first turn
pub begun : (blank : ℕ) (c : Call) (start : Ledger) (lent : List ℕ) → Held start → Going blank c start lent lent (says 0 start) 0
begun blank c start lent h = record { same = refl; held = h; holds = refl; said = (refl, refl) }

-- after the last
pub ended : (turns blank : ℕ) (c : Call) (start : Ledger) (lent list : List ℕ) (r : Done) (k : ℕ) →
    Going blank c start lent list r k → turns ≤ k → k ≤ turns → Turned turns blank c start lent list r
ended turns blank c start lent list r k g h b =
    let all : k ≡ turns = omega arith in
    rw all at g.said

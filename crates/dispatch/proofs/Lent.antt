-- A call or a reading that takes no list, beside a list that is lent: the list stays as it is.
-- Assumes nothing.
use Prim.Native.Nat.{ℕ}
use mathlib.Core.Path.{◌≡◌, refl, sym}
use mathlib.Core.List.{List, [], ◌∷◌, append-nil}
use Rattle.rules.specs.Outcome.{Outcome}
use Rattle.ledger.specs.declared.Done.{Done}
use Rattle.ledger.specs.Meets.{Meets, written}
use Rattle.std.specs.Prelude.{Result}
use Rattle.types.specs.declared.refusal.Refusal.{Refusal}
use Rattle.readings.specs.Reads.{Reads}

-- what is written of no words into no list is nothing
nothing : (ws : List ℕ) → [] ≡ written ws [] → ws ≡ []
nothing [] e = refl
nothing (w ∷ ws) e = simp append-nil at (sym e)

pub beside : (o : Outcome) (r : Done) (lent : List ℕ) → Meets o [] [] r → Meets o lent lent r
beside o r lent m =
    record {
      refused = m.refused;
      answers = m.answers;
      ledger = m.ledger;
      wrote = rw (nothing o.words m.wrote) refl;
      held = m.held;
    }

pub beside_reading : (o : Outcome) (r : Result ℕ Refusal) (lent : List ℕ) → Reads o [] [] r → Reads o lent lent r
beside_reading o r lent m =
    record { refused = m.refused; answer = m.answer; wrote = rw (nothing o.words m.wrote) refl }

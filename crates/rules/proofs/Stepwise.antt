-- Items that change the entries alone: going through them changes the entries of the plain ledger and nothing else.
-- Assumes nothing.
use Prim.Native.Nat.{ℕ, ◌+◌}
use mathlib.Core.Path.{◌≡◌, refl, ap}
use mathlib.Core.List.{List, [], ◌∷◌}
use Rattle.lists.specs.Lists.{through, tally}
use Rattle.rules.specs.Plain.{Entry, Plain, with_entries}

-- what g makes of the entries, and what n counts on them, given the local shard
abbrev pub on_entries : {A : Type 0} → (ℕ → A → List Entry → List Entry) → A → Plain → Plain
on_entries g x p = with_entries (g p.local x p.entries) p

abbrev pub of_entries : {A : Type 0} → (ℕ → A → List Entry → ℕ) → A → Plain → ℕ
of_entries n x p = n p.local x p.entries

module _ {A : Type 0} (g : ℕ → A → List Entry → List Entry) where
  pub through-entries : (l : List A) (p : Plain) → through (on_entries g) l p ≡ with_entries (through (g p.local) l p.entries) p
  through-entries [] p = refl
  through-entries (x ∷ l) p = through-entries l (on_entries g x p)

  pub tally-entries : (n : ℕ → A → List Entry → ℕ) (l : List A) (p : Plain) → tally (on_entries g) (of_entries n) l p ≡ tally (g p.local) (n p.local) l p.entries
  tally-entries n [] p = refl
  tally-entries n (x ∷ l) p = ap (λ m. of_entries n x p + m) (tally-entries n l (on_entries g x p))

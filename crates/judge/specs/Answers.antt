-- What rules 3 and 4 ask of the departures, and what keeps a departure.
use Rattle.std.specs.Prelude.{ℕ, ◌≡◌, Bool, true, List, ltb}
use Rattle.lists.specs.Lists.{keep, any}
use Rattle.rules.specs.Numbers.{is_shard}
use Rattle.rules.specs.Plain.{Entry, Departure, remote}
use Rattle.rules.specs.Over.{over, departure_over}
use Rattle.rules.specs.Prune.{readable, is_of_departed_by, answerable}
use Rattle.judge.specs.declared.views.Seen.{Seen}
use Rattle.judge.specs.declared.views.View.{View}
use Rattle.judge.specs.View.{zeros_of, Shows}

-- an entry with these routes and this anchor
pub record Asks (rs : List ℕ) (a : ℕ) (e : Entry) : Type 0 where
  pub routes : e.terms.routes ≡ rs
  pub anchor : e.terms.anchor ≡ a

-- rule 3: the naming shard has a readable departure
abbrev pub named_readable : ℕ → List Departure → Entry → Bool
named_readable now ds e = any (readable now) (keep (is_of_departed_by e) ds)

-- rule 4: over some remote route there is no departure, or the one that counts is readable
abbrev pub is_answerable : ℕ → List Departure → ℕ → Entry → Bool
is_answerable now ds local e = any (λ r. answerable now (departure_over ds e r)) (remote local e.terms)

-- a departure is over some remote route
abbrev pub covers_some : ℕ → Departure → Entry → Bool
covers_some local d e = any (λ r. over e r d) (remote local e.terms)

-- What the functions over a view say of every ledger whose departures the view shows.

-- of an entry that a shard's record names, whether that shard has a readable departure
abbrev pub SaysNamed : View → ℕ → Bool → Type 0
SaysNamed v shard r =
    (ds : List Departure) (now : ℕ) (e : Entry) → Shows ds now v →
    e.departed_by ≡ shard → ltb 0 e.departed_by ≡ true → r ≡ named_readable now ds e

-- of an entry with these routes and this anchor, whether it is answerable
abbrev pub SaysAnswerable : View → List ℕ → ℕ → ℕ → Bool → Type 0
SaysAnswerable v routes anchor local r = (ds : List Departure) (now : ℕ) (e : Entry) → Shows ds now v → Asks routes anchor e → r ≡ is_answerable now ds local e

-- of such an entry, whether a departure with these numbers is over a remote route
abbrev pub SaysCovered : Seen → List ℕ → ℕ → ℕ → Bool → Type 0
SaysCovered x routes anchor local r =
    (d : Departure) (e : Entry) → is_shard d.shard ≡ true → x.shard.0 ≡ d.shard → x.zeros ≡ zeros_of d → x.cut.0 ≡ d.cut → Asks routes anchor e → r ≡ covers_some local d e

-- The table of calls: a row for each, and what it says of a code and of a name.
-- Assumes nothing.
use Rattle.std.specs.Prelude.{ℕ, ◌≡◌, Bool, true, List, [], ◌∷◌, eqb, leb, map, get_or, length, position, Option, Some, None}
use Rattle.std.specs.Option.{is_some}
use Prim.Native.String.{String}
use Rattle.script.specs.declared.calls.Count.{Count}
use Rattle.script.specs.declared.calls.Count.TheVariants.{Just, From}
use Rattle.script.specs.Texts.{bytes, same_text}

-- a call: its name, how many numbers it takes, and how many words an item of its list has (none where it takes no list)
pub record Call : Type 0 where
  pub name : List ℕ
  pub count : Count
  pub item : Option ℕ

abbrev pub called : String → Count → Option ℕ → Call
called name count item = record { name = bytes name; count = count; item = item }

-- the calls, in the order of their codes
abbrev pub calls : List Call
calls =
    called "repeat" (Just 1) None
    ∷ called "new" (Just 4) None
    ∷ called "restore" (From 0) None
    ∷ called "register_committed" (From 0) None
    ∷ called "record_absence" (Just 3) None
    ∷ called "certify" (Just 2) None
    ∷ called "record_abandonment" (From 0) None
    ∷ called "settled" (Just 2) None
    ∷ called "returned" (Just 2) None
    ∷ called "closes" (Just 0) (Some 2)
    ∷ called "fated" (Just 1) None
    ∷ called "release_resolved" (From 0) None
    ∷ called "forget" (Just 1) None
    ∷ called "record_terminal" (Just 4) None
    ∷ called "stamp_terminal" (Just 2) None
    ∷ called "prune" (Just 1) (Some 3)
    ∷ called "bundle" (From 0) None
    ∷ called "questions" (Just 0) (Some 5)
    ∷ called "open_at" (Just 6) None
    ∷ called "answers" (Just 7) None
    ∷ called "past_deadline" (Just 1) (Some 5)
    ∷ called "issuers_of" (Just 1) (Some 2)
    ∷ called "claimants" (Just 2) (Some 1)
    ∷ called "counterparts" (Just 2) (Some 1)
    ∷ called "unstamped_departures" (Just 0) (Some 1)
    ∷ called "reach" (Just 1) (Some 1)
    ∷ called "abandonment_answers" (Just 1) None
    ∷ called "is_covered" (Just 1) None
    ∷ called "departed" (Just 1) None
    ∷ called "executed" (Just 1) None
    ∷ called "reaches_beyond" (Just 1) None
    ∷ called "issued_by" (Just 2) None
    ∷ called "local" (Just 0) None
    ∷ called "rebuilt" (Just 0) None
    ∷ called "snapshot" (Just 0) (Some 1)
    ∷ called "rebuilt_by_shard" (Just 0) (Some 2)
    ∷ called "leaf_for_route" (From 1) None
    ∷ called "leaves" (From 0) (Some 1)
    ∷ called "counterparts_by_tree" (From 1) (Some 1)
    ∷ called "dump" (Just 0) None
    ∷ []

-- how many codes there are
abbrev pub codes : ℕ
codes = length calls

abbrev pub any_count : Count
any_count = From 0

unfoldable pub count_of : ℕ → Count
count_of code = get_or (map (λ call. call.count) calls) code any_count

unfoldable pub takes_list : ℕ → Bool
takes_list code = is_some (get_or (map (λ call. call.item) calls) code None)

-- so many numbers are what a call takes: just its own, or its own and any behind them
abbrev pub fits : Count → ℕ → Bool
fits (Just n) count = eqb count n
fits (From n) count = leb n count

pub record Takes (code count : ℕ) : Type 0 where
  pub own : fits (count_of code) count ≡ true

abbrev pub names : List (List ℕ)
names = map (λ call. call.name) calls

-- a name's place among them
unfoldable pub code_of : List ℕ → Option ℕ
code_of n = position (λ w. same_text n w) names

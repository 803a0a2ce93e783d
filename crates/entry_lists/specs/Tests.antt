-- The tests of an entry by the numbers that they read, and what an entry that asks has to ask.
use Rattle.std.specs.Prelude.{ℕ, ◌+◌, Bool, not, ◌&&◌, ◌||◌, List, map, eqb, ltb, leb}
use Rattle.lists.specs.Lists.{keep, any}
use Rattle.rules.specs.Plain.{Edge, Entry, is_core, is_settling, is_covered, edges_from}
use Rattle.rules.specs.Readings.{Question, ask}

-- an entry that asks: an uncovered core
abbrev pub is_asking : Entry → Bool
is_asking e = is_core e.part && not (is_covered e)

-- what it asks, of each core shard but local
abbrev pub asks_of : ℕ → Entry → List Question
asks_of local e = map (ask e) (keep (λ s. not (eqb s local)) e.terms.core_shards)

-- past deadline, by V and the clock
abbrev pub is_past : ℕ → ℕ → Entry → Bool
is_past validity now e =
    not (is_settling e.part) && leb e.terms.at now && (is_covered e || ltb e.certificate 2 || ltb now (e.terms.at + validity))

-- an edge from local holds that very id
abbrev pub holds_id : ℕ → ℕ → Entry → Bool
holds_id local id e = any (λ (g : Edge). eqb g.id id) (edges_from local e.terms)

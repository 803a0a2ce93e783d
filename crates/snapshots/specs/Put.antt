-- Words put down at a place, and what an entry's are.
use Rattle.std.specs.Prelude.{ℕ, ◌+◌, ◌*◌, ◌≡◌, List, [], ◌∷◌, ◌++◌, map, length, take}
use Rattle.std.proofs.lemmas.List.Edits.{sets}
use Rattle.lists.specs.Lists.{total, self}
use Rattle.rules.specs.Plain as plain
use Rattle.rules.specs.Plain.{Edge, Plain}
use Rattle.rules.specs.Words.{transaction_words}
use Rattle.rules.specs.Snapshot.{decomposed_word, entry_words}
use Rattle.entry.specs.declared.Entry.{Entry}

-- a row stands from a place on, and all else is as it was
pub record Put (row before : List ℕ) (at : ℕ) (after : List ℕ) (to : ℕ) : Type 0 where
  pub wrote : after ≡ sets before at row
  pub end : to ≡ at + length row
  pub size : length after ≡ length before

-- what comes ahead of an entry's lists
abbrev pub head_words : plain.Entry → List ℕ
head_words e =
    length e.terms.routes
    ∷ length e.terms.core_shards
    ∷ length e.terms.edges
    ∷ (transaction_words e.terms.transaction
    ++ (e.terms.at ∷ e.terms.end ∷ e.terms.anchor ∷ e.terms.charge ∷ decomposed_word e.part ∷ []))

-- how many words an entry's edges, its history and all of it have
abbrev pub edges_size : Entry → ℕ
edges_size e = 4 * e.edges_len + total self (take e.edges_len e.sizes)

abbrev pub history_size : Entry → ℕ
history_size e = 6 + 2 * e.absences_len + e.marks_len

abbrev pub entry_size : Entry → ℕ
entry_size e = 9 + e.routes_len + e.core_len + edges_size e + history_size e

-- each entry's length
abbrev pub entry_lengths : List plain.Entry → List ℕ
entry_lengths es = map (λ e. length (entry_words e)) es

-- what comes ahead of the counts, and what comes ahead of the lengths
abbrev pub frame_words : Plain → List ℕ
frame_words p = p.local ∷ p.validity ∷ p.core_span ∷ p.leg_span ∷ length p.counts ∷ []

abbrev pub size_words : Plain → List ℕ
size_words p = length p.entries ∷ length p.departures ∷ []

-- Entries as they are put together from words: figures from a place on, routes, and the terms of an admission put in.
use Rattle.std.specs.Prelude.{ℕ, ◌+◌, ◌*◌, Bool, cond, List, [], ◌∷◌, eqb, drop}
use Rattle.lists.specs.Lists.{all_of, has, self, part}
use Rattle.rules.specs.Numbers.{is_time}
use Rattle.rules.specs.Plain.{Part, whole, leg, core, Terms, Entry}
use Rattle.rules.specs.Words.{word, decomposed, core_in, group_terms, groups_at, group_size}
use Rattle.rules.specs.Entries.{entry}

-- transaction, at, end, anchor and charge stand from a place on
abbrev pub bare_entry : Part → ℕ → List ℕ → List ℕ → ℕ → ℕ → Entry
bare_entry part at ws routes certificate departed_by = entry part (group_terms (drop at ws) routes) certificate departed_by

abbrev pub with_terms : Terms → Entry → Entry
with_terms t e =
    record {
      terms = t;
      part = e.part;
      certificate = e.certificate;
      departed_by = e.departed_by;
      absences = e.absences;
      marks = e.marks;
      returned = e.returned;
    }

-- the part of an admitted entry
abbrev pub part_in : ℕ → List ℕ → Part
part_in local ws = cond (eqb (decomposed ws) 0) whole (cond (has self local (core_in ws)) core leg)

-- the times of the figures from a place on
abbrev pub figures_timed : ℕ → List ℕ → Bool
figures_timed at ws = all_of (is_time (word (at + 1) ws) ∷ is_time (word (at + 2) ws) ∷ is_time (word (at + 3) ws) ∷ [])

-- the i-th group of a record: how many routes it has, and its terms, with the routes from a place on
abbrev pub reach_at : List ℕ → ℕ → ℕ
reach_at ws i = word (2 + i) ws

abbrev pub group_at : List ℕ → ℕ → ℕ → Terms
group_at ws i at = group_terms (drop (groups_at ws + group_size ws * i) ws) (part at (reach_at ws i) ws)

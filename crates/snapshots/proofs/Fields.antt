-- An entry's fields as the words that are written of them, and how many they are.
-- Assumes nothing.
use Prim.Native.Nat.{ℕ, ◌*◌, ◌≤◌, min}
use mathlib.Core.Path.{◌≡◌, refl, sym, ap, ◌∙◌}
use mathlib.Core.Bool.{Bool, true, false}
use mathlib.Core.List.{◌∷◌, ◌++◌}
use native.Mathlib.Omega.{arith}
use mir.Val as mir
use lib.ListN.{length, take, length-map, length-append}
use lib.Seq.{length-take-le}
use Rattle.lists.specs.Lists.{total, self, concat_map, cut}
use Rattle.lists.proofs.Cuts.{total-within, cut-length}
use Rattle.lists.proofs.Listing.{length-words}
use Rattle.lists.proofs.Joined.{sizes_again, joined_again}
use Rattle.rules.specs.Plain.{part_number}
use Rattle.rules.specs.Outcome.{yes_no}
use Rattle.rules.specs.Words.{edge_words}
use Rattle.rules.specs.Snapshot.{absence_words, decomposed_word, history_words, entry_words}
use Rattle.rules.proofs.Written.{id_of, to_of}
use Rattle.rules.proofs.SnapshotAdmission.{Unzipped, unzip}
use Rattle.entry.specs.declared.Part as declared
use Rattle.entry.specs.declared.Part.TheVariants.{Whole, Leg, Core, Remainder}
use Rattle.entry.specs.declared.Entry.{Entry}
use Rattle.entry.specs.Entry.{plain_part, plain_absence, absences_of, edges_of, plain_entry}
use Rattle.entry.proofs.Shape.{fits_of}
use Rattle.snapshots.specs.Put.{edges_size, entry_size}

module _ (e : Entry) where
  pub routes-length : length (take e.routes_len e.routes) ≡ e.routes_len
  routes-length = let f = fits_of e in length-take-le e.routes_len e.routes (omega (arith, f.routes_len, f.routes))

  pub core-length : length (take e.core_len e.core) ≡ e.core_len
  core-length = let f = fits_of e in length-take-le e.core_len e.core (omega (arith, f.core_len, f.core))

  pub absences-length : length (take e.absences_len e.absences) ≡ e.absences_len
  absences-length = let f = fits_of e in length-take-le e.absences_len e.absences (omega (arith, f.absences_len, f.absences))

  pub marks-length : length (take e.marks_len e.marks) ≡ e.marks_len
  marks-length = let f = fits_of e in length-take-le e.marks_len e.marks (omega (arith, f.marks_len, f.marks))

  pub absences-size : length (concat_map absence_words (absences_of e)) ≡ 2 * e.absences_len
  absences-size = length-words absence_words 2 (λ x. refl) (absences_of e) ∙ ap (λ n. 2 * n) (length-map (take e.absences_len e.absences) plain_absence ∙ absences-length)

  -- the edges
  abbrev n : ℕ
  n = e.edges_len

  one : length (take n e.ids) ≡ n
  one = let f = fits_of e in length-take-le n e.ids (omega (arith, f.edges_len, f.ids))

  two : length (take n e.froms) ≡ n
  two = let f = fits_of e in length-take-le n e.froms (omega (arith, f.edges_len, f.froms))

  three : length (take n e.kinds) ≡ n
  three = let f = fits_of e in length-take-le n e.kinds (omega (arith, f.edges_len, f.kinds))

  four : length (take n e.sizes) ≡ n
  four = let f = fits_of e in length-take-le n e.sizes (omega (arith, f.edges_len, f.sizes))

  room : total self (take n e.sizes) ≤ length e.to
  room = let f = fits_of e in omega (arith, total-within 4 (take n e.sizes) e.few, four, f.edges_len, f.to)

  apart : Unzipped (take n e.ids) (take n e.froms) (take n e.kinds) (cut (take n e.sizes) e.to) (edges_of e)
  apart = unzip (take n e.ids) (take n e.froms) (take n e.kinds) (cut (take n e.sizes) e.to) (two ∙ sym one) (three ∙ sym one) (cut-length (take n e.sizes) e.to ∙ four ∙ sym one)

  pub edges-are : take n e.ids ++ (take n e.froms ++ (take n e.kinds ++ (take n e.sizes ++ take (total self (take n e.sizes)) e.to))) ≡ edge_words (edges_of e)
  edges-are =
      let u = apart in
      let sized = sizes_again to_of (edges_of e) (take n e.sizes) e.to u.tos room in
      let joined = joined_again to_of (edges_of e) (take n e.sizes) e.to u.tos in
      rw (u.ids, u.froms, u.kinds, sized, joined)

  pub edges-count : length (edges_of e) ≡ n
  edges-count = sym (length-map (edges_of e) id_of) ∙ ap length apart.ids ∙ one

  pub edges-length : length (edge_words (edges_of e)) ≡ edges_size e
  edges-length =
      let to : length (take (total self (take n e.sizes)) e.to) ≡ total self (take n e.sizes) = length-take-le (total self (take n e.sizes)) e.to room in
      omega (
        arith,
        ap length edges-are,
        length-append (take n e.ids) (take n e.froms ++ (take n e.kinds ++ (take n e.sizes ++ take (total self (take n e.sizes)) e.to))),
        length-append (take n e.froms) (take n e.kinds ++ (take n e.sizes ++ take (total self (take n e.sizes)) e.to)),
        length-append (take n e.kinds) (take n e.sizes ++ take (total self (take n e.sizes)) e.to),
        length-append (take n e.sizes) (take (total self (take n e.sizes)) e.to),
        one,
        two,
        three,
        four,
        to,
      )

  -- the whole
  pub entry-length : length (entry_words (plain_entry e)) ≡ entry_size e
  unfolding entry_words plain_entry
  entry-length =
      let rs = take e.routes_len e.routes in
      let cs = take e.core_len e.core in
      let ms = take e.marks_len e.marks in
      omega (
        arith,
        length-append (rs ++ (cs ++ edge_words (edges_of e))) (history_words (plain_entry e)),
        length-append rs (cs ++ edge_words (edges_of e)),
        length-append cs (edge_words (edges_of e)),
        length-append (concat_map absence_words (absences_of e)) (length ms ∷ ms),
        routes-length,
        core-length,
        edges-length,
        absences-size,
        marks-length,
      )

pub decomposed-is : (p : declared.Part) → min (part_number (plain_part p)) 1 ≡ decomposed_word (plain_part p)
decomposed-is Whole = refl
decomposed-is Leg = refl
decomposed-is Core = refl
decomposed-is Remainder = refl

pub returned-is : (b : Bool) → mir.bool_byte b ≡ yes_no b
returned-is true = refl
returned-is false = refl

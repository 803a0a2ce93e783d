-- The words of an admission that the table lets pass, read and written again: they are the words that were read.
-- Assumes nothing.
use Prim.Native.Nat.{ℕ, ◌+◌, ◌*◌, ◌≤◌}
use mathlib.Core.Path.{◌≡◌, refl, sym, ap, ◌∙◌}
use mathlib.Core.Bool.{true}
use mathlib.Core.List.{List, [], ◌∷◌, ◌++◌, map}
use native.Mathlib.Omega.{arith}
use borrow.Author.Tests.{leb-true, eqb-true}
use lib.ListN.{length, drop, length-map, length-drop}
use lib.Seq.{take_all}
use Rattle.std.proofs.lemmas.List.{nil_from_length}
use Rattle.lists.specs.Lists.{total, concat_map, zip_by, self, part}
use Rattle.lists.proofs.Keep.{each_of}
use Rattle.lists.proofs.Cuts.{part_length}
use Rattle.lists.proofs.Zip.{length_cut}
use Rattle.lists.proofs.Joined.{part_then, word_then, sizes_again, joined_again}
use Rattle.rules.specs.Plain.{Edge}
use Rattle.rules.specs.Words.{word, edge, with, route_count, core_count, edge_count, decomposed, routes_at, edges_at, destinations_at, core_in, sizes, kinds, froms, destinations, edges_in, admission_terms, admission_tests, admission_formed, admission_words}
use Rattle.rules.proofs.Written.{id_of, from_of, kind_of, to_of, size_of}

-- the edges that are made of parallel arrays give these back
pub record Unzipped (is fs ks : List ℕ) (ts : List (List ℕ)) (gs : List Edge) : Type 0 where
  pub ids : map id_of gs ≡ is
  pub froms : map from_of gs ≡ fs
  pub kinds : map kind_of gs ≡ ks
  pub tos : map to_of gs ≡ ts

pub unzip : (is fs ks : List ℕ) (ts : List (List ℕ)) → length fs ≡ length is → length ks ≡ length is → length ts ≡ length is →
    Unzipped is fs ks ts (zip_by with (zip_by with (zip_by edge is fs) ks) ts)
unzip [] fs ks ts f k t = record { ids = refl; froms = sym (nil_from_length fs f); kinds = sym (nil_from_length ks k); tos = sym (nil_from_length ts t) }
unzip (i ∷ is) [] ks ts f k t = absurd (omega (arith, f))
unzip (i ∷ is) (x ∷ fs) [] ts f k t = absurd (omega (arith, k))
unzip (i ∷ is) (x ∷ fs) (y ∷ ks) [] f k t = absurd (omega (arith, t))
unzip (i ∷ is) (x ∷ fs) (y ∷ ks) (z ∷ ts) f k t =
    let u = unzip is fs ks ts (omega (arith, f)) (omega (arith, k)) (omega (arith, t)) in
    record { ids = ap (λ m. i ∷ m) u.ids; froms = ap (λ m. x ∷ m) u.froms; kinds = ap (λ m. y ∷ m) u.kinds; tos = ap (λ m. z ∷ m) u.tos }

module _ (a : List ℕ) (f : admission_formed a ≡ true) where
  abbrev r : ℕ
  r = route_count a

  abbrev c : ℕ
  c = core_count a

  abbrev e : ℕ
  e = edge_count a

  long : 9 ≤ length a
  unfolding admission_formed
  long = leb-true (routes_at a) (length a) (each_of (admission_tests a) f).0

  size : length a ≡ destinations_at a + total self (sizes a)
  unfolding admission_formed
  size = eqb-true (length a) (destinations_at a + total self (sizes a)) (each_of (admission_tests a) f).1.1.1.1.1.0

  abbrev ids : List ℕ
  ids = part (edges_at a) e a

  ids-size : length ids ≡ e
  ids-size = part_length (edges_at a) e a (omega (arith, size))

  sizes-size : length (sizes a) ≡ e
  sizes-size = part_length (edges_at a + 3 * e) e a (omega (arith, size))

  unzipped : Unzipped ids (froms a) (kinds a) (destinations a) (edges_in a)
  unzipped =
      unzip ids (froms a) (kinds a) (destinations a)
      (part_length (edges_at a + e) e a (omega (arith, size)) ∙ sym ids-size)
      (part_length (edges_at a + 2 * e) e a (omega (arith, size)) ∙ sym ids-size)
      (length_cut (sizes a) (drop (destinations_at a) a) ∙ sizes-size ∙ sym ids-size)

  edges-size : length (edges_in a) ≡ e
  edges-size = sym (length-map (edges_in a) id_of) ∙ ap length unzipped.ids ∙ ids-size

  abbrev to : List ℕ
  to = drop (destinations_at a) a

  to-room : length to ≡ total self (sizes a)
  to-room = length-drop (destinations_at a) a ∙ omega (arith, size)

  sizes-back : map size_of (edges_in a) ≡ sizes a
  sizes-back = sizes_again to_of (edges_in a) (sizes a) to unzipped.tos (omega (arith, to-room))

  tos-back : concat_map to_of (edges_in a) ≡ to
  tos-back =
      joined_again to_of (edges_in a) (sizes a) to unzipped.tos ∙ take_all (total self (sizes a)) to (omega (arith, to-room))

  -- part by part
  at-sizes : drop (edges_at a + 3 * e) a ≡ sizes a ++ to
  at-sizes = part_then (edges_at a + 3 * e) e (destinations_at a) a to (omega arith) refl

  at-kinds : drop (edges_at a + 2 * e) a ≡ kinds a ++ (sizes a ++ to)
  at-kinds = part_then (edges_at a + 2 * e) e (edges_at a + 3 * e) a _ (omega arith) at-sizes

  at-froms : drop (edges_at a + e) a ≡ froms a ++ (kinds a ++ (sizes a ++ to))
  at-froms = part_then (edges_at a + e) e (edges_at a + 2 * e) a _ (omega arith) at-kinds

  at-edges : drop (edges_at a) a ≡ ids ++ (froms a ++ (kinds a ++ (sizes a ++ to)))
  at-edges = part_then (edges_at a) e (edges_at a + e) a _ refl at-froms

  at-routes : drop 9 a ≡ part 9 r a ++ (core_in a ++ (ids ++ (froms a ++ (kinds a ++ (sizes a ++ to)))))
  at-routes = part_then 9 r (9 + r) a _ refl (part_then (9 + r) c (9 + r + c) a _ refl at-edges)

  pub written_again : admission_words (decomposed a) (admission_terms a) ≡ a
  unfolding admission_terms
  written_again =
      let w : (n : ℕ) (m : List ℕ) → n ≤ 8 → drop (n + 1) a ≡ m → drop n a ≡ word n a ∷ m = λ n m h. word_then n a m (omega (arith, long, h)) in
      rw (
        part_length 9 r a (omega (arith, size)),
        part_length (9 + r) c a (omega (arith, size)),
        edges-size,
        unzipped.ids,
        unzipped.froms,
        unzipped.kinds,
        sizes-back,
        tos-back,
      ) (sym (w 0 _ (omega arith) (w 1 _ (omega arith) (w 2 _ (omega arith) (w 3 _ (omega arith) (w 4 _ (omega arith) (w 5 _ (omega arith) (w 6 _ (omega arith) (w 7 _ (omega arith) (w 8 _ (omega arith) at-routes))))))))))

-- What stands at a place of an entry's edges, from its arrays side by side; and its tests of edges as one test of each, or of three of
-- the arrays side by side.
-- Assumes nothing.
use Prim.Native.Nat.{ℕ, ◌+◌, ◌≤◌, ◌<◌}
use mathlib.Core.Path.{◌≡◌, refl, sym, ap, ◌∙◌}
use mathlib.Core.Bool.{Bool, not, ◌&&◌, ◌||◌}
use mathlib.Core.List.{List, [], ◌∷◌}
use native.Mathlib.Numerals.{add-one}
use native.Mathlib.Omega.{arith}
use lib.Dec.{eqb}
use lib.ListN.{length, take, drop, get_or, drop_of_length-le}
use lib.Seq.{drop-cons, length-take-le, get_or-take, take-take}
use Rattle.std.specs.List.{zip}
use Rattle.lists.specs.Lists.{any, all, filled, total, zip_by, cut, self}
use Rattle.lists.proofs.Zip.{length-zip, get_d_zip, length_cut, get_d_cut}
use Rattle.lists.proofs.Picked.{any_picked, all_picked, filled_picked, any-kept}
use Rattle.rules.specs.Numbers.{record_key}
use Rattle.rules.specs.Plain.{Edge, Terms, issued, issues, owes}
use Rattle.rules.specs.Words.{edge, with}
use Rattle.entry.specs.declared.Entry.{Entry}
use Rattle.entry.specs.Entry.{edges_of, Fits}

-- the destinations of the edge at a place
abbrev pub to_at : Entry → ℕ → List ℕ
to_at e i = take (get_or e.sizes i 0) (drop (total self (take i e.sizes)) e.to)

abbrev pub edge_at : Entry → ℕ → Edge
edge_at e i = edge (get_or e.ids i 0) (get_or e.froms i 0) (get_or e.kinds i 0) (to_at e i)

module _ (e : Entry) (fits : Fits e) where
  abbrev n : ℕ
  n = e.edges_len

  front : (a : List ℕ) → length a ≡ 8 → length (take n a) ≡ n
  front a h = length-take-le n a (omega (arith, fits.edges_len))

  abbrev ended : List (ℕ → List ℕ → Edge)
  ended = zip_by edge (take n e.ids) (take n e.froms)

  ended_length : length ended ≡ n
  ended_length =
      length-zip edge (take n e.ids) (take n e.froms) (front e.ids fits.ids ∙ sym (front e.froms fits.froms))
      ∙ front e.ids fits.ids

  abbrev kinded : List (List ℕ → Edge)
  kinded = zip_by with ended (take n e.kinds)

  kinded_length : length kinded ≡ n
  kinded_length = length-zip with ended (take n e.kinds) (ended_length ∙ sym (front e.kinds fits.kinds)) ∙ ended_length

  cut-length : length (cut (take n e.sizes) e.to) ≡ n
  cut-length = length_cut (take n e.sizes) e.to ∙ front e.sizes fits.sizes

  pub length-edges : length (edges_of e) ≡ e.edges_len
  length-edges = length-zip with kinded (cut (take n e.sizes) e.to) (kinded_length ∙ sym cut-length) ∙ kinded_length

  cut_at : (i : ℕ) → i < n → get_or (cut (take n e.sizes) e.to) i [] ≡ to_at e i
  cut_at i h =
      get_d_cut i (take n e.sizes) e.to (omega (arith, front e.sizes fits.sizes))
      ∙ rw (get_or-take n e.sizes i 0 h, take-take i n e.sizes (omega arith))

  pub edge-at : (d : Edge) (i : ℕ) → i < e.edges_len → get_or (edges_of e) i d ≡ edge_at e i
  edge-at d i h =
      get_d_zip with i (edge 0 0 0) [] d kinded (cut (take n e.sizes) e.to) (omega (arith, kinded_length)) (omega (arith, cut-length))
      ∙ rw (cut_at i h, get_d_zip with i (edge 0 0) 0 (edge 0 0 0) ended (take n e.kinds) (omega (arith, ended_length)) (omega (arith, front e.kinds fits.kinds)), get_or-take n e.kinds i 0 h, get_d_zip edge i 0 0 (edge 0 0) (take n e.ids) (take n e.froms) (omega (arith, front e.ids fits.ids)) (omega (arith, front e.froms fits.froms)), get_or-take n e.ids i 0 h, get_or-take n e.froms i 0 h)

  pub edges-cons : (i : ℕ) → i < e.edges_len → drop i (edges_of e) ≡ edge_at e i ∷ drop (i + 1) (edges_of e)
  edges-cons i h =
      let d = edge 0 0 0 [] in
      rw (add-one i, drop-cons (edges_of e) i d (omega (arith, length-edges)), edge-at d i h)

  pub edges-end : (i : ℕ) → e.edges_len ≤ i → drop i (edges_of e) ≡ []
  edges-end i h = drop_of_length-le (edges_of e) {i = i} (omega (arith, length-edges))

-- the tests of edges as one test of each
abbrev pub issuing : ℕ → ℕ → Edge → Bool
issuing local r g = eqb g.from local && eqb (record_key g.id) r

abbrev pub owing : ℕ → Edge → Bool
owing local g = eqb g.from local && eqb g.kind 1

abbrev pub starting : ℕ → Edge → Bool
starting local g = eqb g.from local

abbrev pub waiting : (ℕ → Bool) → ℕ → Edge → Bool
waiting is_marked local g = eqb g.from local && not (is_marked (record_key g.id))

abbrev key_of : Edge → ℕ
key_of g = record_key g.id

pub issues-any : (local r : ℕ) (t : Terms) → issues local r t ≡ any (issuing local r) t.edges
issues-any local r t = any_picked (starting local) key_of (λ k. eqb k r) t.edges

pub owes_any : (local : ℕ) (t : Terms) → owes local t ≡ any (owing local) t.edges
owes_any local t = any-kept (λ (g : Edge). eqb g.kind 1) (starting local) t.edges

pub issued-any : (local : ℕ) (t : Terms) → filled (issued local t) ≡ any (starting local) t.edges
issued-any local t = filled_picked (starting local) key_of t.edges

pub marked_all : (is_marked : ℕ → Bool) (local : ℕ) (t : Terms) → all is_marked (issued local t) ≡ not (any (waiting is_marked local) t.edges)
marked_all is_marked local t = all_picked (starting local) key_of is_marked t.edges

-- a test that reads three of the arrays alone
parts_any : (q : ℕ → ℕ → ℕ → Bool) (ids froms kinds : List ℕ) (tos : List (List ℕ)) → length froms ≡ length ids → length kinds ≡ length ids → length tos ≡ length ids →
    any (λ (g : Edge). q g.from g.id g.kind) (zip_by with (zip_by with (zip_by edge ids froms) kinds) tos) ≡ any (λ (x : (ℕ × ℕ) × ℕ). q x.0.0 x.0.1 x.1) (zip (zip froms ids) kinds)
parts_any q [] [] [] tos h k l = refl
parts_any q [] [] (y ∷ ys) tos h k l = absurd (omega arith)
parts_any q [] (x ∷ xs) kinds tos h k l = absurd (omega arith)
parts_any q (i ∷ is) [] kinds tos h k l = absurd (omega arith)
parts_any q (i ∷ is) (x ∷ xs) [] tos h k l = absurd (omega arith)
parts_any q (i ∷ is) (x ∷ xs) (y ∷ ys) [] h k l = absurd (omega arith)
parts_any q (i ∷ is) (x ∷ xs) (y ∷ ys) (t ∷ ts) h k l = ap (λ b. q x i y || b) (parts_any q is xs ys ts (omega arith) (omega arith) (omega arith))

module _ (e : Entry) (fits : Fits e) where
  abbrev m : ℕ
  m = e.edges_len

  as_ids : (a : List ℕ) → length a ≡ 8 → length (take m a) ≡ length (take m e.ids)
  as_ids a h = front e fits a h ∙ sym (front e fits e.ids fits.ids)

  tos : length (cut (take m e.sizes) e.to) ≡ length (take m e.ids)
  tos = cut-length e fits ∙ sym (front e fits e.ids fits.ids)

  pub any-parts : (q : ℕ → ℕ → ℕ → Bool) →
      any (λ (g : Edge). q g.from g.id g.kind) (edges_of e) ≡ any (λ (x : (ℕ × ℕ) × ℕ). q x.0.0 x.0.1 x.1) (zip (zip (take m e.froms) (take m e.ids)) (take m e.kinds))
  any-parts q = parts_any q (take m e.ids) (take m e.froms) (take m e.kinds) (cut (take m e.sizes) e.to) (as_ids e.froms fits.froms) (as_ids e.kinds fits.kinds) tos

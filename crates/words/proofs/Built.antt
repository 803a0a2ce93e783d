-- Entries put together from words are those of the definitions.
-- Assumes nothing.
use Prim.Native.Nat.{ℕ, ◌+◌}
use mathlib.Core.Path.{◌≡◌, sym, ap, ◌∙◌}
use mathlib.Core.Bool.{false, cond}
use mathlib.Core.List.{List, []}
use native.Mathlib.Omega.{arith}
use lib.Dec.{eqb}
use lib.ListN.{length, take, drop, length-drop}
use lib.Seq.{get_or-drop}
use borrow.Author.Tests.{eq-eqb, ne_eqb}
use Rattle.lists.specs.Lists.{has, self, zip_by, part, cut}
use Rattle.lists.proofs.Cuts.{cut-front}
use Rattle.rules.specs.Plain.{Part, whole, leg, core}
use Rattle.rules.specs.Words.{word, edge, with, route_count, routes_at, edge_count, edges_at, decomposed, destinations_at, core_in, froms, kinds, sizes, destinations, edges_in, admission_terms, group_terms}
use Rattle.rules.specs.Entries.{entry, whole_terms, admitted}
use Rattle.entry.specs.Entry as e
use Rattle.entry.specs.declared.Entry as declared
use Rattle.words.specs.Taken.{bare_entry, with_terms, part_in}
use Rattle.words.proofs.Forms.{Formed}

-- the figures of an entry, which stand from a place on
pub figure : (ws : List ℕ) (at k x : ℕ) → x ≡ word (at + k) ws → x ≡ word k (drop at ws)
figure ws at k x e = e ∙ sym (get_or-drop at ws k 0)

pub first_figure : (ws : List ℕ) (at x : ℕ) → x ≡ word at ws → x ≡ word 0 (drop at ws)
first_figure ws at x e = figure ws at 0 x (e ∙ ap (λ k. word k ws) (let z : at ≡ at + 0 = omega arith in z))

-- the same entry, its place, routes and naming shard written otherwise
pub bare_as : (q : Part) (a b : ℕ) (ws r s : List ℕ) (k m n : ℕ) (x : declared.Entry) → e.Means (bare_entry q a ws r k m) x → a ≡ b → r ≡ s → m ≡ n →
    e.Means (bare_entry q b ws s k n) x
bare_as q a b ws r s k m n x h u v w = rw (← u, ← v, ← w) h

-- an admission's figures stand from its fourth word on
pub whole-terms : (ws : List ℕ) → group_terms (drop 3 ws) (part (routes_at ws) (route_count ws) ws) ≡ whole_terms (admission_terms ws)
unfolding admission_terms
whole-terms ws = λ i. record {
  transaction = get_or-drop 3 ws 0 0 i;
  at = get_or-drop 3 ws 1 0 i;
  end = get_or-drop 3 ws 2 0 i;
  anchor = get_or-drop 3 ws 3 0 i;
  charge = get_or-drop 3 ws 4 0 i;
  routes = part (routes_at ws) (route_count ws) ws;
  core_shards = [];
  edges = [];
}

-- an admitted entry, from the entry x that has its figures, routes and part, but no core and no edges
module _ (local : ℕ) (ws r : List ℕ) (q : Part) (x : declared.Entry) (h : e.Means (bare_entry q 3 ws r 0 0) x) (t : r ≡ part (routes_at ws) (route_count ws) ws) where
  pub bare-terms : (e.plain_entry x).terms ≡ whole_terms (admission_terms ws)
  bare-terms = ap (λ p. p.terms) h.plain ∙ ap (group_terms (drop 3 ws)) t ∙ whole-terms ws

  pub admitted-whole : q ≡ part_in local ws → decomposed ws ≡ 0 → e.Means (admitted local ws) x
  unfolding admitted
  admitted-whole u d =
      let v : q ≡ whole = u ∙ rw (eq-eqb (decomposed ws) 0 d) in
      let same : bare_entry q 3 ws r 0 0 ≡ admitted local ws = rw (v, eq-eqb (decomposed ws) 0 d, t, whole-terms ws) in
      record { plain = h.plain ∙ same }

  -- y is x with the admission's core and edges
  pub admitted_parted : (y : declared.Entry) → e.Means (with_terms (admission_terms ws) (e.plain_entry x)) y → q ≡ part_in local ws → (decomposed ws ≡ 0 → ⊥) →
      e.Means (admitted local ws) y
  unfolding admitted
  admitted_parted y m u d =
      let n : eqb (decomposed ws) 0 ≡ false = ne_eqb (decomposed ws) 0 d in
      let v : q ≡ cond (has self local (core_in ws)) core leg = u ∙ rw n in
      let same : entry q (admission_terms ws) 0 0 ≡ admitted local ws = rw (v, n) in
      record { plain = m.plain ∙ ap (with_terms (admission_terms ws)) h.plain ∙ same }

-- the edges, from the fronts of arrays
pub edges_built : (ws ids from kind size to : List ℕ) (n : ℕ) → n ≡ edge_count ws →
    take (edge_count ws) ids ≡ part (edges_at ws) (edge_count ws) ws → take (edge_count ws) from ≡ froms ws → take (edge_count ws) kind ≡ kinds ws →
    take (edge_count ws) size ≡ sizes ws → cut (sizes ws) to ≡ destinations ws →
    zip_by with (zip_by with (zip_by edge (take n ids) (take n from)) (take n kind)) (cut (take n size) to) ≡ edges_in ws
edges_built ws ids from kind size to n q a b c d t = rw (q, a, b, c, d, t)

pub destinations_built : (ws d to : List ℕ) → Formed ws → d ≡ drop (destinations_at ws) ws → take (length d) to ≡ d → cut (sizes ws) to ≡ destinations ws
destinations_built ws d to f q t =
    sym (cut-front (sizes ws) to (length d) (omega (arith, ap length q, length-drop (destinations_at ws) ws, f.exact)))
    ∙ ap (cut (sizes ws)) (t ∙ q)

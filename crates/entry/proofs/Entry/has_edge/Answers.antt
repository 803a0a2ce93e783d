-- A test of from-shards, ids and kinds side by side is one of the edges.
use Rattle.std.proofs.Common.{ℕ, rules, sym, ◌∙◌, take}
use Rattle.std.proofs.lemmas.Iterator.{YieldsList-from_slice, YieldsList-from_zip}
use Rattle.std.proofs.lemmas.Iterator.Adapters.{serves_from_places}
use Rattle.std.proofs.lemmas.Iterator.Search.{any_from_yields_List}
use Rattle.entry.proofs.Edges.{any-parts}
use Rattle.entry.proofs.Shape.{fits_of}
use Rattle.entry.proofs.Entry.has_edge.Goals as goal

pub any-requires-clause-callable : goal.any-requires-clause-callable
any-requires-clause-callable g c =
    let e = c.args.self.now in
    let n = e.edges_len in
    serves_from_places (YieldsList-from_zip (YieldsList-from_zip (YieldsList-from_slice (take n e.froms) cc) (YieldsList-from_slice (take n e.ids) cc)) (YieldsList-from_slice (take n e.kinds) cc))
    (λ x q k. search rules) (λ x i h k. search rules)

pub returns : goal.returns
returns g c = λ q says.
    let e = c.args.self.now in
    let n = e.edges_len in
    any_from_yields_List (λ (x : (ℕ × ℕ) × ℕ). q x.0.0 x.0.1 x.1) c.any.new.self _ _ c.any.ensures.ran
    (YieldsList-from_zip (YieldsList-from_zip (YieldsList-from_slice (take n e.froms) cc) (YieldsList-from_slice (take n e.ids) cc)) (YieldsList-from_slice (take n e.kinds) cc))
    (λ x b p k. (search rules, says (record { 0 = x.0.0.now }) x.0.1.now x.1.now b (search rules)))
    ∙ sym (any-parts e (fits_of e) q)

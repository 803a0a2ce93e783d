-- The test of an edge, as the edges from local have it.
use Rattle.std.proofs.Common.{rules, tests, sym, ◌∙◌, eqb, ◌&&◌}
use Rattle.lists.proofs.Picked.{any-kept}
use Rattle.rules.specs.Plain.{Edge}
use Rattle.entry.specs.Entry.{plain_entry, edges_of}
use Rattle.entry.proofs.Edges.{starting}
use Rattle.entry_lists.proofs.issues_id.Goals as goal

pub returns : goal.returns
unfolding plain_entry
returns c =
    let a = c.args in
    c.has_edge.ensures (λ from held kind. eqb from a.local.0 && eqb held a.id) (λ from held kind b k. search (rules, tests))
    ∙ sym (any-kept (λ (g : Edge). eqb g.id a.id) (starting a.local.0) (edges_of a.e.now))

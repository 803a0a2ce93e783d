-- The test of an edge is the rule's.
use Rattle.std.proofs.Common.{rules, tests, sym, ◌∙◌, eqb, ◌&&◌}
use Rattle.entry.specs.Entry.{plain_entry}
use Rattle.entry.proofs.Edges.{owes_any}
use Rattle.entry.proofs.Entry.owes.Goals as goal

pub returns : goal.returns
unfolding plain_entry
returns c =
    let a = c.args in
    c.has_edge.ensures (λ from id kind. eqb from a.local.0 && eqb kind 1) (λ from id kind b k. search (rules, tests))
    ∙ sym (owes_any a.local.0 (plain_entry a.self.now).terms)

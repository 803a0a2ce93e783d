-- The test of an edge is the rule's.
use Rattle.std.proofs.Common.{rules, tests, sym, ◌∙◌, eqb, ◌&&◌}
use Rattle.rules.specs.Numbers.{record_key}
use Rattle.entry.specs.Entry.{plain_entry}
use Rattle.entry.proofs.Edges.{issues-any}
use Rattle.entry.proofs.Entry.issues.Goals as goal

pub returns : goal.returns
unfolding plain_entry
returns c =
    let a = c.args in
    c.has_edge.ensures (λ from id kind. eqb from a.local.0 && eqb (record_key id) a.r.0) (λ from id kind b k. search (rules, tests))
    ∙ sym (issues-any a.local.0 a.r.0 (plain_entry a.self.now).terms)

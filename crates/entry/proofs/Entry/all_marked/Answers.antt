-- All are marked where no edge from local waits.
use Rattle.std.proofs.Common.{rules, tests, sym, ap, ◌∙◌, eqb, not, ◌&&◌}
use Rattle.rules.specs.Numbers.{record_key}
use Rattle.entry.specs.Entry.{plain_entry, is_marked}
use Rattle.entry.proofs.Edges.{marked_all}
use Rattle.entry.proofs.Entry.all_marked.Goals as goal

pub returns : goal.returns
unfolding plain_entry
returns c =
    let a = c.args in
    let e = a.self.now in
    ap not (c.has_edge.ensures (λ from id kind. eqb from a.local.0 && not (is_marked e (record_key id))) (λ from id kind b k. search (rules, tests)))
    ∙ sym (marked_all (is_marked e) a.local.0 (plain_entry e).terms)

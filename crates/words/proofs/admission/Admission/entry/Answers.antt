-- The entry without core and edges is the whole one; with them it is the other.
use Rattle.std.proofs.Common.{sym, ◌∙◌}
use borrow.Author.Tests.{eqb-true, eqb-false}
use Rattle.entry.specs.Entry.{plain_part}
use Rattle.words.proofs.Built.{bare-terms, admitted-whole, admitted_parted}
use Rattle.words.proofs.admission.Admission.entry.Goals as goal

pub with_edges-requires : goal.with_edges-requires
with_edges-requires c =
    let p = c.args.self.parts in
    bare-terms c.args.local.0 p.words.now p.routes.now (plain_part c.part-part.result) c.bare-e.result c.bare-e.ensures p.split.routes

pub returns-then-is_whole : goal.returns-then-is_whole
returns-then-is_whole c =
    let p = c.args.self.parts in
    admitted-whole c.args.local.0 p.words.now p.routes.now (plain_part c.part-part.result) c.bare-e.result c.bare-e.ensures p.split.routes
    c.part-part.ensures (eqb-true _ _ (sym c.is_whole.ensures ∙ c.if-is_whole.true))

pub returns-else-is_whole : goal.returns-else-is_whole
returns-else-is_whole c =
    let p = c.args.self.parts in
    admitted_parted c.args.local.0 p.words.now p.routes.now (plain_part c.part-part.result) c.bare-e.result c.bare-e.ensures p.split.routes
    c.with_edges.result c.with_edges.ensures c.part-part.ensures (eqb-false _ _ (sym c.is_whole.ensures ∙ c.if-is_whole.false))

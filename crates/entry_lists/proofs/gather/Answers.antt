-- Each turn passes an entry by, or puts its item behind those that are there.
use Rattle.std.proofs.Common.{arith, ap, ◌∙◌, refl, ◌≤◌}
use Rattle.std.proofs.lemmas.Fn.{says_at}
use Rattle.lists.specs.Lists.{keep}
use Rattle.lists.proofs.Listing.{next-kept, next-left}
use Rattle.entry.specs.Entry.{plain_entry}
use Rattle.ledger.specs.Contents.{contents}
use Rattle.ledger.proofs.Places.{none_left, at_turn}
use Rattle.entry_lists.specs.Runs.{item_words}
use Rattle.entry_lists.proofs.Runs.{passed_by, put_one, ended, within}
use Rattle.entry_lists.proofs.gather.Goals as goal
use Rattle.entry_lists.proofs.gather.Goals.{in-Some, in_default}

pub loop-slot-preserved : goal.loop-slot-preserved
unfolding plain_entry
loop-slot-preserved g c =
    let l = c.loop-slot in
    let a = c.args.ledger.now in
    let size = c.args.size in
    let t = at_turn a c.requires.held l.slot-index (omega arith) in
    elim c.match-row_of.branch [
      | in-Some w ↦ rw (w.count-is, w.words-is) (
        omega (arith, l.invariant.0),
        λ p row each q. (
            let r = rw w.in-Some.is at (q _ _ (t.good _) (says_at g.F.Fn c.row_of.ensures refl)) in
            put_one (item_words row) size each _ _ _ _ _ (next-kept p _ _ _ (t.next _) r.0) (omega arith) (rw (w.as_slice.ensures ∙ r.1) at w.put_item.ensures) (l.invariant.1 p row each q)
            ),
      )
      | in_default w ↦ rw (w.count-is, w.words-is) (
        omega (arith, l.invariant.0),
        λ p row each q. (
            let r = rw w.in_default.is at (q _ _ (t.good _) (says_at g.F.Fn c.row_of.ensures refl)) in
            passed_by (item_words row) size each _ _ _ (next-left p _ _ _ (t.next _) r) (omega arith) (l.invariant.1 p row each q)
            ),
      )
    ]

pub returns-clause-items : goal.returns-clause-items
unfolding contents
returns-clause-items g c = λ p row each q. (
    let l = c.loop-slot in
    let a = c.args.ledger.now in
    let e = ap (keep p) (none_left a c.requires.held l.slot-index (omega arith)) in
    let few : l.count ≤ 48 = omega (arith, l.invariant.0, a.roster.room) in
    ended (item_words row) c.args.size each _ e (within c.args.size l.count _ few c.requires.room) (l.invariant.1 p row each q)
    )

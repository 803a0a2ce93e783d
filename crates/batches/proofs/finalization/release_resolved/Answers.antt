-- A turn of the loop is one line: it skips, turns to remainder or releases as the rule on its entry says.
use Rattle.std.proofs.Common.{sym, ◌∙◌, arith}
use mathlib.Core.Logic.{inl, inr}
use Rattle.types.specs.Transactions.{number_of}
use Rattle.words.proofs.Lines.{finalized}
use Rattle.rules.specs.Words.{finalization_lines}
use Rattle.ledger.specs.declared.Ledger.{Ledger}
use Rattle.ledger.specs.Contents.{slot_at}
use Rattle.ledger.proofs.Places.{AtSlot, found_at, in_slot}
use Rattle.ledger.proofs.Doing.{nothing-done}
use Rattle.batches.proofs.Resolving.{turned_away, resolved, released_few, line_unknown, line_leave, line-resolve, line-release}
use Rattle.batches.proofs.finalization.release_resolved.Goals as goal
use Rattle.batches.proofs.finalization.release_resolved.Goals.{in-Skip, in-Resolve, in-Release, in-Refused}

-- the line's transaction was found
there : (c : goal.In-Some-find) → AtSlot c.loop-i.ledger (number_of c.line-line.result.tx) c.in-Some-find.k
there c = found_at c.loop-i.ledger c.loop-i.invariant.held _ c.in-Some-find.k (sym c.find.ensures ∙ c.in-Some-find.is)

pub returns-in_default : goal.returns-in_default
returns-in_default c = turned_away c.args.ledger.now c.args.words.now c.requires c.in_default.ensures

pub loop-i-init : goal.loop-i-init
loop-i-init c = nothing-done _ _ (finalization_lines c.in-Some.finalization.words.now) c.args.ledger.now c.requires

pub loop-i-preserved-in_default-find : goal.loop-i-preserved-in_default-find
loop-i-preserved-in_default-find c =
    let l : Ledger = c.loop-i.ledger in
    line_unknown c.args.ledger.now c.in-Some.finalization.words.now l c.loop-i.released c.loop-i.i c.loop-i.invariant _ c.line-line.ensures.next (sym c.find.ensures ∙ c.in_default-find.is)

pub offset_bounds-ledger-k : goal.offset_bounds-ledger-k
offset_bounds-ledger-k c = omega (arith, (there c).place)

pub bounds-ledger-k : goal.bounds-ledger-k
bounds-ledger-k c =
    let l : Ledger = c.loop-i.ledger in
    omega (arith, (found_at l c.loop-i.invariant.held _ c.in-Some-find.k (sym c.find.ensures ∙ c.in-Some-find.is)).place, l.roster.room)

pub remove_at-requires : goal.remove_at-requires
remove_at-requires c =
    let l : Ledger = c.loop-i.ledger in
    (found_at l c.loop-i.invariant.held _ c.in-Some-find.k (sym c.find.ensures ∙ c.in-Some-find.is)).place

pub overflow_add-released : goal.overflow_add-released
overflow_add-released c =
    let l : Ledger = c.loop-i.ledger in
    omega (arith, finalized c.in-Some.finalization.words.now c.in-Some.finalization.formed, released_few c.args.ledger.now c.in-Some.finalization.words.now l c.loop-i.released c.loop-i.i c.in-Some.finalization.formed c.loop-i.invariant)

pub loop-i-preserved : goal.loop-i-preserved
loop-i-preserved c =
    let l : Ledger = c.loop-i.ledger in
    let slot = (found_at l c.loop-i.invariant.held _ c.in-Some-find.k (sym c.find.ensures ∙ c.in-Some-find.is)).slot in
    elim c.match-rule.branch [
      | in-Skip w ↦ rw (w.ledger-is, w.released-is) (line_leave c.args.ledger.now c.in-Some.finalization.words.now l c.loop-i.released c.loop-i.i c.loop-i.invariant _ c.line-line.ensures.next c.in-Some-find.k _ (sym c.find.ensures ∙ c.in-Some-find.is) c.line-line.ensures.coded c.rule.result c.rule.ensures (inl w.in-Skip.is))
      | in-Resolve w ↦ rw (w.ledger-is, w.released-is) (line-resolve c.args.ledger.now c.in-Some.finalization.words.now l c.loop-i.released c.loop-i.i c.loop-i.invariant _ c.line-line.ensures.next c.in-Some-find.k _ (sym c.find.ensures ∙ c.in-Some-find.is) c.line-line.ensures.coded c.rule.result c.rule.ensures w.in-Resolve.is _ (rw (in_slot l (slot_at l c.in-Some-find.k) w.index-ledger-slot-in-Resolve.result c.index-ledger-slot.result slot) at w.resolve.ensures) _)
      | in-Release w ↦ rw (w.ledger-is, w.released-is) (line-release c.args.ledger.now c.in-Some.finalization.words.now l c.loop-i.released c.loop-i.i c.loop-i.invariant _ c.line-line.ensures.next c.in-Some-find.k _ (sym c.find.ensures ∙ c.in-Some-find.is) c.line-line.ensures.coded c.rule.result c.rule.ensures w.in-Release.is _ _ w.remove_at.ensures w.unname.ensures _)
      | in-Refused w ↦ rw (w.ledger-is, w.released-is) (line_leave c.args.ledger.now c.in-Some.finalization.words.now l c.loop-i.released c.loop-i.i c.loop-i.invariant _ c.line-line.ensures.next c.in-Some-find.k _ (sym c.find.ensures ∙ c.in-Some-find.is) c.line-line.ensures.coded c.rule.result c.rule.ensures (inr w.in-Refused.is))
    ]

pub returns : goal.returns
returns c =
    let l : Ledger = c.loop-i.ledger in
    rw c.in-Some.ensures at (resolved c.args.ledger.now c.in-Some.finalization.words.now l c.loop-i.released c.loop-i.i c.in-Some.finalization.formed c.loop-i.invariant (omega (arith, c.loop-i-test.false, c.len-i-end.ensures)))

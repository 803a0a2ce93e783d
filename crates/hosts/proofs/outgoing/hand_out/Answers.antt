-- The words of the ledger's snapshot are at hand, and both slices are long enough or nothing is written.
use Rattle.std.proofs.Common.{[], refl, take, ◌≡◌, arith, length, sym, ◌∙◌}
use mathlib.Core.Path.{subst}
use lib.Seq.{length-take-le}
use Rattle.rules.specs.Snapshot.{snapshot_words}
use Rattle.ledger.specs.Contents.{contents}
use Rattle.hosts.specs.Hosts.{Given, Gives}
use Rattle.hosts.proofs.Goes.{handed, out_short, reports_short, put_written}
use Rattle.hosts.proofs.outgoing.hand_out.Goals as goal
use Rattle.hosts.proofs.outgoing.hand_out.Goals.{then-out-n-via-then-out-n, then-out-n-via-else-out-n+then-reports-told}

pub overflow_mul-n : goal.overflow_mul-n
overflow_mul-n c =
    let w = c.whole_snapshot-n.ensures in
    omega (arith, w.few, w.count)

pub returns-then-out-n : goal.returns-then-out-n
returns-then-out-n c =
    let a = c.args in
    let p = contents a.ledger.now in
    let w = c.whole_snapshot-n.ensures in
    let alone : (g : Given) → g ≡ record { number = 9; out = []; reports = [] } → Gives g a.out.now a.out.now a.reports.now a.reports.now c.number.result =
    λ g e. subst (λ h. Gives h a.out.now a.out.now a.reports.now a.reports.now c.number.result) (sym e) (record { number = c.number.ensures; wrote = refl; told = refl }) in
    elim c.then-out-n.branch [
      | then-out-n-via-then-out-n v ↦
          alone _ (out_short p a.told.now (length a.out.now) (length a.reports.now) (omega (arith, w.count, v.if-out-n.true)))
      | then-out-n-via-else-out-n+then-reports-told v ↦
          alone _ (reports_short p a.told.now (length a.out.now) (length a.reports.now) (omega (arith, w.count, v.if-out-n.false)) v.if-reports-told.true)
    ]

pub slice_bounds-words-end : goal.slice_bounds-words-end
slice_bounds-words-end c =
    let w = c.whole_snapshot-n.ensures in
    omega (arith, w.few, w.count)

pub slice_bounds-put_words-end : goal.slice_bounds-put_words-end
slice_bounds-put_words-end c =
    let w = c.whole_snapshot-n.ensures in
    sym (length-take-le c.whole_snapshot-n.result c.whole_snapshot-n.new.words
    (omega (arith, w.few, w.count)))

pub returns : goal.returns
returns c =
    let a = c.args in
    let p = contents a.ledger.now in
    let w = c.whole_snapshot-n.ensures in
    let fits = handed p a.told.now (length a.out.now) (length a.reports.now) (omega (arith, w.count, c.if-out-n.false)) c.if-reports-told.false in
    let front : take c.whole_snapshot-n.result c.whole_snapshot-n.new.words ≡ snapshot_words p = w.snapshot in
    subst (λ g. Gives g a.out.now c.put_words.new.out a.reports.now c.put_words-2.new.out 0) (sym fits)
    (record {
      number = refl;
      wrote = c.put_words.ensures ∙ put_written (snapshot_words p) _ a.out.now front;
      told = c.put_words-2.ensures ∙ put_written a.told.now a.told.now a.reports.now refl;
    })

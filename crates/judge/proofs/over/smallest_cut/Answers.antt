-- A turn that counts before the first so far takes its place; at the end what is left is the smallest of all.
use Rattle.std.proofs.Common.{◌-◌, ◌∙◌, arith, sym}
use Rattle.lists.proofs.Held.{held_at}
use Rattle.judge.proofs.Leaving.{item_on, turn_won, turn_lost, all_down, smallest_in_words}
use Rattle.judge.proofs.over.smallest_cut.Goals as goal

pub counts_first-requires : goal.counts_first-requires
counts_first-requires c = (item_on c.args.view.now c.args.cuts.now (c.departures.k - 1) c.requires (omega (arith, c.departures.invariant.0)), c.departures.invariant.1)

pub departures-preserved-then-not-counts_first : goal.departures-preserved-then-not-counts_first
departures-preserved-then-not-counts_first c =
    let l = c.departures in
    let cuts = c.args.cuts.now in (
      omega (arith, l.invariant.0),
      l.invariant.1,
      λ ds now s. turn_lost ds cuts l.k _ (l.invariant.2 ds now s) (omega arith) l.invariant.0 _ (sym (held_at cuts.places (l.k - 1) 0 (omega (arith, l.invariant.0))))
          (sym (c.counts_first.ensures ds now s) ∙ c.if-not-counts_first.true),
    )

pub departures-preserved : goal.departures-preserved
departures-preserved c =
    let l = c.departures in
    let v = c.args.view.now in
    let cuts = c.args.cuts.now in (
      omega (arith, l.invariant.0),
      (item_on v cuts (l.k - 1) c.requires (omega (arith, l.invariant.0)), tt),
      λ ds now s. turn_won ds cuts l.k _ (l.invariant.2 ds now s) (omega arith) l.invariant.0 _ (sym (held_at cuts.places (l.k - 1) 0 (omega (arith, l.invariant.0)))) (sym (c.counts_first.ensures ds now s) ∙ c.if-not-counts_first.false),
    )

pub returns : goal.returns
returns c =
    let l = c.departures in
    let cuts = c.args.cuts.now in
    smallest_in_words c.args.view.now cuts c.of.result c.requires (rw c.of.ensures l.invariant.1)
    (λ ds now s. all_down ds cuts l.k l.first (l.invariant.2 ds now s) (omega arith) c.of.result c.of.ensures)

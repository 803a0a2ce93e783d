-- The parts of an admission's words tell where it ends.
use Rattle.std.proofs.Common.{◌∙◌, ◌+◌, ◌-◌, sym, ap, length, arith}
use Rattle.words.proofs.Forms.{few_total}
use Rattle.snapshots.proofs.Forms.{sizes_over, ends_early, measured}
use Rattle.snapshots.proofs.form.admission_length.Goals as goal

pub total-n-requires : goal.total-n-requires
total-n-requires c = few_total _ _ _ _ _ _ _ _ c.in_ok-parts.parts.split (sym c.all_within.ensures ∙ c.if-not-all_within.false)

pub returns-then-not-all_within : goal.returns-then-not-all_within
returns-then-not-all_within c = sizes_over _ _ _ _ _ _ _ _ _ c.in_ok-parts.parts.split c.in_ok-parts.ensures (sym c.all_within.ensures ∙ c.if-not-all_within.true)

pub returns-then-parts-n : goal.returns-then-parts-n
returns-then-parts-n c = ends_early _ _ _ _ _ _ _ _ _ c.in_ok-parts.parts.split c.in_ok-parts.ensures (omega arith)

pub returns : goal.returns
returns c =
    let m = measured _ _ _ _ _ _ _ _ _ c.in_ok-parts.parts.split c.in_ok-parts.ensures (sym c.all_within.ensures ∙ c.if-not-all_within.false) (omega arith) in
    (m.0, ap (λ k. length c.args.words.now - length c.in_ok-parts.parts.destinations.now + k) c.total-n.ensures ∙ m.1)

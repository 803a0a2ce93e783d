-- Each line of the table hands back the empty ledger of a refused making.
use Rattle.std.proofs.Common.{◌∙◌, sym}
use Rattle.types.specs.declared.refusal.Refusal.TheVariants.{NoLocal, NoSpan}
use Rattle.calls.proofs.Empties.{made, not_made, no_shard, no_span, all_right}
use Rattle.calls.proofs.making.new.Goals as goal

pub returns-then-not-is_shard : goal.returns-then-not-is_shard
returns-then-not-is_shard c =
    let a = c.args in
    not_made a.local.0 a.validity a.core_span a.leg_span NoLocal c.empty.result c.empty.ensures (no_shard a.local.0 a.validity a.core_span a.leg_span (sym c.is_shard.ensures ∙ c.if-not-is_shard.true))

pub returns-then-not-are_spans : goal.returns-then-not-are_spans
returns-then-not-are_spans c =
    let a = c.args in
    not_made a.local.0 a.validity a.core_span a.leg_span NoSpan c.empty-then-not-are_spans.result c.empty-then-not-are_spans.ensures
    (no_span a.local.0 a.validity a.core_span a.leg_span (sym c.is_shard.ensures ∙ c.if-not-is_shard.false) (sym c.are_spans.ensures ∙ c.if-not-are_spans.true))

pub returns : goal.returns
returns c =
    let a = c.args in
    made a.local.0 a.validity a.core_span a.leg_span c.empty-2.result c.empty-2.ensures
    (all_right a.local.0 a.validity a.core_span a.leg_span (sym c.is_shard.ensures ∙ c.if-not-is_shard.false) (sym c.are_spans.ensures ∙ c.if-not-are_spans.false))

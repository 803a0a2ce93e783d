-- One more is taken in.
use Rattle.std.proofs.Common.{◌∙◌, sym, arith}
use Rattle.words.proofs.Forms.{all_words_lem}
use Rattle.snapshots.proofs.Taking.{none_taken, here, all_taken, reaches, formed, not_sound, not_last, enters, one_taken}
use Rattle.snapshots.proofs.restore.take_entries.Goals as goal

pub loop-n-init : goal.loop-n-init
loop-n-init c = none_taken _ _ _ c.requires

pub split_at-requires : goal.split_at-requires
split_at-requires c = let l = c.loop-n in reaches _ _ _ c.requires _ _ _ l.invariant c.loop-n-test.true

pub read_entry-requires : goal.read_entry-requires
read_entry-requires c = let l = c.loop-n in rw c.split_at.ensures.front (formed _ _ _ c.requires _ _ _ l.invariant c.loop-n-test.true)

pub returns-in_default : goal.returns-in_default
returns-in_default c =
    let l = c.loop-n in
    not_sound _ _ _ c.requires _ _ _ l.invariant c.loop-n-test.true (rw (here _ _ _ c.requires _ _ _ l.invariant, c.split_at.ensures.front) at c.in_default.ensures)

pub returns-then-not-is_last : goal.returns-then-not-is_last
returns-then-not-is_last c =
    let l = c.loop-n in
    not_last _ _ _ c.requires _ _ _ l.invariant c.loop-n-test.true c.in-Some.e (rw c.split_at.ensures.front at c.in-Some.ensures.1) (sym c.is_last.ensures ∙ c.if-not-is_last.true)

pub take_in-requires : goal.take_in-requires
take_in-requires c =
    let l = c.loop-n in
    enters _ _ _ c.requires _ _ _ l.invariant c.loop-n-test.true c.in-Some.e (rw c.split_at.ensures.front at c.in-Some.ensures.1)
    (rw (here _ _ _ c.requires _ _ _ l.invariant, c.split_at.ensures.front) at c.in-Some.ensures.0) (sym c.is_last.ensures ∙ c.if-not-is_last.false)
    (all_words_lem c.args.joined.now (λ i. omega (arith, c.type_inv.joined i)))

pub loop-n-preserved : goal.loop-n-preserved
loop-n-preserved c =
    let l = c.loop-n in
    rw c.split_at.ensures.back
    (one_taken _ _ _ c.requires _ _ _ l.invariant c.loop-n-test.true c.in-Some.e (rw c.split_at.ensures.front at c.in-Some.ensures.1)
    (rw (here _ _ _ c.requires _ _ _ l.invariant, c.split_at.ensures.front) at c.in-Some.ensures.0) (sym c.is_last.ensures ∙ c.if-not-is_last.false)
    (all_words_lem c.args.joined.now (λ i. omega (arith, c.type_inv.joined i))) _ c.take_in.ensures)

pub returns : goal.returns
returns c = let l = c.loop-n in all_taken _ _ _ c.requires _ _ _ l.invariant c.loop-n-test.false
